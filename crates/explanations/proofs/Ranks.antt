-- The rank of a run rises with the order of runs, and no run of at most 24 bytes reaches the top rank. Assumes nothing.
use Prim.Native.Nat.{ℕ, suc, ◌+◌, ◌*◌, ◌-◌, ◌<◌, ◌≤◌}
use mathlib.Core.Path.{◌≡◌, subst}
use mathlib.Core.List.{List, [], ◌∷◌}
use mathlib.Core.Logic.{⊎_elim}
use native.Mathlib.Omega.{arith}
use lib.ListN.{length, get_or, take, replicate}
use lib.Dec.{T}
use Rattle.std.specs.Prelude.{Option, Some, None}
use Rattle.walks.specs.Order.{smaller, before}
use Rattle.walks.proofs.Order.{smaller_cases, before_cases}
use Rattle.explanations.specs.Turns.{rank_from, rank, top_rank}

-- the numbers of a run are bytes
abbrev pub Bytes : List ℕ → Type 0
Bytes r = (k : ℕ) → get_or r k 0 < 256

grows : (r : List ℕ) (v : ℕ) → v ≤ rank_from v r
unfolding rank_from
grows [] v = omega arith
grows (a ∷ r) v = omega (arith, grows r (v * 256 + a))

-- what is put before a run outweighs it
rises : (r s : List ℕ) (v w : ℕ) → Bytes r → v < w → length r ≤ length s → rank_from v r < rank_from w s
unfolding rank_from
rises [] s v w b h l = omega (arith, grows s w, h)
rises (a ∷ r) [] v w b h l = absurd (omega arith)
rises (a ∷ r) (x ∷ s) v w b h l =
    let low : a < 256 = b 0 in
    rises r s (v * 256 + a) (w * 256 + x) (λ k. b (suc k)) (omega (arith, h, low)) (omega (arith, l))

smaller_rises : (r s : List ℕ) (v : ℕ) → Bytes r → length r ≡ length s → T (smaller r s) → rank_from v r < rank_from v s
unfolding rank_from smaller
smaller_rises [] s v b l t = absurd t
smaller_rises (a ∷ r) [] v b l t = absurd t
smaller_rises (a ∷ r) (x ∷ s) v b l t =
    ⊎_elim (λ (h : a < x). rises r s (v * 256 + a) (v * 256 + x) (λ k. b (suc k)) (omega (arith, h)) (omega (arith, l)))
    (λ (h : (a ≡ x) × T (smaller r s)).
    subst (λ (y : ℕ). rank_from (v * 256 + a) r < rank_from (v * 256 + y) s) h.0 (smaller_rises r s (v * 256 + a) (λ k. b (suc k)) (omega (arith, l)) h.1))
    (smaller_cases a x r s t)

longer_rises : (r s : List ℕ) → Bytes r → length r < length s → rank_from 1 r < rank_from 1 s
unfolding rank_from
longer_rises r [] b l = absurd (omega arith)
longer_rises r (x ∷ s) b l = rises r s 1 (1 * 256 + x) b (omega arith) (omega (arith, l))

-- a run that comes later has the larger rank
pub later-rank : (r s : List ℕ) → Bytes r → T (before r s) → rank r < rank s
unfolding rank
later-rank r s b t =
    ⊎_elim (longer_rises r s b) (λ (h : (length r ≡ length s) × T (smaller r s)). smaller_rises r s 1 b h.0 h.1) (before_cases r s t)

pub below_top : (r : List ℕ) → Bytes r → length r ≤ 24 → rank r < top_rank
unfolding rank top_rank
below_top r b l = rises r (replicate 24 0) 1 2 b (omega arith) (omega (arith, l))

-- how many lines are left at most after one that shows a run at the front of the room
abbrev pub lines_left : Option ℕ → List ℕ → ℕ
lines_left (Some n) room = suc (top_rank - rank (take n room))
lines_left None room = 0
