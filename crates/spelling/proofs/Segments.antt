-- A case's bytes kind by kind, and what has been read of a file is what would be written of the case so far.
-- Assumes nothing.
use mathlib.Core.Path.{◌≡◌, sym, ap, ◌∙◌}
use mathlib.Core.Bool.{◌||◌}
use mathlib.Core.Logic.{⊎_elim}
use mathlib.Core.List.{List, [], ◌∷◌, ◌++◌, append_assoc}
use Prim.Native.Nat.{ℕ, ◌≤◌}
use native.Mathlib.Omega.{arith}
use lib.ListN.{get_or, take}
use lib.Dec.{T, eqb, eqb→eq}
use Rattle.walks.proofs.Tests.{or_cases}
use Rattle.rack.specs.Writing.{up_to, nt_bytes, tr_bytes, pr_bytes, ob_bytes, pt_bytes, px_bytes, qf_bytes, lg_bytes, en_bytes, bytes_of}
use Rattle.rack.specs.declared.Case.{Case}
use Rattle.rack.specs.declared.Mark.{Mark}
use Rattle.rack.specs.declared.Mark.TheVariants.{En}
use Rattle.std.proofs.Common.{Option, Some}
use Rattle.rack.proofs.WellFormed.{stage}
use Rattle.spelling.proofs.Repeats.{up_to_none, up_to_skip}
use Rattle.spelling.proofs.Spells.{Spells}
use Rattle.spelling.proofs.TableRule.{repeats, reachable, InOrder}

-- the bytes of all records of one kind, for each kind in the table's order
unfoldable pub segments : Case → List (List ℕ)
segments c =
    nt_bytes c.net
    ∷ up_to c.arcs.count (tr_bytes c.arcs)
    ∷ up_to c.pairs.count (pr_bytes c.pairs)
    ∷ ob_bytes c.observable
    ∷ pt_bytes c.pattern
    ∷ up_to c.links.count (px_bytes c.links)
    ∷ up_to c.bounds.count (qf_bytes c.pattern.places c.bounds)
    ∷ lg_bytes c.log
    ∷ en_bytes
    ∷ []

unfoldable pub segment : Case → ℕ → List ℕ
segment c j = get_or (segments c) j []

-- the bytes of the records read, the last of which has mark k (None: none was read)
unfoldable pub so_far : Option Mark → Case → List ℕ
so_far k c = up_to (stage k) (segment c)

pub all_segments : (c : Case) → bytes_of c ≡ so_far (Some En) c
unfolding bytes_of so_far segment segments up_to
all_segments c = simp append_assoc

-- of the kinds from number n on nothing has come yet
pub record Unread (n : ℕ) (c : Case) : Type 0 where
  pub arcs : n ≤ 1 → c.arcs.count ≡ 0
  pub pairs : n ≤ 2 → c.pairs.count ≡ 0
  pub links : n ≤ 5 → c.links.count ≡ 0
  pub bounds : n ≤ 6 → c.bounds.count ≡ 0

module _ (c : Case) (n : ℕ) (u : Unread n c) where
  named : (i j : ℕ) → segment c i ≡ [] → T (eqb j i) → segment c j ≡ []
  named i j e t = ap (segment c) (eqb→eq j i t) ∙ e

  -- so their bytes are none
  none_yet : (j : ℕ) → n ≤ j → T (repeats j) → segment c j ≡ []
  unfolding segment segments repeats
  none_yet j h t =
      ⊎_elim (λ e. let q = eqb→eq j 1 e in named 1 j (up_to_none c.arcs.count (tr_bytes c.arcs) (u.arcs (omega arith))) e)
      (λ t. ⊎_elim (λ e. let q = eqb→eq j 2 e in named 2 j (up_to_none c.pairs.count (pr_bytes c.pairs) (u.pairs (omega arith))) e)
      (λ t. ⊎_elim (λ e. let q = eqb→eq j 5 e in named 5 j (up_to_none c.links.count (px_bytes c.links) (u.links (omega arith))) e)
      (λ e. let q = eqb→eq j 6 e in named 6 j (up_to_none c.bounds.count (qf_bytes c.pattern.places c.bounds) (u.bounds (omega arith))) e)
      (or_cases (eqb j 5) (eqb j 6) t))
      (or_cases (eqb j 2) (eqb j 5 || eqb j 6) t))
      (or_cases (eqb j 1) (eqb j 2 || (eqb j 5 || eqb j 6)) t)

-- where a mark of number m comes next, the kinds passed over have added nothing
pub up_to_here : (f : List ℕ) (a : ℕ) (k : Option Mark) (m : ℕ) (c : Case) → InOrder (stage k) m → Unread (stage k) c → so_far k c ≡ take a f → up_to (reachable m) (segment c) ≡ take a f
unfolding so_far
up_to_here f a k m c o u e =
    up_to_skip (stage k) (reachable m) (segment c) o.least (λ j l h. none_yet c (stage k) u j l (o.between j l h)) ∙ e

-- a kind of which one record more has come: x before it, x' with it
pub join : {f : List ℕ} {a e : ℕ} {b : List ℕ} (h x x' : List ℕ) → h ++ x ≡ take a f → x' ≡ x ++ b → Spells f a b e → h ++ x' ≡ take e f
join {f} {a} {e} {b} h x x' r q s = ap (λ (l : List ℕ). h ++ l) q ∙ sym (append_assoc h x b) ∙ ap (λ (l : List ℕ). l ++ b) r ∙ s.is

-- a kind of which there is one record
pub close : {f : List ℕ} {a e : ℕ} {b : List ℕ} (h : List ℕ) → h ≡ take a f → Spells f a b e → h ++ b ≡ take e f
close {f} {a} {e} {b} h r s = ap (λ (l : List ℕ). l ++ b) r ∙ s.is
