-- Bounds read from QF records spell the records again.
-- Assumes nothing.
use mathlib.Core.Path.{◌≡◌, sym, ap, ap₂, ◌∙◌}
use mathlib.Core.List.{List, [], ◌∷◌, ◌++◌}
use Prim.Native.Nat.{ℕ, zero, suc, ◌+◌, ◌*◌, ◌≤◌, ◌<◌}
use native.Mathlib.Omega.{arith}
use lib.ListN.{length, get_or}
use Rattle.walks.specs.Below.{table_from}
use Rattle.rack.specs.Records.{least_at, most_at, QfIs, qf_end, qf_says}
use Rattle.rack.specs.Writing.{up_to, bound_pair, qf_bytes}
use Rattle.rack.specs.WellFormed.{BoundsFit}
use Rattle.rack.specs.declared.Bounds.{Bounds}
use Rattle.rack.proofs.WellFormedLists.{put-before, put_inside}
use Rattle.walks.proofs.Tables.{length_table, table_at}
use Rattle.rack.proofs.WellFormedKinds.{row_fits}
use Rattle.spelling.proofs.Repeats.{up_to_same, up_to_more}
use Rattle.spelling.proofs.Spells.{Spells, then, two, nothing}
use Rattle.spelling.proofs.Letters.{Letters, letters_spell}

module _ (places cap : ℕ) (c : Bounds) (f : List ℕ) (a : ℕ) (small : places ≤ 8) (k : BoundsFit places cap c) (w : QfIs places cap c.count f a) where
  lows : List ℕ
  lows = table_from 0 places (least_at f a)

  highs : List ℕ
  highs = table_from 0 places (most_at f a)

  low_fits : c.count * 8 + length lows ≤ length c.least
  unfolding lows
  low_fits = row_fits k.leasts lows w.few small (length_table 0 places (least_at f a))

  high_fits : c.count * 8 + length highs ≤ length c.most
  unfolding highs
  high_fits = row_fits k.mosts highs w.few small (length_table 0 places (most_at f a))

  bound_old : (t : ℕ) → t < c.count → qf_bytes places (qf_says places c f a) t ≡ qf_bytes places c t
  unfolding qf_says qf_bytes lows highs
  bound_old t h =
      ap (λ (l : List ℕ). 81 ∷ 70 ∷ l)
      (up_to_same places _ _ (λ p u. ap₂ (λ (x y : ℕ). x ∷ y ∷ [])
      (put-before c.least (c.count * 8) lows low_fits (t * 8 + p) (omega arith))
      (put-before c.most (c.count * 8) highs high_fits (t * 8 + p) (omega arith))))

  -- the records before it are as they were
  pub bounds_join : up_to (qf_says places c f a).count (qf_bytes places (qf_says places c f a)) ≡ up_to c.count (qf_bytes places c) ++ qf_bytes places (qf_says places c f a) c.count
  unfolding qf_says
  bounds_join = up_to_more c.count (qf_bytes places (qf_says places c f a)) (qf_bytes places c) bound_old

  low_at : (p : ℕ) → p < places → get_or (qf_says places c f a).least (c.count * 8 + p) 0 ≡ least_at f a p
  unfolding qf_says lows
  low_at p h =
      let z : 0 + p ≡ p = omega arith in
      put_inside c.least (c.count * 8) lows low_fits p (omega (arith, length_table 0 places (least_at f a))) ∙ table_at 0 places (least_at f a) p h ∙ ap (least_at f a) z

  high_at : (p : ℕ) → p < places → get_or (qf_says places c f a).most (c.count * 8 + p) 0 ≡ most_at f a p
  unfolding qf_says highs
  high_at p h =
      let z : 0 + p ≡ p = omega arith in
      put_inside c.most (c.count * 8) highs high_fits p (omega (arith, length_table 0 places (most_at f a))) ∙ table_at 0 places (most_at f a) p h ∙ ap (most_at f a) z

  -- the first n places' bounds
  firsts : (n : ℕ) → n ≤ places → Spells f (a + 2) (up_to n (bound_pair (qf_says places c f a) c.count)) (a + 2 + 2 * n)
  unfolding up_to
  firsts zero h = nothing f (a + 2) (a + 2 + 2 * 0) (omega arith)
  firsts (suc n) h =
      then (firsts n (omega arith))
      (two f (a + 2 + 2 * n) (a + 3 + 2 * n) (a + 2 + 2 * suc n) _ _ (omega arith) (omega arith) (omega (arith, w.ends)) (sym (low_at n h)) (sym (high_at n h)))

  -- and its bytes stand in the file
  pub bound_spells : Letters 81 70 f a → Spells f a (qf_bytes places (qf_says places c f a) c.count) (qf_end places a)
  unfolding qf_bytes
  bound_spells le = then (letters_spell f a 81 70 le (omega (arith, w.ends))) (firsts places (omega arith))
