-- The records of which a case has one or of which each stands alone, NT, PT, OB, LG and PR, as they were read, spell their bytes again.
-- Assumes nothing.
use mathlib.Core.Path.{◌≡◌, refl, sym, ap, ap₂}
use mathlib.Core.List.{List, [], ◌∷◌, ◌++◌}
use Prim.Native.Nat.{ℕ, ◌+◌, ◌<◌}
use native.Mathlib.Omega.{arith}
use lib.ListN.{take, replicate}
use lib.Seq.{get_or-set_same, get_or-set_other}
use Rattle.rack.specs.Bytes.{byte, part, filled, list_at}
use Rattle.rack.specs.Records.{NetIs, net_end, net_says, PrIs, pr_end, pr_says, ObIs, ob_end, ob_says, LgIs, lg_end, lg_says}
use Rattle.rack.specs.Writing.{counted, up_to, nt_bytes, pr_bytes, ob_bytes, pt_bytes, lg_bytes}
use Rattle.rack.specs.WellFormed.{PairsFit}
use Rattle.rack.specs.declared.Pairs.{Pairs}
use Rattle.rack.proofs.WellFormedLists.{zeros}
use Rattle.spelling.proofs.Rows.{row_back}
use Rattle.spelling.proofs.Repeats.{up_to_more}
use Rattle.spelling.proofs.Spells.{Spells, then, one, two, spells_as, list_spells, kept_spells}
use Rattle.spelling.proofs.Letters.{Letters, letters_spell}

module _ (f : List ℕ) (a : ℕ) where
  -- ---- NT and PT

  net_spells : (x y most : ℕ) → Letters x y f a → NetIs most f a
      → Spells f a (x ∷ y ∷ byte f (a + 2) ∷ byte f (a + 3) ∷ take (byte f (a + 2)) (filled most (part f (a + 4) (byte f (a + 2))))) (net_end f a)
  net_spells x y most le w =
      then (letters_spell f a x y le (omega (arith, w.starts)))
      (then (two f (a + 2) (a + 3) (a + 4) (byte f (a + 2)) (byte f (a + 3)) (omega arith) (omega arith) w.starts refl refl)
      (kept_spells most f (a + 4) (byte f (a + 2)) w.ends))

  pub nt_spells : Letters 78 84 f a → NetIs 16 f a → Spells f a (nt_bytes (net_says 16 f a)) (net_end f a)
  unfolding nt_bytes net_says
  nt_spells = net_spells 78 84 16

  pub pt_spells : Letters 80 84 f a → NetIs 8 f a → Spells f a (pt_bytes (net_says 8 f a)) (net_end f a)
  unfolding pt_bytes net_says
  pt_spells = net_spells 80 84 8

  -- ---- OB

  pub ob_spells : Letters 79 66 f a → ObIs f a → Spells f a (ob_bytes (ob_says f a)) (ob_end f a)
  unfolding ob_bytes ob_says
  ob_spells le w =
      let e = row_back 32 0 32 (list_at f (a + 2)) (replicate 32 0) w.rises (omega arith) (omega arith) (λ p h. zeros 32 p) in
      then (letters_spell f a 79 66 le (omega (arith, w.starts)))
      (spells_as (sym (ap (λ (l : List ℕ). counted l) e)) (list_spells 32 f (a + 2) w))

  -- ---- LG

  pub lg_spells : (flags : List ℕ) → Letters 76 71 f a → LgIs flags f a → Spells f a (lg_bytes (lg_says f a)) (lg_end f a)
  unfolding lg_bytes lg_says
  lg_spells flags le w =
      let n = byte f (a + 2) in
      then (letters_spell f a 76 71 le (omega (arith, w.starts)))
      (then (one f (a + 2) (a + 2 + 1) n refl (omega (arith, w.starts)) refl) (kept_spells 40 f (a + 2 + 1) n w.ends))

-- ---- PR

module _ (transitions : ℕ) (c : Pairs) (f : List ℕ) (a : ℕ) (k : PairsFit transitions c) (w : PrIs transitions c f a) where
  pair_old : (t : ℕ) → t < c.count → pr_bytes (pr_says c f a) t ≡ pr_bytes c t
  unfolding pr_says pr_bytes
  pair_old t h =
      ap₂ (λ (x y : ℕ). 80 ∷ 82 ∷ x ∷ y ∷ [])
      (get_or-set_other c.higher c.count t (byte f (a + 2)) 0 (omega arith))
      (get_or-set_other c.lower c.count t (byte f (a + 3)) 0 (omega arith))

  -- the pairs before it are as they were
  pub pairs_join : up_to (pr_says c f a).count (pr_bytes (pr_says c f a)) ≡ up_to c.count (pr_bytes c) ++ pr_bytes (pr_says c f a) c.count
  unfolding pr_says
  pairs_join = up_to_more c.count (pr_bytes (pr_says c f a)) (pr_bytes c) pair_old

  -- and its bytes stand in the file
  pub pair_spells : Letters 80 82 f a → Spells f a (pr_bytes (pr_says c f a) c.count) (pr_end f a)
  unfolding pr_says pr_bytes
  pair_spells le =
      let x = get_or-set_same c.higher c.count (byte f (a + 2)) 0 (omega (arith, k.highers.long, w.few)) in
      let y = get_or-set_same c.lower c.count (byte f (a + 3)) 0 (omega (arith, k.lowers.long, w.few)) in
      then (letters_spell f a 80 82 le (omega (arith, w.ends)))
      (two f (a + 2) (a + 3) (a + 4) _ _ (omega arith) (omega arith) w.ends (sym x) (sym y))
