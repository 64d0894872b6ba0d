-- The places of a row that hold 1, as loops meet them one by one.
-- Assumes nothing.
use mathlib.Core.Path.{◌≡◌, refl, sym, ap, ◌∙◌}
use mathlib.Core.Bool.{Bool, true, false}
use mathlib.Core.List.{List, [], ◌∷◌, ◌++◌, append-nil}
use Prim.Native.Nat.{ℕ, zero, suc, ◌+◌, ◌<◌}
use native.Mathlib.Omega.{arith}
use native.Mathlib.Numerals.{add-one}
use native.Mathlib.Nat.{add-suc, suc-add, add-zero}
use lib.ListN.{length, get_or}
use lib.Dec.{eqb}
use Rattle.std.specs.Prelude.{count_by, cond, ◌==◌}
use Rattle.std.proofs.lemmas.List.Sums.{sum_by-cons}
use Rattle.walks.specs.Below.{pick}
use Rattle.rack.specs.Writing.{listed, cell}

-- place p, if it holds 1
here : (ℕ → ℕ) → ℕ → List ℕ
here g p = pick (eqb (g p) 1) (p ∷ []) []

listed_snoc : (n i : ℕ) (g : ℕ → ℕ) → listed i (suc n) g ≡ listed i n g ++ here g (i + n)
unfolding listed here
listed_snoc zero i g = ap (here g) (sym (add-zero i))
listed_snoc (suc n) i g = go (eqb (g i) 1) (listed_snoc n (suc i) g ∙ ap (λ (k : ℕ). listed (suc i) n g ++ here g k) (omega (arith, add-suc i n, suc-add i n)))
  where
    go : (t : Bool) → listed (suc i) (suc n) g ≡ listed (suc i) n g ++ here g (i + suc n)
        → pick t (i ∷ listed (suc i) (suc n) g) (listed (suc i) (suc n) g) ≡ pick t (i ∷ listed (suc i) n g) (listed (suc i) n g) ++ here g (i + suc n)
    go true e = ap (λ (l : List ℕ). i ∷ l) e
    go false e = e

pub listed-none : (g : ℕ → ℕ) → [] ≡ listed 0 0 g
unfolding listed
listed-none g = refl

module _ (p : ℕ) (g : ℕ → ℕ) where
  snoc : listed 0 (p + 1) g ≡ listed 0 p g ++ here g p
  snoc =
      let z : 0 + p ≡ p = omega arith in
      ap (λ (k : ℕ). listed 0 k g) (add-one p) ∙ listed_snoc p 0 g ∙ ap (λ (k : ℕ). listed 0 p g ++ here g k) z

  -- it does
  pub listed_on : eqb (g p) 1 ≡ true → listed 0 p g ++ (p ∷ []) ≡ listed 0 (p + 1) g
  unfolding here
  listed_on e = sym (snoc ∙ ap (λ (t : Bool). listed 0 p g ++ pick t (p ∷ []) []) e)

  -- it does not
  pub listed_off : eqb (g p) 1 ≡ false → listed 0 p g ≡ listed 0 (p + 1) g
  unfolding here
  listed_off e = sym (snoc ∙ ap (λ (t : Bool). listed 0 p g ++ pick t (p ∷ []) []) e ∙ append-nil (listed 0 p g))

-- how many do
counted_from : (l : List ℕ) (i : ℕ) (g : ℕ → ℕ) → ((k : ℕ) → k < length l → g (i + k) ≡ get_or l k 0) → length (listed i (length l) g) ≡ count_by (λ x. x == 1) l
unfolding listed
counted_from [] i g h = refl
counted_from (x ∷ l) i g h = rw first (go (counted_from l (suc i) g (λ k u. ap g (omega (arith, add-suc i k, suc-add i k)) ∙ h (suc k) (omega arith))) (x == 1) ∙ sym (sum_by-cons (λ y. cond (y == 1) 1 0) x l))
  where
    first : g i ≡ x
    first = ap g (sym (add-zero i)) ∙ h 0 (omega arith)

    go : length (listed (suc i) (length l) g) ≡ count_by (λ x. x == 1) l
        → (t : Bool) → length (pick t (i ∷ listed (suc i) (length l) g) (listed (suc i) (length l) g)) ≡ cond t 1 0 + count_by (λ x. x == 1) l
    go e true = omega (arith, e)
    go e false = omega (arith, e)

pub count_ones : (l : List ℕ) → length (listed 0 (length l) (cell l 0)) ≡ count_by (λ x. x == 1) l
count_ones l = counted_from l 0 (cell l 0) (λ k h. ap (λ (n : ℕ). get_or l n 0) (omega arith))
