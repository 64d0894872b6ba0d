-- A strictly rising list and its row of 0 and 1 stand for each other: the list is read back off its row.
-- Assumes nothing.
use mathlib.Core.Path.{◌≡◌, refl, sym, ap, ◌∙◌, subst}
use mathlib.Core.Bool.{Bool, true, false, ◌||◌, or-true, or-false}
use mathlib.Core.List.{List, [], ◌∷◌}
use Prim.Native.Nat.{ℕ, zero, suc, ◌+◌, ◌≤◌, ◌<◌}
use native.Mathlib.Omega.{arith}
use native.Mathlib.Numerals.{add-one}
use native.Mathlib.Nat.{add-suc, suc-add, add-zero}
use lib.ListN.{length, get_or, set, length-set}
use lib.Seq.{get_or-set_same, get_or-set_other}
use lib.Dec.{ltb, eqb}
use borrow.Author.Tests.{ltb-true, ltb-false, eqb-true, eqb-false, lt-ltb, le-leb, ne_eqb}
use Rattle.rack.specs.Bytes.{rising, marked}
use Rattle.rack.specs.Writing.{listed}
use Rattle.rack.proofs.WellFormedLists.{head_low, head_high, tail_rises, marked_other}
use Rattle.walks.specs.Below.{pick}

abbrev pub has : ℕ → List ℕ → Bool
has q [] = false
has q (x ∷ xs) = eqb q x || has q xs

module _ (low b x : ℕ) (xs : List ℕ) (r : rising low b (x ∷ xs) ≡ true) where
  pub rises_from : (i : ℕ) → i ≤ x → rising i b (x ∷ xs) ≡ true
  unfolding rising
  rises_from i h = simp (le-leb i x h, lt-ltb x b (head_high low b x xs r)) (tail_rises low b x xs r)

rising_nil : (j b : ℕ) → rising j b [] ≡ true
unfolding rising
rising_nil j b = refl

-- what is below the list's start is not in it
pub has_below : (low b : ℕ) (l : List ℕ) (q : ℕ) → rising low b l ≡ true → q < low → has q l ≡ false
has_below low b [] q r h = refl
has_below low b (x ∷ xs) q r h =
    let u = head_low low b x xs r in
    simp (ne_eqb q x (omega arith)) (has_below (x + 1) b xs q (tail_rises low b x xs r) (omega arith))

-- g is 1 exactly at the list's numbers, among those from i on
abbrev pub Ones : ℕ → ℕ → (ℕ → ℕ) → List ℕ → Type 0
Ones i b g l = ((q : ℕ) → i ≤ q → q < b → eqb (g q) 1 ≡ has q l)

module _ (n b : ℕ) (g : ℕ → ℕ) (z : (q : ℕ) → b ≤ q → eqb (g q) 1 ≡ false)
    (ih : (i : ℕ) (l : List ℕ) → rising i b l ≡ true → b ≤ i + n → Ones i b g l → listed i n g ≡ l) where
  step_nil : (i : ℕ) → b ≤ i + suc n → Ones i b g [] → pick (eqb (g i) 1) (i ∷ listed (suc i) n g) (listed (suc i) n g) ≡ []
  step_nil i h w = simp (off (ltb i b) refl) (ih (suc i) [] (rising_nil (suc i) b) (omega (arith, add-suc i n, suc-add i n)) (λ q u v. w q (omega arith) v))
    where
      off : (t : Bool) → ltb i b ≡ t → eqb (g i) 1 ≡ false
      off true e = let u = ltb-true i b e in w i (omega arith) u
      off false e = z i (omega (arith, ltb-false i b e))

  step_cons : (i x : ℕ) (xs : List ℕ) → rising i b (x ∷ xs) ≡ true → b ≤ i + suc n → Ones i b g (x ∷ xs)
      → pick (eqb (g i) 1) (i ∷ listed (suc i) n g) (listed (suc i) n g) ≡ x ∷ xs
  step_cons i x xs r h w = go (eqb i x) refl
    where
      lo : i ≤ x
      lo = head_low i b x xs r

      hi : x < b
      hi = head_high i b x xs r

      more : b ≤ suc i + n
      more = omega (arith, add-suc i n, suc-add i n)

      go : (t : Bool) → eqb i x ≡ t → pick (eqb (g i) 1) (i ∷ listed (suc i) n g) (listed (suc i) n g) ≡ x ∷ xs
      go true e =
          let s : i ≡ x = eqb-true i x e in
          let on : eqb (g i) 1 ≡ true = w i (omega arith) (omega (arith, hi)) ∙ ap (λ (t : Bool). t || has i xs) e in
          let rest : listed (suc i) n g ≡ xs =
          ih (suc i) xs (subst (λ (j : ℕ). rising j b xs ≡ true) (omega (arith, add-one x)) (tail_rises i b x xs r)) more
          (λ q u v. w q (omega arith) v ∙ ap (λ (t : Bool). t || has q xs) (ne_eqb q x (omega arith))) in
          simp (on, rest) (ap (λ (j : ℕ). j ∷ xs) s)
      go false e =
          let ne : i ≡ x → ⊥ = eqb-false i x e in
          let lt : i < x = omega (arith, ne, lo) in
          let off : eqb (g i) 1 ≡ false = w i (omega arith) (omega (arith, hi)) ∙ has_below x b (x ∷ xs) i (rises_from i b x xs r x (omega arith)) lt in
          simp off (ih (suc i) (x ∷ xs) (rises_from i b x xs r (suc i) (omega arith)) more (λ q u v. w q (omega arith) v))

-- the numbers of a row whose ones are at the list's numbers are the list
pub listed_has : (n i b : ℕ) (l : List ℕ) (g : ℕ → ℕ) → ((q : ℕ) → b ≤ q → eqb (g q) 1 ≡ false) → rising i b l ≡ true → b ≤ i + n → Ones i b g l → listed i n g ≡ l
unfolding listed
listed_has zero i b [] g z r h w = refl
listed_has zero i b (x ∷ xs) g z r h w = absurd (omega (arith, head_low i b x xs r, head_high i b x xs r, add-zero i))
listed_has (suc n) i b [] g z r h w = step_nil n b g z (λ i l r h w. listed_has n i b l g z r h w) i h w
listed_has (suc n) i b (x ∷ xs) g z r h w = step_cons n b g z (λ i l r h w. listed_has n i b l g z r h w) i x xs r h w

-- the row's ones are those it had and the list's numbers
pub marked-has : (base low b : ℕ) (l d : List ℕ) (q : ℕ) → rising low b l ≡ true → base + b ≤ length d
    → eqb (get_or (marked base l d) (base + q) 0) 1 ≡ (eqb (get_or d (base + q) 0) 1 || has q l)
unfolding marked
marked-has base low b [] d q r h = sym (or-false (eqb (get_or d (base + q) 0) 1))
marked-has base low b (x ∷ xs) d q r h =
    marked-has base (x + 1) b xs (set d (base + x) 1) q (tail_rises low b x xs r) (omega (arith, length-set d (base + x) 1)) ∙ go (eqb q x) refl
  where
    hi : x < b
    hi = head_high low b x xs r

    go : (t : Bool) → eqb q x ≡ t → (eqb (get_or (set d (base + x) 1) (base + q) 0) 1 || has q xs) ≡ (eqb (get_or d (base + q) 0) 1 || (eqb q x || has q xs))
    go true e =
        let s : q ≡ x = eqb-true q x e in
        let one : get_or (set d (base + x) 1) (base + q) 0 ≡ 1 = ap (λ (k : ℕ). get_or (set d (base + x) 1) (base + k) 0) s ∙ get_or-set_same d (base + x) 1 0 (omega (arith, hi)) in
        simp (one, e, or-true)
    go false e =
        let ne : q ≡ x → ⊥ = eqb-false q x e in
        let old : get_or (set d (base + x) 1) (base + q) 0 ≡ get_or d (base + q) 0 = get_or-set_other d (base + x) (base + q) 1 0 (λ k. ne (omega arith)) in
        simp (old, e)

-- the list is read back off its row
pub row_back : (n base b : ℕ) (l d : List ℕ) → rising 0 b l ≡ true → b ≤ n → base + b ≤ length d → ((p : ℕ) → base ≤ p → get_or d p 0 ≡ 0)
    → listed 0 n (λ q. get_or (marked base l d) (base + q) 0) ≡ l
row_back n base b l d r bn h z =
    listed_has n 0 b l (λ q. get_or (marked base l d) (base + q) 0)
    (λ q bq. ap (λ (v : ℕ). eqb v 1) (marked_other base 0 b l d (base + q) r (λ x xb e. omega arith) ∙ z (base + q) (omega arith)))
    r (omega arith)
    (λ q u v. marked-has base 0 b l d q r h ∙ ap (λ (v : ℕ). eqb v 1 || has q l) (z (base + q) (omega arith)))

pub listed_ext : (n i : ℕ) (g h : ℕ → ℕ) → ((q : ℕ) → i ≤ q → q < i + n → g q ≡ h q) → listed i n g ≡ listed i n h
unfolding listed
listed_ext zero i g h e = refl
listed_ext (suc n) i g h e =
    let a : g i ≡ h i = e i (omega arith) (omega (arith, add-suc i n)) in
    let r : listed (suc i) n g ≡ listed (suc i) n h = listed_ext n (suc i) g h (λ q u v. e q (omega arith) (omega (arith, add-suc i n, suc-add i n))) in
    simp (a, r)
