-- Records of one kind, one after the other: the lists of g at 0, 1, .., n - 1.
-- Assumes nothing.
use mathlib.Core.Path.{◌≡◌, refl, sym, ap, ap₂, ◌∙◌}
use mathlib.Core.List.{List, [], ◌++◌, append-nil}
use Prim.Native.Nat.{ℕ, zero, suc, ◌+◌, ◌*◌, ◌≤◌, ◌<◌}
use native.Mathlib.Omega.{arith}
use native.Mathlib.Numerals.{add-one}
use native.Mathlib.Nat.{suc-mul}
use lib.ListN.{length, length-append}
use mathlib.Core.Bool.{Bool, true, false}
use lib.Dec.{leb}
use borrow.Author.Tests.{leb-true, leb-false}
use Rattle.rack.specs.Writing.{up_to}

pub up_to_none : (n : ℕ) (g : ℕ → List ℕ) → n ≡ 0 → up_to n g ≡ []
unfolding up_to
up_to_none n g e = ap (λ (k : ℕ). up_to k g) e

pub up_to_snoc : (n : ℕ) (g : ℕ → List ℕ) → up_to n g ++ g n ≡ up_to (n + 1) g
unfolding up_to
up_to_snoc n g = sym (ap (λ (k : ℕ). up_to k g) (add-one n))

pub up_to_same : (n : ℕ) (g h : ℕ → List ℕ) → ((t : ℕ) → t < n → g t ≡ h t) → up_to n g ≡ up_to n h
unfolding up_to
up_to_same zero g h e = refl
up_to_same (suc n) g h e = ap₂ ◌++◌ (up_to_same n g h (λ t l. e t (omega arith))) (e n (omega arith))

-- one record more, those before it as they were
pub up_to_more : (n : ℕ) (g h : ℕ → List ℕ) → ((t : ℕ) → t < n → g t ≡ h t) → up_to (n + 1) g ≡ up_to n h ++ g n
up_to_more n g h e = sym (up_to_snoc n g) ∙ ap (λ (l : List ℕ). l ++ g n) (up_to_same n g h e)

-- what adds nothing may be left out
pub up_to_skip : (n m : ℕ) (g : ℕ → List ℕ) → n ≤ m → ((t : ℕ) → n ≤ t → t < m → g t ≡ []) → up_to m g ≡ up_to n g
unfolding up_to
up_to_skip n zero g h e = let z : 0 ≡ n = omega arith in ap (λ (k : ℕ). up_to k g) z
up_to_skip n (suc m) g h e = go (λ l. up_to_skip n m g l (λ t u v. e t u (omega arith))) (leb n m) refl
  where
    go : (n ≤ m → up_to m g ≡ up_to n g) → (b : Bool) → leb n m ≡ b → up_to m g ++ g m ≡ up_to n g
    go rec true q =
        let l = leb-true n m q in
        ap (λ (x : List ℕ). up_to m g ++ x) (e m l (omega arith)) ∙ append-nil (up_to m g) ∙ rec l
    go rec false q = let z : suc m ≡ n = omega (arith, leb-false n m q) in ap (λ (k : ℕ). up_to k g) z

-- each at most b long
pub up_to_few : (b n : ℕ) (g : ℕ → List ℕ) → ((t : ℕ) → length (g t) ≤ b) → length (up_to n g) ≤ n * b
unfolding up_to
up_to_few b zero g h = omega arith
up_to_few b (suc n) g h = omega (arith, up_to_few b n g h, h n, length-append (up_to n g) (g n), suc-mul n b)
