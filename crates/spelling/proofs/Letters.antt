-- The two letters of each mark stand where the mark is found.
-- Assumes nothing.
use mathlib.Core.Path.{◌≡◌, refl, subst}
use mathlib.Core.Bool.{Bool, true, false}
use mathlib.Core.List.{List, [], ◌∷◌}
use Prim.Native.Nat.{ℕ, ◌+◌, ◌≤◌}
use native.Mathlib.Omega.{arith}
use lib.ListN.{length}
use lib.Dec.{leb, eqb}
use borrow.Author.Tests.{eqb-true}
use Rattle.std.proofs.Common.{Option, Some, None}
use Rattle.walks.specs.Below.{pick}
use Rattle.rack.specs.Bytes.{byte}
use Rattle.rack.specs.Marks.{mark_of, mark_found}
use Rattle.rack.specs.declared.Mark.{Mark}
use Rattle.rack.specs.declared.Mark.TheVariants.{Nt, Tr, Pr, Ob, Pt, Px, Qf, Lg, En}
use Rattle.spelling.proofs.Spells.{Spells, two}

-- the bytes at a and after it are x and y
pub record Letters (x y : ℕ) (f : List ℕ) (a : ℕ) : Type 0 where
  pub first : byte f a ≡ x
  pub second : byte f (a + 1) ≡ y

-- a mark's letters
abbrev pub LettersOf : Mark → List ℕ → ℕ → Type 0
LettersOf Nt f a = Letters 78 84 f a
LettersOf Tr f a = Letters 84 82 f a
LettersOf Pr f a = Letters 80 82 f a
LettersOf Ob f a = Letters 79 66 f a
LettersOf Pt f a = Letters 80 84 f a
LettersOf Px f a = Letters 80 88 f a
LettersOf Qf f a = Letters 81 70 f a
LettersOf Lg f a = Letters 76 71 f a
LettersOf En f a = Letters 69 78 f a

either : (P : Option Mark → Type 0) (b : Bool) (m n : Option Mark) → (b ≡ true → P m) → (b ≡ false → P n) → P (pick b m n)
either P true m n u v = u refl
either P false m n u v = v refl

module _ (f : List ℕ) (a : ℕ) where
  -- where a mark is found, its letters stand
  abbrev P : Option Mark → Type 0
  P None = Unit {0}
  P (Some m) = LettersOf m f a

  x : ℕ
  x = byte f a

  y : ℕ
  y = byte f (a + 1)

  -- the kind of one letter x, if y is its second letter
  kind : (m : Mark) (j k : ℕ) (rest : Option Mark) → (Letters j k f a → LettersOf m f a) → (eqb x j ≡ true) → P rest → P (pick (eqb y k) (Some m) rest)
  unfolding x y
  kind m j k rest u e v = either P (eqb y k) (Some m) rest (λ d. u (record { first = eqb-true x j e; second = eqb-true y k d })) (λ _. v)

  letters : P (mark_of x y)
  unfolding mark_of
  letters =
      either P (eqb x 78) _ _ (λ e. kind Nt 78 84 None (λ l. l) e tt) (λ _.
      either P (eqb x 84) _ _ (λ e. kind Tr 84 82 None (λ l. l) e tt) (λ _.
      either P (eqb x 80) _ _ (λ e. kind Pr 80 82 _ (λ l. l) e (kind Pt 80 84 _ (λ l. l) e (kind Px 80 88 None (λ l. l) e tt))) (λ _.
      either P (eqb x 79) _ _ (λ e. kind Ob 79 66 None (λ l. l) e tt) (λ _.
      either P (eqb x 81) _ _ (λ e. kind Qf 81 70 None (λ l. l) e tt) (λ _.
      either P (eqb x 76) _ _ (λ e. kind Lg 76 71 None (λ l. l) e tt) (λ _.
      either P (eqb x 69) _ _ (λ e. kind En 69 78 None (λ l. l) e tt) (λ _. tt)))))))

  found : P (mark_found f a)
  unfolding x y
  found = either P (leb (a + 2) (length f)) (mark_of x y) None (λ _. letters) (λ _. tt)

  pub letters_at : {m : Mark} → mark_found f a ≡ Some m → LettersOf m f a
  letters_at e = subst P e found

  pub letters_spell : (j k : ℕ) → Letters j k f a → a + 2 ≤ length f → Spells f a (j ∷ k ∷ []) (a + 2)
  letters_spell j k l h = two f a (a + 1) (a + 2) j k refl (omega arith) h l.first l.second
