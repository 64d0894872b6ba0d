-- Tests and tables over the numbers below a bound, as functions that compute.
-- Assumes nothing.
use Rattle.std.specs.Prelude.{ℕ, zero, suc, Bool, true, false, ◌&&◌, ◌||◌, List, [], ◌∷◌, eqb}

module _ {A : Type 0} where
  -- the first value if the test passes, else the second
  abbrev pub pick : Bool → A → A → A
  pick true a b = a
  pick false a b = b

-- if the first test passes, so does the second
abbrev pub implies : Bool → Bool → Bool
implies true b = b
implies false b = true

-- f passes at every number below n
unfoldable pub all_below : ℕ → (ℕ → Bool) → Bool
all_below zero f = true
all_below (suc n) f = f n && all_below n f

-- f passes at some number below n
unfoldable pub any_below : ℕ → (ℕ → Bool) → Bool
any_below zero f = false
any_below (suc n) f = f n || any_below n f

-- the smallest of the n numbers from i at which f passes, or i + n where it passes at none
unfoldable pub first_from : ℕ → ℕ → (ℕ → Bool) → ℕ
first_from i zero f = i
first_from i (suc n) f =
    let r = first_from (suc i) n f in
    pick (f i) i r

-- the values of f at the n numbers from i
unfoldable pub table_from : ℕ → ℕ → (ℕ → ℕ) → List ℕ
table_from i zero f = []
table_from i (suc n) f = f i ∷ table_from (suc i) n f

-- f passes at every element of a list
module _ {A : Type 0} where
  unfoldable pub every : (A → Bool) → List A → Bool
  every f [] = true
  every f (a ∷ l) = f a && every f l

-- two lists of numbers are the same
unfoldable pub same : List ℕ → List ℕ → Bool
same [] [] = true
same [] (b ∷ y) = false
same (a ∷ x) [] = false
same (a ∷ x) (b ∷ y) = eqb a b && same x y
