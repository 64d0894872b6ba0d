-- The table of marks, kept as nine rows: an entry of them is what the definition's list says.
-- Assumes nothing.
use mathlib.Core.Path.{◌≡◌}
use mathlib.Core.Bool.{Bool, beq}
use mathlib.Core.List.{List, [], ◌∷◌, map}
use Prim.Native.Nat.{ℕ, ◌+◌, ◌*◌, ◌<◌}
use lib.ListN.{get_or}
use lib.Dec.{T, eqb}
use Rattle.walks.specs.Below.{all_below}
use Rattle.walks.proofs.Tests.{below_at, beq→eq}
use Rattle.rack.specs.Bytes.{part}
use Rattle.rack.specs.Marks.{follows}

abbrev row : ℕ → List Bool
row k = map (λ (x : ℕ). eqb x 1) (part follows (k * 9) 9)

abbrev pub rows : List (List Bool)
rows = row 0 ∷ row 1 ∷ row 2 ∷ row 3 ∷ row 4 ∷ row 5 ∷ row 6 ∷ row 7 ∷ row 8 ∷ []

module _ (past : List Bool) (d : Bool) where
  entry_right : ℕ → ℕ → Bool
  entry_right k m = beq (get_or (get_or rows k past) m d) (eqb (get_or follows (k * 9 + m) 0) 1)

  row_right : ℕ → Bool
  row_right k = all_below 9 (entry_right k)

  all_right : T (all_below 9 row_right)
  unfolding follows all_below entry_right row_right
  all_right = tt

  pub row_entry : (k m : ℕ) → k < 9 → m < 9 → get_or (get_or rows k past) m d ≡ eqb (get_or follows (k * 9 + m) 0) 1
  unfolding entry_right row_right
  row_entry k m h i =
      beq→eq (get_or (get_or rows k past) m d) (eqb (get_or follows (k * 9 + m) 0) 1)
      (below_at 9 (entry_right k) (below_at 9 row_right all_right k h) m i)
