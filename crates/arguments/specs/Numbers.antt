-- The numbers that arguments spell in decimal digits.
-- Assumes nothing.
use Rattle.std.specs.Prelude.{ℕ, ◌+◌, ◌*◌, ◌-◌, Bool, ◌&&◌, List, [], ◌∷◌, Option, Some, None, length, leb, ltb}
use Rattle.walks.specs.Below.{pick, every}

-- the ASCII digits are 48 to 57
unfoldable pub is_digit : ℕ → Bool
is_digit d = leb 48 d && leb d 57

-- the number that digits spell behind those that spelled v
unfoldable pub value_from : ℕ → List ℕ → ℕ
value_from v [] = v
value_from v (d ∷ r) = value_from (v * 10 + (d - 48)) r

-- digits alone and at least one, and the number is not over the most
unfoldable pub spelled : List ℕ → ℕ → Option ℕ
spelled l most = pick (ltb 0 (length l) && (every is_digit l && leb (value_from 0 l) most)) (Some (value_from 0 l)) None
