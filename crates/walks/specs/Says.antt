-- A yes or no that tells whether a statement holds.
-- Assumes nothing.
use Rattle.std.specs.Prelude.{◌≡◌, Bool, true}

-- r is true exactly if P holds
pub record Says (r : Bool) (P : Type 0) : Type 0 where
  pub sound : r ≡ true → P
  pub complete : P → r ≡ true
