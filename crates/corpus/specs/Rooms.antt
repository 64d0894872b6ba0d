-- What a lent room holds. Assumes nothing.
use Rattle.std.specs.Prelude.{ℕ, ◌≤◌, ◌<◌, ◌≡◌, List, length, get_or}

-- every byte of the room from `from` on is v
pub record Still (room : List ℕ) (from v : ℕ) : Type 0 where
  pub each : (i : ℕ) → from ≤ i → i < length room → get_or room i 0 ≡ v
