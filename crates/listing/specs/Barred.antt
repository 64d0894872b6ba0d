-- What a listing begins with: the checks 1 and 12, which look at no file.
-- Assumes nothing.
use Rattle.std.specs.Prelude.{ℕ, ◌<◌, ◌≤◌, Result, Ok, Err}
use Rattle.rack.specs.Refusal.{work_room}
use Rattle.rack.specs.ListingOutcome.{limit_most}
use Rattle.rack.specs.declared.Refusal.{Refusal}
use Rattle.rack.specs.declared.Refusal.TheVariants.{WorkRoom, Limit}

-- "Listing: 1, 12, 2 to 9, 13, 11.": with a work room of so many bytes and the limit, the first of 1 and 12 that speaks, or that neither does
pub data Barred (work limit : ℕ) : Result (Unit {0}) Refusal → Type 0 where
  by_room : work < work_room → Barred work limit (Err WorkRoom)
  by_limit : work_room ≤ work → limit_most < limit → Barred work limit (Err Limit)
  by_neither : work_room ≤ work → limit ≤ limit_most → Barred work limit (Ok tt)
