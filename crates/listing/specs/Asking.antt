-- What a call is asked, and its answer, as the code holds them: perhaps a given run; an answer or a refusal.
-- Assumes nothing.
use Rattle.std.specs.Prelude.{ℕ, List, Option, Some, None, Result, Ok, Err}
use Rattle.std.specs.Borrow.{Bor}
use Rattle.rack.specs.Listing.{Asked, from_start, after}
use Rattle.rack.specs.Refused.{number_of, beside_of}
use Rattle.rack.specs.declared.Listed.{Listed}
use Rattle.rack.specs.declared.Listed.TheVariants.{Refused}
use Rattle.rack.specs.declared.Refusal.{Refusal}

-- from the start, or after a given run
abbrev pub asked_of : Option (Bor (List ℕ)) → Asked
asked_of None = from_start
asked_of (Some g) = after g.now

-- a refusal is answered by its two numbers
abbrev pub listed_of : Result Listed Refusal → Listed
listed_of (Ok x) = x
listed_of (Err r) = Refused (number_of r) (beside_of r)
