-- The listing of a case that has been read: what the parts of the two calls promise one another. proofs/Listing.antt leads from here to the outcome
-- of the whole call.
-- Assumes nothing.
use Rattle.std.specs.Prelude.{ℕ, ◌<◌, ◌≤◌, ◌≡◌, true, false, List, length}
use Rattle.rack.specs.Run.{matches}
use Rattle.rack.specs.Listing.{Asked, NextIs, EndIs}
use Rattle.rack.specs.ListingOutcome.{limit_most, GivenBad}
use Rattle.rack.specs.Outcome.{holding}
use Rattle.rack.specs.declared.Case.{Case}
use Rattle.steps.specs.Walkable.{Ready}
use Rattle.rack.specs.declared.Listed.{Listed}
use Rattle.rack.specs.declared.Listed.TheVariants.{Matching, Other, End, Refused}

-- what is given where the given run is good: the next explanation, the end, or that the room is too short for it; with the room before and after
pub data Shown (c : Case) (limit : ℕ) (asked : Asked) (room : List ℕ) : Listed → List ℕ → Type 0 where
  matching : {r : List ℕ} → NextIs c limit asked r → matches c r ≡ true → length r ≤ length room → Shown c limit asked room (Matching (length r)) (holding r room)
  other : {r : List ℕ} → NextIs c limit asked r → matches c r ≡ false → length r ≤ length room → Shown c limit asked room (Other (length r)) (holding r room)
  end : EndIs c limit asked → Shown c limit asked room End room
  short : {r : List ℕ} → NextIs c limit asked r → length room < length r → Shown c limit asked room (Refused 11 (length r)) room

-- the listing of a case whose nets pass the checks 3 to 9
pub data CaseListed (c : Case) (limit : ℕ) (asked : Asked) (room : List ℕ) : Listed → List ℕ → Type 0 where
  bad : GivenBad c limit asked → CaseListed c limit asked room (Refused 13 0) room
  shown : {x : Listed} {a : List ℕ} → (GivenBad c limit asked → ⊥) → Shown c limit asked room x a → CaseListed c limit asked room x a

-- what the listing of a case asks: a case that passes the checks 2 to 9, the table of its reachable markings in the work room, a limit that passes 12
pub record Listing (c : Case) (work : List ℕ) (rows limit : ℕ) : Type 0 where
  pub ready : Ready c work rows
  pub low : limit ≤ limit_most
