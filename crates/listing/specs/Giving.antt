-- Giving a run that has been found: what becomes of the caller's room.
-- Assumes nothing.
use Rattle.std.specs.Prelude.{ℕ, ◌<◌, ◌≤◌, ◌≡◌, List, ◌++◌, length, get_or, take, drop, Option, Some, None}
use Rattle.walks.specs.Below.{pick}
use Rattle.rack.specs.ListingOutcome.{limit_most}
use Rattle.rack.specs.declared.Listed.{Listed}
use Rattle.rack.specs.declared.Listed.TheVariants.{Matching, Other, End, Refused}
use Rattle.seek.specs.declared.Sought.{Sought}

-- the first n bytes of run stand at the front of the room, the rest of which is as it was
abbrev pub fronted : List ℕ → ℕ → List ℕ → List ℕ
fronted run n room = take n run ++ drop n room

-- a run that was found: it is given with its mark where the room is long enough, else the needed length is
pub record Gives (run room : List ℕ) (s : Sought) (x : Listed) (a : List ℕ) : Type 0 where
  pub short : length room < s.long → (x ≡ Refused 11 s.long) × (a ≡ room)
  pub fits : s.long ≤ length room → (x ≡ pick s.matching (Matching s.long) (Other s.long)) × (a ≡ fronted run s.long room)

abbrev pub GivesOf : List ℕ → List ℕ → Option Sought → Listed → List ℕ → Type 0
GivesOf run room (Some s) x a = Gives run room s x a
GivesOf run room None x a = (x ≡ End) × (a ≡ room)

pub record GiveSays (run room : List ℕ) (s : Option Sought) (x : Listed) (a : List ℕ) : Type 0 where
  pub is : GivesOf run room s x a

-- what giving asks: a run that is found is at most 24 firings long
abbrev pub Short : Option Sought → Type 0
Short (Some s) = s.long ≤ limit_most
Short None = Unit {0}

-- a given run within the limit that holds only numbers below the count of transitions
pub record GoodRun (given : List ℕ) (limit transitions : ℕ) : Type 0 where
  pub within : length given ≤ limit
  pub numbers : (k : ℕ) → k < length given → get_or given k 0 < transitions
