-- What the lines of the listing come to, and the rank of a run among all runs of bytes, which rises from line to line.
-- Assumes nothing.
use Rattle.std.specs.Prelude.{ℕ, ◌+◌, ◌*◌, ◌<◌, ◌≤◌, List, [], ◌∷◌, Option, Some, None, IfSome, take, replicate}
use Rattle.rack.specs.declared.Listed.{Listed}
use Rattle.rack.specs.declared.Listed.TheVariants.{Matching, Other, End, Refused}

-- after a run of so many numbers there may be another; the end and a refusal are the last line
abbrev pub shown_of : Listed → Option ℕ
shown_of (Matching n) = Some n
shown_of (Other n) = Some n
shown_of End = None
shown_of (Refused n m) = None

-- the number that bytes spell in base 256 behind those that spelled v
unfoldable pub rank_from : ℕ → List ℕ → ℕ
rank_from v [] = v
rank_from v (a ∷ r) = rank_from (v * 256 + a) r

-- the rank of a run: a 1 is put before its bytes, so that a longer run comes later
unfoldable pub rank : List ℕ → ℕ
rank r = rank_from 1 r

-- more than the rank of any run of at most 24 bytes
unfoldable pub top_rank : ℕ
top_rank = rank_from 2 (replicate 24 0)

-- a run at the front of the room that comes later than the given one
pub record Comes (given : List ℕ) (m : ℕ) (room : List ℕ) : Type 0 where
  pub short : m ≤ 24
  pub later : rank given < rank (take m room)
  pub below : rank given < top_rank

abbrev pub LaterSays : List ℕ → Option ℕ → List ℕ → Type 0
LaterSays given s room = IfSome s (λ m. Comes given m room)
