-- What the firings of a replay come to, and the position in the log that they lead to.
-- Assumes nothing.
use Rattle.std.specs.Prelude.{ℕ, ◌≡◌, Bool, false, List, take, Option, Some, None}
use Rattle.walks.specs.Walk.{ends}
use Rattle.rack.specs.Follow.{label_of}
use Rattle.rack.specs.Keep.{keeps}
use Rattle.rack.specs.Replay.{count, reached, reason}
use Rattle.rack.specs.declared.Case.{Case}
use Rattle.engine.specs.Markings.{product_of}
use Rattle.engine.specs.Position.{next_position}
use Rattle.retrace.specs.declared.Fired.{Fired}

-- the position after a firing of the transition t, or none once the run does not keep to the log
unfoldable pub position_by : Case → Option ℕ → ℕ → Option ℕ
position_by c (Some i) t = next_position c (label_of c t) i
position_by c None t = None

-- whether a firing of the transition t keeps to the log there
unfoldable pub keeps_at : Case → Option ℕ → ℕ → Bool
keeps_at c (Some i) t = keeps c i t
keeps_at c None t = false

-- the position that a run leads to, or none where it does not keep to the log
unfoldable pub position_of : Case → List ℕ → Option ℕ
position_of c r = ends (keeps_at c) (position_by c) (Some 0) r

-- count, marking and reason to stop are those of firing the given numbers one by one
pub record FiredSays (c : Case) (run : List ℕ) (budget : ℕ) (r : Fired) : Type 0 where
  pub counted : r.fired ≡ count c run budget
  pub there : product_of r.marking ≡ reached c run budget
  pub position : r.at ≡ position_of c (take (count c run budget) run)
  pub stopped : r.stop ≡ reason c run budget
