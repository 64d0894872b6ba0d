-- What replay reports, by firing the given numbers one by one.
-- Assumes nothing.
use Rattle.std.specs.Prelude.{ℕ, ◌<◌, ◌≤◌, ◌≡◌, true, false, List, length, get_or, take, T}
use Rattle.walks.specs.Walk.{walks}
use Rattle.rack.specs.Follow.{ProductMarking, final, start, step}
use Rattle.rack.specs.Reach.{product_within}
use Rattle.rack.specs.Run.{fires, end, Explains}
use Rattle.rack.specs.Replay.{goes_on}
use Rattle.rack.specs.declared.Case.{Case}
use Rattle.rack.specs.declared.Stop.{Stop}
use Rattle.rack.specs.declared.Stop.TheVariants.{RunEnded, BudgetSpent, NotFirable, CapPassed}
use Rattle.rack.specs.declared.Replayed.{Replayed}

-- why it stops after n firings with the marking m: each reason where no earlier one holds
pub data StopsFor (c : Case) (run : List ℕ) (budget n : ℕ) (m : ProductMarking) : Stop → Type 0 where
  run_ended : n ≡ length run → StopsFor c run budget n m RunEnded
  budget_spent : n < length run → n ≡ budget → StopsFor c run budget n m BudgetSpent
  not-firable : n < length run → n < budget → fires c m (get_or run n 0) ≡ false → StopsFor c run budget n m NotFirable
  cap_passed : n < length run → n < budget → fires c m (get_or run n 0) ≡ true → product_within c (step c m (get_or run n 0)) ≡ false → StopsFor c run budget n m CapPassed

-- the marking that an answer reports
unfoldable pub marking_of : Replayed → ProductMarking
marking_of x = record { system = x.system; pattern = x.pattern }

-- the answer x tells what firing the numbers of the run one by one comes to: that many could be fired, each result within the caps; the marking
-- is the one after just those; and the next one could not be fired, for the reason given
pub record Fired (c : Case) (run : List ℕ) (budget : ℕ) (x : Replayed) : Type 0 where
  pub in_run : x.fired ≤ length run
  pub in_budget : x.fired ≤ budget
  pub one_by_one : T (walks (goes_on c) (step c) (start c) (take x.fired run))
  pub marking : marking_of x ≡ end c (take x.fired run)
  pub is-final : x.matches ≡ final c x.pattern
  pub stops : StopsFor c run budget x.fired (marking_of x) x.stop
  pub explains_truly : x.explains ≡ true → (x.fired ≡ length run) × Explains c run
  pub explains_said : x.fired ≡ length run → Explains c run → x.explains ≡ true
