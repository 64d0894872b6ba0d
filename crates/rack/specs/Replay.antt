-- Replay: firing given numbers one by one, at most so many, and why it stops.
-- Assumes nothing.
use Rattle.std.specs.Prelude.{ℕ, zero, suc, Bool, ◌&&◌, List, [], ◌∷◌, length, get_or, take, eqb}
use Rattle.walks.specs.Below.{pick, same}
use Rattle.rack.specs.Follow.{ProductMarking, start, step}
use Rattle.rack.specs.Reach.{product_within}
use Rattle.rack.specs.Run.{fires, runs, end, shown, log_of}
use Rattle.rack.specs.declared.Case.{Case}
use Rattle.rack.specs.declared.Stop.{Stop}
use Rattle.rack.specs.declared.Stop.TheVariants.{RunEnded, BudgetSpent, NotFirable, CapPassed}

-- the next number is a firable transition, and the result is within both caps
unfoldable pub goes_on : Case → ProductMarking → ℕ → Bool
goes_on c m t = fires c m t && product_within c (step c m t)

-- "It fires at most the given number of transitions and reports how many": from m, the numbers of a run, with so many firings left
unfoldable pub firings : Case → ProductMarking → List ℕ → ℕ → ℕ
firings c m [] budget = 0
firings c m (t ∷ r) zero = 0
firings c m (t ∷ r) (suc budget) =
    let n = suc (firings c (step c m t) r budget) in
    pick (goes_on c m t) n 0

unfoldable pub count : Case → List ℕ → ℕ → ℕ
count c run budget = firings c (start c) run budget

-- "with the product marking then reached": the end of just those firings
unfoldable pub reached : Case → List ℕ → ℕ → ProductMarking
reached c run budget = end c (take (count c run budget) run)

-- "Reasons, in order of check before each firing: run ended; budget spent; next number not firable or no transition; the result passes
-- the cap." After n firings, with the marking m and the next number t.
unfoldable pub reason_after : Case → ℕ → ℕ → ℕ → ProductMarking → ℕ → Stop
reason_after c n long budget m t = pick (eqb n long) RunEnded (pick (eqb n budget) BudgetSpent (pick (fires c m t) CapPassed NotFirable))

unfoldable pub reason : Case → List ℕ → ℕ → Stop
reason c run budget =
    let n = count c run budget in
    reason_after c n (length run) budget (reached c run budget) (get_or run n 0)

-- the run explains the log, as a test; that it is `Explains` is shown by `explains_of` (proofs/Decide.antt) and `explains_yes` (proofs/Replaying.antt)
unfoldable pub explains : Case → List ℕ → Bool
explains c run = runs c run && same (shown c run) (log_of c)

-- "It says that the run explains the log exactly if it ended and does."
unfoldable pub says_explains : Case → List ℕ → ℕ → Bool
says_explains c run budget = eqb (count c run budget) (length run) && explains c run
