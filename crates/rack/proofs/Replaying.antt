-- What replay's count means: just so many numbers of the run can be fired one by one, within the caps and the budget, and the next one cannot;
-- and its test of explaining is the definition. Assumes nothing.
use Prim.Native.Nat.{ℕ, zero, suc, ◌<◌, ◌≤◌}
use mathlib.Core.Path.{◌≡◌, refl}
use mathlib.Core.Bool.{Bool, true, false}
use mathlib.Core.List.{List, [], ◌∷◌}
use native.Mathlib.Omega.{arith}
use lib.ListN.{length, get_or, take}
use lib.Dec.{T}
use Rattle.walks.specs.Below.{pick, same}
use Rattle.walks.specs.Walk.{walks, ends}
use Rattle.walks.proofs.Tests.{and_both, of_true, eq→same}
use Rattle.rack.specs.Follow.{ProductMarking, start, step}
use Rattle.rack.specs.Run.{runs, shown, log_of, Explains}
use Rattle.rack.specs.Replay.{goes_on, firings, count, explains}
use Rattle.rack.specs.declared.Case.{Case}

-- the count n of firings from m, of a run with a budget
pub record Counted (c : Case) (m : ProductMarking) (run : List ℕ) (budget n : ℕ) : Type 0 where
  pub in_run : n ≤ length run
  pub in_budget : n ≤ budget
  pub fired : T (walks (goes_on c) (step c) m (take n run))
  pub stopped : n < length run → n < budget → goes_on c (ends (goes_on c) (step c) m (take n run)) (get_or run n 0) ≡ false

counted : (c : Case) (run : List ℕ) (m : ProductMarking) (budget : ℕ) → Counted c m run budget (firings c m run budget)
unfolding firings walks ends
counted c [] m budget = record { in_run = omega arith; in_budget = omega arith; fired = tt; stopped = λ h k. absurd (omega arith) }
counted c (t ∷ r) m zero = record { in_run = omega arith; in_budget = omega arith; fired = tt; stopped = λ h k. absurd (omega arith) }
counted c (t ∷ r) m (suc b) = go (goes_on c m t) refl (counted c r (step c m t) b)
  where
    go : (x : Bool) → goes_on c m t ≡ x → Counted c (step c m t) r b (firings c (step c m t) r b) → Counted c m (t ∷ r) (suc b) (pick x (suc (firings c (step c m t) r b)) 0)
    go true e k =
        record {
          in_run = omega (arith, k.in_run);
          in_budget = omega (arith, k.in_budget);
          fired = and_both (goes_on c m t) (walks (goes_on c) (step c) (step c m t) (take (firings c (step c m t) r b) r)) (of_true _ e) k.fired;
          stopped = λ h l. k.stopped (omega arith) (omega arith);
        }
    go false e k = record { in_run = omega arith; in_budget = omega arith; fired = tt; stopped = λ h l. e }

pub count-is : (c : Case) (run : List ℕ) (budget : ℕ) → Counted c (start c) run budget (count c run budget)
unfolding count
count-is c run budget = counted c run (start c) budget

-- the test passes for every explanation (that it passes for no other run is `explains_of` of Decide.antt)
pub explains_yes : (c : Case) (r : List ℕ) → Explains c r → T (explains c r)
unfolding explains
explains_yes c r x = and_both (runs c r) (same (shown c r) (log_of c)) x.run (eq→same (shown c r) (log_of c) x.shows)
