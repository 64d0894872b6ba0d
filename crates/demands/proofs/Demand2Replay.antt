-- DEMAND 2 for replay, over its contract: `demand_2_replay`. Of a file that the checks 2 to 7 let pass, every answer that the contract allows tells
-- what firing the given numbers one by one comes to. Assumes nothing.
use Prim.Native.Nat.{ℕ, ◌<◌, ◌≤◌}
use mathlib.Core.Path.{◌≡◌, refl, subst}
use mathlib.Core.Bool.{Bool, true, false, ◌&&◌}
use mathlib.Core.List.{List, [], ◌∷◌}
use mathlib.Core.Logic.{⊎_elim}
use native.Mathlib.Omega.{arith}
use borrow.Author.Tests.{eq-eqb, eqb-true, eqb-false}
use lib.ListN.{length, get_or, take}
use lib.Dec.{eqb}
use Rattle.walks.specs.Below.{pick}
use Rattle.walks.specs.Walk.{ends}
use Rattle.walks.proofs.Tests.{and_left, and_right, and_both, is_true, of_true}
use Rattle.walks.proofs.Grow.{split}
use Rattle.rack.specs.Follow.{ProductMarking, start, step}
use Rattle.rack.specs.Reach.{product_within}
use Rattle.rack.specs.Run.{fires, end}
use Rattle.rack.specs.Replay.{goes_on, count, reached, reason_after, reason, explains, says_explains}
use Rattle.rack.specs.Layout.{ReadsAs}
use Rattle.rack.specs.ReplayOutcome.{replay_of, ReplayAccepts, ReplayIs, replayed}
use Rattle.rack.specs.declared.Case.{Case}
use Rattle.rack.specs.declared.Stop.TheVariants.{RunEnded, BudgetSpent, NotFirable, CapPassed}
use Rattle.rack.specs.declared.Replayed.{Replayed}
use Rattle.rack.proofs.Decide.{explains_of}
use Rattle.rack.proofs.OneOutcome.{replay_one}
use Rattle.rack.proofs.Replaying.{count-is, explains_yes}
use Rattle.demands.specs.Replays.{StopsFor, run_ended, budget_spent, not-firable, cap_passed, marking_of, Fired}

-- where moves lead does not depend on which can be made
ends_alike : {A : Type 0} (can may : A → ℕ → Bool) (to : A → ℕ → A) (a : A) (r : List ℕ) → ends can to a r ≡ ends may to a r
unfolding ends
ends_alike can may to a [] = refl
ends_alike can may to a (t ∷ r) = ends_alike can may to (to a t) r

-- ---- the reason

short : (n k : ℕ) → n ≤ k → (n ≡ k → ⊥) → n < k
short n k l ne = ⊎_elim (λ (h : n < k). h) (λ (h : k ≤ n). absurd (ne (omega arith))) (split k n)

module _ (c : Case) (run : List ℕ) (budget n : ℕ) (m : ProductMarking) (in_run : n ≤ length run) (in_budget : n ≤ budget) (stopped : n < length run → n < budget → goes_on c m (get_or run n 0) ≡ false) where
  stops_for : (a b d : Bool) → eqb n (length run) ≡ a → eqb n budget ≡ b → fires c m (get_or run n 0) ≡ d
      → StopsFor c run budget n m (pick a RunEnded (pick b BudgetSpent (pick d CapPassed NotFirable)))
  unfolding goes_on
  stops_for true b d e f g = run_ended (eqb-true n (length run) e)
  stops_for false true d e f g = let l = eqb-false n (length run) e in budget_spent (short n (length run) in_run l) (eqb-true n budget f)
  stops_for false false true e f g =
      let l = short n (length run) in_run (eqb-false n (length run) e) in
      let k = short n budget in_budget (eqb-false n budget f) in
      cap_passed l k g (subst (λ (z : Bool). (z && product_within c (step c m (get_or run n 0))) ≡ false) g (stopped l k))
  stops_for false false false e f g =
      not-firable (short n (length run) in_run (eqb-false n (length run) e)) (short n budget in_budget (eqb-false n budget f)) g

-- ---- the whole answer

module _ (c : Case) (run : List ℕ) (budget : ℕ) where
  abbrev n : ℕ
  n = count c run budget

  stopped : n < length run → n < budget → goes_on c (reached c run budget) (get_or run n 0) ≡ false
  unfolding reached end
  stopped h k =
      subst (λ (m : ProductMarking). goes_on c m (get_or run n 0) ≡ false) (ends_alike (goes_on c) (fires c) (step c) (start c) (take n run))
      ((count-is c run budget).stopped h k)

  stops : StopsFor c run budget n (reached c run budget) (reason c run budget)
  unfolding reason reason_after
  stops =
      stops_for c run budget n (reached c run budget) (count-is c run budget).in_run (count-is c run budget).in_budget stopped (eqb n (length run)) (eqb n budget)
      (fires c (reached c run budget) (get_or run n 0)) refl refl refl

  fired : Fired c run budget (replay_of c run budget)
  unfolding replay_of marking_of reached says_explains
  fired =
      record {
        in_run = (count-is c run budget).in_run;
        in_budget = (count-is c run budget).in_budget;
        one_by_one = (count-is c run budget).fired;
        marking = refl;
        is-final = refl;
        stops = stops;
        explains_truly = λ e.
            let t = of_true (eqb n (length run) && explains c run) e in
            (eqb-true n (length run) (is_true (eqb n (length run)) (and_left (eqb n (length run)) (explains c run) t)), explains_of c run (and_right (eqb n (length run)) (explains c run) t));
        explains_said = λ e x. is_true (eqb n (length run) && explains c run) (and_both (eqb n (length run)) (explains c run) (of_true _ (eq-eqb n (length run) e)) (explains_yes c run x));
      }

-- DEMAND 2 for replay
pub demand_2_replay : {f run : List ℕ} {budget : ℕ} {c : Case} {x : Replayed} → ReadsAs f c → ReplayAccepts f → ReplayIs f run budget x → Fired c run budget x
demand_2_replay {f} {run} {budget} {c} {x} reads passes o =
    subst (Fired c run budget) (replay_one (replayed {c = c} passes reads) o) (fired c run budget)
