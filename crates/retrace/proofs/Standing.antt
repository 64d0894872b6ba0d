-- How a replay stands after some firings, and what the firings come to where they end. Assumes nothing.
use Prim.Native.Nat.{ℕ, zero, suc, ◌+◌, ◌≤◌, ◌<◌}
use mathlib.Core.Path.{◌≡◌, refl, sym, ap, ◌∙◌, subst}
use mathlib.Core.Bool.{Bool, true, false, ◌&&◌, true≢false}
use mathlib.Core.List.{List, [], ◌∷◌, ◌++◌}
use native.Mathlib.Numerals.{add-one}
use native.Mathlib.Omega.{arith}
use borrow.Author.Tests.{eq-eqb, ne_eqb}
use lib.ListN.{length, get_or, take}
use lib.Seq.{take-suc}
use lib.Dec.{T}
use Rattle.walks.specs.Below.{pick}
use Rattle.walks.specs.Walk.{walks, ends}
use Rattle.walks.proofs.Tests.{and_left, and_right, and_both, is_true, of_true}
use Rattle.walks.proofs.Closed.{walks_snoc, ends_snoc, reaches_self}
use Rattle.rack.specs.Net.{within, fired}
use Rattle.rack.specs.Follow.{ProductMarking, pattern_fired, label_of, start, step}
use Rattle.rack.specs.Reach.{pattern_goes, PatternReaches, product_within}
use Rattle.rack.specs.Refusal.{PatternOver}
use Rattle.std.proofs.Common.{Option, Some, None}
use Rattle.engine.specs.Position.{next_position}
use Rattle.rack.specs.Run.{fires, end}
use Rattle.rack.specs.Replay.{goes_on, firings, count, reached, reason_after, reason}
use Rattle.rack.specs.WellFormed.{WellFormed}
use Rattle.rack.specs.declared.Case.{Case}
use Rattle.rack.specs.declared.Stop.{Stop}
use Rattle.rack.specs.declared.Stop.TheVariants.{RunEnded, BudgetSpent, NotFirable, CapPassed}
use Rattle.rack.proofs.Accepted.{followed, pattern_within}
use Rattle.rack.proofs.Replaying.{Counted}
use Rattle.engine.specs.Fits.{BothLow}
use Rattle.engine.specs.Markings.{product_of}
use Rattle.engine.specs.declared.Product.{Product}
use Rattle.engine.proofs.Kept.{within_tokens, step_system_length, step_pattern_length}
use Rattle.retrace.specs.Firings.{position_by, keeps_at, position_of, FiredSays}
use Rattle.retrace.specs.declared.Fired.{Fired}

-- after n firings of a run: the marking m and the position `at` in the log
pub record Standing (c : Case) (run : List ℕ) (budget : ℕ) (m : ProductMarking) (at : Option ℕ) (n : ℕ) : Type 0 where
  pub in_run : n ≤ length run
  pub in_budget : n ≤ budget
  pub walked : T (walks (goes_on c) (step c) (start c) (take n run))
  pub there : m ≡ ends (goes_on c) (step c) (start c) (take n run)
  pub position : at ≡ position_of c (take n run)
  pub held : T (product_within c m)
  pub follows : PatternReaches c m.pattern
  pub wide : length m.pattern ≡ 8

-- ---- before the first firing

pub standing_start : {c : Case} (run : List ℕ) (budget : ℕ) (m : ProductMarking) → WellFormed c → m ≡ start c → Standing c run budget m (Some 0) 0
unfolding walks ends position_of product_within start
standing_start {c} run budget m w e =
    record {
      in_run = omega arith;
      in_budget = omega arith;
      walked = tt;
      there = e;
      position = refl;
      held = subst (λ (x : ProductMarking). T (product_within c x)) (sym e)
          (and_both (within 16 c.net.cap c.net.first) (within 8 c.pattern.cap c.pattern.first) w.net.tokens_within w.pattern.tokens_within);
      follows = subst (λ (x : ProductMarking). PatternReaches c x.pattern) (sym e) (reaches_self (pattern_goes c) (pattern_fired c) c.pattern.first);
      wide = ap (λ (x : ProductMarking). length x.pattern) e ∙ w.pattern.long;
    }

-- ---- one firing more

-- the position after it, where a position has been kept to
pub moved_by : (c : Case) (t : ℕ) (at q : Option ℕ) → (at ≡ None → q ≡ None) → ((i : ℕ) → at ≡ Some i → q ≡ next_position c (label_of c t) i) → q ≡ position_by c at t
unfolding position_by
moved_by c t None q off on = off refl
moved_by c t (Some i) q off on = on i refl

-- a test beside one that passes
and_yes : (a b : Bool) → b ≡ true → (a && b) ≡ a
and_yes true b e = e
and_yes false b e = refl

module _ {c : Case} {run : List ℕ} {budget : ℕ} {m : ProductMarking} {at : Option ℕ} {n : ℕ} (s : Standing c run budget m at n) where
  -- the system is within its cap
  pub system_held : T (within 16 c.net.cap m.system)
  unfolding product_within
  system_held = and_left (within 16 c.net.cap m.system) (within 8 c.pattern.cap m.pattern) s.held

  -- where the marking after a firing is within the caps, its tokens fit
  pub step_low : (t : ℕ) → WellFormed c → T (product_within c (step c m t)) → BothLow (step c m t)
  unfolding product_within
  step_low t w h =
      let x = step c m t in
      let a = within 16 c.net.cap x.system in
      let b = within 8 c.pattern.cap x.pattern in
      record {
        system = within_tokens 16 c.net.cap x.system (step_system_length c m t) w.net.cap_low (and_left a b h);
        pattern = within_tokens 8 c.pattern.cap x.pattern (step_pattern_length c m t s.wide) w.pattern.cap_low (and_right a b h);
      }

  -- the pattern's part of the marking after a firing is reached in the pattern alone
  pattern_follows : (PatternOver c → ⊥) → (t : ℕ) → PatternReaches c (step c m t).pattern
  unfolding step
  pattern_follows kept t = followed c kept m.pattern (label_of c t) s.follows

  -- so it is within the pattern's cap, and the system's alone has to be asked
  pub system_decides : WellFormed c → (PatternOver c → ⊥) → (t : ℕ) {r : Bool} → r ≡ within 16 c.net.cap (fired c m.system t) → r ≡ product_within c (step c m t)
  unfolding product_within step
  system_decides w kept t e =
      let x = step c m t in
      e ∙ sym (and_yes (within 16 c.net.cap x.system) (within 8 c.pattern.cap x.pattern)
      (is_true (within 8 c.pattern.cap x.pattern) (pattern_within c w.pattern.tokens_within x.pattern (pattern_follows kept t))))

  -- t is the next number of the run
  pub standing_more : (PatternOver c → ⊥) → (m' : ProductMarking) (at' : Option ℕ) {t : ℕ} → n < length run → (n ≡ budget → ⊥) → t ≡ get_or run n 0 → fires c m t ≡ true → m' ≡ step c m t → T (product_within c m')
      → at' ≡ position_by c at t → Standing c run budget m' at' (n + 1)
  unfolding goes_on position_of
  standing_more kept m' at' {t} l ne q f e h p =
      let one : take (n + 1) run ≡ take n run ++ (t ∷ []) =
      ap (λ (k : ℕ). take k run) (add-one n) ∙ take-suc run n 0 l ∙ ap (λ (x : ℕ). take n run ++ (x ∷ [])) (sym q) in
      let on : T (goes_on c (ends (goes_on c) (step c) (start c) (take n run)) t) =
      subst (λ (x : ProductMarking). T (goes_on c x t)) s.there
      (and_both (fires c m t) (product_within c (step c m t)) (of_true _ f) (subst (λ (x : ProductMarking). T (product_within c x)) e h)) in
      record {
        in_run = omega arith;
        in_budget = omega (arith, ne, s.in_budget);
        walked = subst (λ (x : List ℕ). T (walks (goes_on c) (step c) (start c) x)) (sym one) (walks_snoc (goes_on c) (step c) (take n run) (start c) t s.walked on);
        there = e ∙ ap (λ (x : ProductMarking). step c x t) s.there ∙ sym (ap (ends (goes_on c) (step c) (start c)) one ∙ ends_snoc (goes_on c) (step c) (take n run) (start c) t);
        position = p ∙ ap (λ (x : Option ℕ). position_by c x t) s.position ∙ sym (ap (ends (keeps_at c) (position_by c) (Some 0)) one ∙ ends_snoc (keeps_at c) (position_by c) (take n run) (Some 0) t);
        held = h;
        follows = subst (λ (x : ProductMarking). PatternReaches c x.pattern) (sym e) (pattern_follows kept t);
        wide = ap (λ (x : ProductMarking). length x.pattern) e ∙ step_pattern_length c m t s.wide;
      }

-- ---- the count is the only number that is right

one_count : (c : Case) (run : List ℕ) (m : ProductMarking) (budget n : ℕ) → Counted c m run budget n → n ≡ firings c m run budget
unfolding firings walks ends
one_count c [] m budget n k = omega (arith, k.in_run)
one_count c (t ∷ r) m zero n k = omega (arith, k.in_budget)
one_count c (t ∷ r) m (suc b) n k = go (goes_on c m t) refl n k (one_count c r (step c m t) b)
  where
    go : (x : Bool) → goes_on c m t ≡ x → (n : ℕ) → Counted c m (t ∷ r) (suc b) n → ((j : ℕ) → Counted c (step c m t) r b j → j ≡ firings c (step c m t) r b)
        → n ≡ pick x (suc (firings c (step c m t) r b)) 0
    go true e zero k rest = absurd (true≢false (sym e ∙ k.stopped (omega arith) (omega arith)))
    go true e (suc j) k rest =
        ap suc
        (rest j
        (record {
          in_run = omega (arith, k.in_run);
          in_budget = omega (arith, k.in_budget);
          fired = and_right (goes_on c m t) (walks (goes_on c) (step c) (step c m t) (take j r)) k.fired;
          stopped = λ h l. k.stopped (omega arith) (omega arith);
        }))
    go false e zero k rest = refl
    go false e (suc j) k rest = absurd (subst T e (and_left (goes_on c m t) (walks (goes_on c) (step c) (step c m t) (take j r)) k.fired))

-- where moves lead does not hang on which of them can be made
ends_same : (c : Case) (r : List ℕ) (m : ProductMarking) → ends (goes_on c) (step c) m r ≡ ends (fires c) (step c) m r
unfolding ends
ends_same c [] m = refl
ends_same c (t ∷ r) m = ends_same c r (step c m t)

-- ---- the reasons to stop, in their order

-- n firings, the marking and the position after them, and the reason to stop
abbrev pub stood : Product → Option ℕ → ℕ → Stop → Fired
stood m at n stop = record { fired = n; marking = m; at = at; stop = stop }

module _ {c : Case} {run : List ℕ} {budget : ℕ} (p : Product) {at : Option ℕ} {n : ℕ} (s : Standing c run budget (product_of p) at n) where
  stopped_by : (x : Stop) → (n < length run → n < budget → goes_on c (product_of p) (get_or run n 0) ≡ false) → x ≡ reason_after c n (length run) budget (product_of p) (get_or run n 0)
      → FiredSays c run budget (stood p at n x)
  unfolding count reached reason end
  stopped_by x none e =
      let k : Counted c (start c) run budget n =
      record {
        in_run = s.in_run;
        in_budget = s.in_budget;
        fired = s.walked;
        stopped = λ h l. subst (λ (m : ProductMarking). goes_on c m (get_or run n 0) ≡ false) s.there (none h l);
      } in
      let q : n ≡ count c run budget = one_count c run (start c) budget n k in
      let t : product_of p ≡ end c (take n run) = s.there ∙ ends_same c (take n run) (start c) in
      record {
        counted = q;
        there = t ∙ ap (λ (j : ℕ). end c (take j run)) q;
        position = s.position ∙ ap (λ (j : ℕ). position_of c (take j run)) q;
        stopped = e ∙ ap (λ (m : ProductMarking). reason_after c n (length run) budget m (get_or run n 0)) t ∙ ap (λ (j : ℕ). reason_after c j (length run) budget (end c (take j run)) (get_or run j 0)) q;
      }

  pub run_ended : {r : Fired} → r ≡ stood p at n RunEnded → length run ≤ n → FiredSays c run budget r
  unfolding reason_after
  run_ended e l = subst (FiredSays c run budget) (sym e) (stopped_by RunEnded (λ h k. absurd (omega arith)) (rw (eq-eqb n (length run) (omega (arith, s.in_run)))))

  pub budget_spent : {r : Fired} → r ≡ stood p at n BudgetSpent → n < length run → n ≡ budget → FiredSays c run budget r
  unfolding reason_after
  budget_spent e l b = subst (FiredSays c run budget) (sym e) (stopped_by BudgetSpent (λ h k. absurd (omega arith)) (rw (ne_eqb n (length run) (omega arith), eq-eqb n budget b)))

  -- t is the next number of the run
  module _ {t : ℕ} (l : n < length run) (b : n ≡ budget → ⊥) (q : t ≡ get_or run n 0) where
    pub not-firable : {r : Fired} → r ≡ stood p at n NotFirable → fires c (product_of p) t ≡ false → FiredSays c run budget r
    unfolding reason_after goes_on
    not-firable e f =
        subst (FiredSays c run budget) (sym e) (stopped_by NotFirable (λ h k. rw (← q, f)) (rw (ne_eqb n (length run) (omega arith), ne_eqb n budget b, ← q, f)))

    pub cap_passed : {r : Fired} → r ≡ stood p at n CapPassed → fires c (product_of p) t ≡ true → product_within c (step c (product_of p) t) ≡ false → FiredSays c run budget r
    unfolding reason_after goes_on
    cap_passed e f o =
        subst (FiredSays c run budget) (sym e) (stopped_by CapPassed (λ h k. rw (← q, f, o)) (rw (ne_eqb n (length run) (omega arith), ne_eqb n budget b, ← q, f)))
