-- From what the firings of a run come to, and from what the checks answer, to the answer of replay. Assumes nothing.
use Prim.Native.Nat.{ℕ}
use mathlib.Core.Path.{◌≡◌, refl, sym, ap, ◌∙◌, subst}
use mathlib.Core.Bool.{Bool, true, false, ◌&&◌, false≢true}
use mathlib.Core.List.{List, [], ◌∷◌}
use borrow.Author.Tests.{eqb-true, eq-eqb}
use lib.ListN.{length, take}
use lib.Seq.{take-length}
use lib.Dec.{T, eqb, eqb→eq}
use Rattle.walks.specs.Walk.{walks}
use Rattle.walks.proofs.Tests.{and_left, and_right, and_both, is_true, of_true}
use Rattle.walks.proofs.Closed.{walks_cons}
use Rattle.lanes.specs.Lanes.{tokens_of_system, tokens_of_pattern}
use Rattle.rack.specs.Follow.{ProductMarking, final, start, step}
use Rattle.rack.specs.Outcome.{of_file, NoneSays, NoneRests}
use Rattle.rack.specs.CaseFileOutcome.{ReaderIs}
use Rattle.rack.specs.Layout.{ReadsAs, BreaksAt}
use Rattle.rack.specs.NetChecks.{NetRefuses, NetAccepts, pattern_order}
use Rattle.rack.specs.Reach.{product_within}
use Rattle.rack.specs.Refusal.{speaks, rests, also, none}
use Rattle.rack.specs.Replay.{goes_on, count, explains, says_explains}
use Rattle.rack.specs.ReplayOutcome.{replay_of, replay_refused, ReplayIs, replayed, refused}
use Rattle.rack.specs.Run.{fires, runs}
use Rattle.rack.specs.WellFormed.{WellFormed}
use Rattle.rack.specs.declared.Case.{Case}
use Rattle.rack.specs.declared.Reading.{Reading}
use Rattle.rack.specs.declared.Replayed.{Replayed}
use Rattle.rack.specs.declared.Outcome.TheVariants as Outcome
use Rattle.rack.proofs.Lift.{layout_rests, lift_refuses, lift_accepts}
use Rattle.rack.proofs.Replaying.{count-is}
use Rattle.rack.proofs.WellFormed.{well_formed, log_long}
use Rattle.reader.proofs.Given.{given_whole}
use Rattle.engine.specs.Markings.{product_of}
use Rattle.retrace.specs.Firings.{position_of, FiredSays}
use Rattle.retrace.specs.declared.Fired.{Fired}
use Rattle.retrace.proofs.Positions.{position_explains, explains_position}
use Rattle.engine.proofs.Outranking.{both_ways}
use Rattle.std.proofs.Common.{Option, Some, None}

-- ---- a position that is compared

module _ (a : Option ℕ) (n : ℕ) (r : Bool) (off : a ≡ None → r ≡ false) (on : (i : ℕ) → a ≡ Some i → r ≡ eqb i n) where
  pub position_same : r ≡ true → a ≡ Some n
  position_same e = go a refl
    where
      go : (b : Option ℕ) → a ≡ b → b ≡ Some n
      go None q = absurd (false≢true (sym (off q) ∙ e))
      go (Some i) q = ap (λ (k : ℕ). Some k) (eqb-true i n (sym (on i q) ∙ e))

  pub same_position : a ≡ Some n → r ≡ true
  same_position e = on n e ∙ eq-eqb n n refl

-- ---- the run explains the log

-- numbers that go on within the caps are firings
walks_fires : (c : Case) (r : List ℕ) (m : ProductMarking) → T (walks (goes_on c) (step c) m r) → T (walks (fires c) (step c) m r)
unfolding walks goes_on
walks_fires c [] m u = tt
walks_fires c (t ∷ r) m u =
    let (f, u') = walks_cons (goes_on c) (step c) m t r u in
    and_both (fires c m t) (walks (fires c) (step c) (step c m t) r) (and_left (fires c m t) (product_within c (step c m t)) f) (walks_fires c r (step c m t) u')

module _ {c : Case} (w : WellFormed c) where
  -- a run that ended explains the log exactly if it leads to the log's end
  ended_explains : (run : List ℕ) (budget : ℕ) (x : Bool) → (x ≡ true → (count c run budget ≡ length run) × (position_of c (take (count c run budget) run) ≡ Some c.log.count))
      → (count c run budget ≡ length run → position_of c (take (count c run budget) run) ≡ Some c.log.count → x ≡ true) → x ≡ says_explains c run budget
  unfolding says_explains runs
  ended_explains run budget x told back =
      both_ways x (eqb (count c run budget) (length run) && explains c run)
      (λ t.
      let (e, p) = told (is_true x t) in
      let u = subst (λ (l : List ℕ). T (walks (goes_on c) (step c) (start c) l)) (all e) (count-is c run budget).fired in
      and_both (eqb (count c run budget) (length run)) (explains c run) (of_true _ (eq-eqb (count c run budget) (length run) e))
      (position_explains c (log_long w) run (walks_fires c run (start c) u) (rw (all e) at p)))
      (λ t.
      let e = eqb→eq (count c run budget) (length run) (and_left (eqb (count c run budget) (length run)) (explains c run) t) in
      of_true x (back e (rw (all e) (explains_position c (log_long w) run (and_right (eqb (count c run budget) (length run)) (explains c run) t)))))
    where
      all : count c run budget ≡ length run → take (count c run budget) run ≡ run
      all e = ap (λ (k : ℕ). take k run) e ∙ take-length run

  -- ---- the answer for a case whose nets have passed

  pub answers : (run : List ℕ) (budget : ℕ) (r : Fired) {m x : Bool} {a b : List ℕ} → FiredSays c run budget r → m ≡ final c (tokens_of_pattern r.marking.pattern.word)
      → a ≡ tokens_of_system r.marking.system.word → b ≡ tokens_of_pattern r.marking.pattern.word
      → (x ≡ true → (r.fired ≡ length run) × (r.at ≡ Some c.log.count)) → (r.fired ≡ length run → r.at ≡ Some c.log.count → x ≡ true)
      → ◌≡◌ {A = Replayed} (record { fired = r.fired; system = a; pattern = b; matches = m; stop = r.stop; explains = x }) (replay_of c run budget)
  unfolding replay_of product_of
  answers run budget r {m} {x} f p sys pat told back =
      let t = f.there in
      let e = ended_explains run budget x (λ z. let (n, i) = told z in (sym f.counted ∙ n, sym f.position ∙ i)) (λ n i. back (f.counted ∙ n) (f.position ∙ i)) in
      λ j.
      record {
        fired = f.counted j;
        system = (sys ∙ ap (λ (y : ProductMarking). y.system) t) j;
        pattern = (pat ∙ ap (λ (y : ProductMarking). y.pattern) t) j;
        matches = (p ∙ ap (λ (y : ProductMarking). final c y.pattern) t) j;
        stop = f.stopped j;
        explains = e j;
      }

-- ---- the answer for a file

-- the reader refuses by 2
pub layout_refuses : {f run : List ℕ} {budget place : ℕ} {a : Replayed} → BreaksAt f place → a ≡ replay_refused 2 place → ReplayIs f run budget a
layout_refuses {f} {run} {budget} b q = subst (ReplayIs f run budget) (sym q) (refused (speaks b))

-- the file reads as the case c
module _ {f : List ℕ} {r : Reading} {c : Case} (h : ReaderIs f r) (whole : r.outcome ≡ Outcome.Whole) (made : c ≡ r.case) where
  reads : ReadsAs f c
  reads = subst (ReadsAs f) (sym made) (given_whole h whole)

  pub file_well : WellFormed c
  file_well = well_formed reads

  -- a check on its nets speaks
  pub nets_refuse : {run : List ℕ} {budget : ℕ} {n m : ℕ} {a : Replayed} → NetRefuses c pattern_order n × (m ≡ 0) → a ≡ replay_refused n m → ReplayIs f run budget a
  nets_refuse {run} {budget} {n} s q =
      subst (ReplayIs f run budget) (sym (q ∙ ap (replay_refused n) s.1))
      (refused (rests (layout_rests (of_file f) NoneSays NoneRests c reads) (lift_refuses (of_file f) NoneSays NoneRests c reads [] s.0)))

  -- none speaks
  pub nets_pass : {run : List ℕ} {budget : ℕ} {a : Replayed} → NetAccepts c pattern_order → a ≡ replay_of c run budget → ReplayIs f run budget a
  nets_pass {run} {budget} s q =
      subst (ReplayIs f run budget) (sym q)
      (replayed (also (layout_rests (of_file f) NoneSays NoneRests c reads) (lift_accepts (of_file f) NoneSays NoneRests c reads s none)) reads)
