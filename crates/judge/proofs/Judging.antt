-- From the verdict on a case that has been read to the outcome of the call on its file. Assumes nothing.
use Prim.Native.Nat.{ℕ, ◌<◌, ◌≤◌}
use mathlib.Core.Path.{refl, subst}
use mathlib.Core.Bool.{Bool, true}
use mathlib.Core.List.{List, [], ◌∷◌, ◌++◌}
use lib.ListN.{length}
use Rattle.rack.specs.Run.{Explains}
use Rattle.rack.specs.Verdict.{FirstOfKind}
use Rattle.rack.specs.Layout.{ReadsAs, BreaksAt}
use Rattle.rack.specs.Refusal.{Own, unexplained, lent-room, Check, work-room, own, work_room, NetsPass, Question, Refuses, speaks, rests}
use Rattle.rack.specs.NetChecks.{product_order}
use Rattle.rack.specs.Outcome.{zeroed}
use Rattle.rack.specs.VerdictOutcome.{of_verdict, TooLong, RunShort, matching_short, other_short, VerdictSays, run_short, VerdictRests, one_explains, VerdictIs}
use Rattle.rack.specs.VerdictOutcome as outcome
use Rattle.rack.specs.declared.Case.{Case}
use Rattle.rack.specs.declared.Judged.{Judged}
use Rattle.rack.proofs.OneReading.{one_case}
use Rattle.rack.proofs.Lift.{layout_rests, lift_refuses, lift_on, passes_accept}
use Rattle.rack.proofs.Answer.{answer_faulty, answer_safe, answer_ambiguous, answer_unexplained}
use Rattle.judge.specs.CaseJudged.{refused_by, Shown, faulty, safe, ambiguous, CaseJudged, pattern_refused, product_refused, shown}
use Rattle.judge.specs.CaseJudged as case

module _ (f matching other work : List ℕ) where
  abbrev q : Question
  q = of_verdict f work

  abbrev Says : Own → ℕ → Type 0
  Says = VerdictSays f matching other

  abbrev Rests : Own → Type 0
  Rests = VerdictRests f matching other

  -- the verdict's checks after the common ones
  abbrev own_order : List Check
  own_order = own unexplained ∷ own lent-room ∷ []

  -- 1: the work room is too short
  pub short_room : length work < work_room → VerdictIs f matching other work (refused_by 1 0) matching other (zeroed work)
  short_room h = outcome.refused (speaks {k = work-room} (h, refl))

  module _ (room : work_room ≤ length work) where
    -- 2: the file breaks the layout
    pub broken_file : {p : ℕ} → BreaksAt f p → VerdictIs f matching other work (refused_by 2 p) matching other (zeroed work)
    broken_file b = outcome.refused (rests room (speaks b))

    module _ {c : Case} (reads : ReadsAs f c) where
      -- a refusal after the checks 3 to 9
      after_nets : NetsPass c → {n m : ℕ} → Refuses q Says Rests own_order n m → VerdictIs f matching other work (refused_by n m) matching other (zeroed work)
      after_nets ok s = outcome.refused (rests room (rests (layout_rests q Says Rests c reads) (lift_on q Says Rests c reads {more = own_order} (passes_accept ok) s)))

      -- 11: a run that is too long, of a case that is explained
      too_short : NetsPass c → {r : List ℕ} {n : ℕ} → Explains c r → RunShort f matching other n → VerdictIs f matching other work (refused_by 11 n) matching other (zeroed work)
      too_short ok {r} x s = after_nets ok (rests (one_explains (record { case = c; reads = reads; is = (r, x) })) (speaks (run_short s)))

      too_long : {k : Bool} {r lent : List ℕ} → FirstOfKind c k r → length lent < length r → TooLong f k lent (length r)
      too_long {r = r} x h = record { case = c; run = r; reads = reads; first = x; short = h; needed = refl }

      shown_outcome : {x : Judged} {a b : List ℕ} → NetsPass c → Shown c matching other x a b → VerdictIs f matching other work x a b (zeroed work)
      shown_outcome ok (faulty x h) = answer_faulty reads ok matching other work room x h
      shown_outcome ok (safe x h) = answer_safe reads ok matching other work room x h
      shown_outcome ok (ambiguous x h k) = answer_ambiguous reads ok matching other work room x h k
      shown_outcome ok (case.unexplained x) = answer_unexplained reads ok matching other work room x
      shown_outcome ok (case.matching_short x h) = too_short ok x.explains (matching_short (too_long x h))
      shown_outcome ok (case.other_short fits x h) =
          too_short ok x.explains
          (other_short (λ d r p y. fits r (subst (λ (e : Case). FirstOfKind e true r) (one_case p reads) y)) (too_long x h))

      -- THE VERDICT on a file that reads as c
      pub verdict_of : {x : Judged} {a b : List ℕ} → CaseJudged c matching other x a b → VerdictIs f matching other work x a b (zeroed work)
      verdict_of (pattern_refused s) =
          outcome.refused (rests room (rests (layout_rests q Says Rests c reads) (lift_refuses q Says Rests c reads (product_order ++ own_order) s)))
      verdict_of (product_refused a s) =
          outcome.refused
          (rests room
          (rests (layout_rests q Says Rests c reads)
          (lift_on q Says Rests c reads {more = product_order ++ own_order} a (lift_refuses q Says Rests c reads own_order s))))
      verdict_of (shown ok s) = shown_outcome ok s
