-- DEMAND 2 for the verdict, over its contract: `demand_2`. Of a file without fault, in rooms that are long enough, every answer that the contract
-- allows is the verdict over all runs, and shows the first runs of their kind. Assumes nothing.
use Prim.Native.Nat.{ℕ, ◌≤◌}
use mathlib.Core.Path.{◌≡◌, refl, sym, ap, ◌∙◌, subst}
use mathlib.Core.Bool.{Bool, true, false, true≢false}
use mathlib.Core.List.{List}
use lib.ListN.{length}
use Rattle.rack.specs.Verdict.{FirstOfKind, AllOfKind, NoneExplains}
use Rattle.rack.specs.Layout.{ReadsAs}
use Rattle.rack.specs.Refusal.{work_room, NetsPass}
use Rattle.rack.specs.Outcome.{holding}
use Rattle.rack.specs.VerdictOutcome.{RunsFit, VerdictRefuses, VerdictIs}
use Rattle.rack.specs.VerdictOutcome as outcome
use Rattle.rack.specs.declared.Case.{Case}
use Rattle.rack.specs.declared.Judged.{Judged}
use Rattle.rack.specs.declared.Verdict.{Verdict}
use Rattle.rack.proofs.OneReading.{one_case}
use Rattle.rack.proofs.OneOutcome.{not_both, verdict_one}
use Rattle.rack.proofs.Answer.{accepts, answer_unexplained}
use Rattle.rack.proofs.Bound.{shown_run_bound, verdict_short}
use Rattle.rack.proofs.WellFormed.{well_formed}
use Rattle.demands.specs.Verdicts.{Some, No, Judgement, faulty, safe, ambiguous, FirstShown, Right}
use Rattle.demands.specs.Verdicts as verdicts

-- ---- the verdict over all runs is one

clash : {c : Case} {k : Bool} → Some c k → No c k → ⊥
clash x n = n x.run x.explains x.kind

pub judgement_one : {c : Case} {v u : Verdict} → Judgement c v → Judgement c u → v ≡ u
judgement_one (faulty a b) (faulty d e) = refl
judgement_one (faulty a b) (safe d e) = absurd (clash a d)
judgement_one (faulty a b) (ambiguous d e) = absurd (clash e b)
judgement_one (faulty a b) (verdicts.unexplained d e) = absurd (clash a d)
judgement_one (safe a b) (faulty d e) = absurd (clash d a)
judgement_one (safe a b) (safe d e) = refl
judgement_one (safe a b) (ambiguous d e) = absurd (clash d a)
judgement_one (safe a b) (verdicts.unexplained d e) = absurd (clash b e)
judgement_one (ambiguous a b) (faulty d e) = absurd (clash b e)
judgement_one (ambiguous a b) (safe d e) = absurd (clash a d)
judgement_one (ambiguous a b) (ambiguous d e) = refl
judgement_one (ambiguous a b) (verdicts.unexplained d e) = absurd (clash a d)
judgement_one (verdicts.unexplained a b) (faulty d e) = absurd (clash d a)
judgement_one (verdicts.unexplained a b) (safe d e) = absurd (clash e b)
judgement_one (verdicts.unexplained a b) (ambiguous d e) = absurd (clash d a)
judgement_one (verdicts.unexplained a b) (verdicts.unexplained d e) = refl

some : {c : Case} {k : Bool} {r : List ℕ} → FirstOfKind c k r → Some c k
some {r = r} x = record { run = r; explains = x.explains; kind = x.kind }

-- ---- the answer on a file without fault

module _ {f : List ℕ} {c : Case} (reads : ReadsAs f c) (ok : NetsPass c) (matching other work : List ℕ) (enough : work_room ≤ length work) (fits : RunsFit f matching other) where
  shown : (k : Bool) (r before : List ℕ) → FirstOfKind c k r → FirstShown c k before (length r) (holding r before)
  shown k r before x =
      record {
        run = r;
        first = x;
        long = refl;
        written = refl;
        bounded = shown_run_bound c ok.pattern_capped (well_formed reads).pattern.tokens_within ok.system_capped k r x;
      }

  -- a refusal of such a file is 10, and no run explains its log
  none-explains : {n m : ℕ} → VerdictRefuses f matching other work n m → NoneExplains c
  none-explains x s y = not_both f matching other work x (accepts reads ok matching other work enough s y fits)

  no_of : (k j : Bool) → (j ≡ k → ⊥) → AllOfKind c j → No c k
  no_of k j ne all s x e = ne (sym (all s x) ∙ e)

  right : {x : Judged} {a b w : List ℕ} (judged : Judgement c x.verdict) → VerdictIs f matching other work x a b w → Right c matching other work x a b w
  right j (outcome.faulty {c = d} {r = r} g p u) =
      record {
        judged = j;
        exactly = λ v y. judgement_one j y;
        matching_run = shown true r matching (subst (λ (e : Case). FirstOfKind e true r) (one_case p reads) u.shows);
        other_run = (refl, refl);
        zeros = refl;
      }
  right j (outcome.safe {c = d} {s = s} g p u) =
      record {
        judged = j;
        exactly = λ v y. judgement_one j y;
        matching_run = (refl, refl);
        other_run = shown false s other (subst (λ (e : Case). FirstOfKind e false s) (one_case p reads) u.shows);
        zeros = refl;
      }
  right j (outcome.ambiguous {c = d} {r = r} {s = s} g p u) =
      record {
        judged = j;
        exactly = λ v y. judgement_one j y;
        matching_run = shown true r matching (subst (λ (e : Case). FirstOfKind e true r) (one_case p reads) u.matching);
        other_run = shown false s other (subst (λ (e : Case). FirstOfKind e false s) (one_case p reads) u.other);
        zeros = refl;
      }
  right j (outcome.refused g) = record { judged = j; exactly = λ v y. judgement_one j y; matching_run = (refl, refl); other_run = (refl, refl); zeros = refl }

  judgement : {x : Judged} {a b w : List ℕ} → VerdictIs f matching other work x a b w → Judgement c x.verdict
  judgement (outcome.faulty {c = d} {r = r} g p u) =
      faulty (some (subst (λ (e : Case). FirstOfKind e true r) (one_case p reads) u.shows))
      (no_of false true true≢false (subst (λ (e : Case). AllOfKind e true) (one_case p reads) u.all))
  judgement (outcome.safe {c = d} {s = s} g p u) =
      safe (no_of true false (λ e. true≢false (sym e)) (subst (λ (e : Case). AllOfKind e false) (one_case p reads) u.all))
      (some (subst (λ (e : Case). FirstOfKind e false s) (one_case p reads) u.shows))
  judgement (outcome.ambiguous {c = d} {r = r} {s = s} g p u) =
      ambiguous (some (subst (λ (e : Case). FirstOfKind e true r) (one_case p reads) u.matching))
      (some (subst (λ (e : Case). FirstOfKind e false s) (one_case p reads) u.other))
  judgement (outcome.refused {n} {m} g) =
      let silent = none-explains g in
      let e = (verdict_one f matching other work (answer_unexplained reads ok matching other work enough silent) (outcome.refused g)).0 in
      subst (Judgement c) (ap (λ (z : Judged). z.verdict) e) (verdicts.unexplained (λ s x k. silent s x) (λ s x k. silent s x))

  -- DEMAND 2
  pub demand_2 : {x : Judged} {a b w : List ℕ} → VerdictIs f matching other work x a b w → Right c matching other work x a b w
  demand_2 o = right (judgement o) o

-- any two answers that the contract allows, of any file in any rooms, are equal, and so is every byte of the three rooms
pub demand_2_one : {f matching other work : List ℕ} {x y : Judged} {a b w a' b' w' : List ℕ} → VerdictIs f matching other work x a b w → VerdictIs f matching other work y a' b' w'
    → (x ≡ y) × (a ≡ a') × (b ≡ b') × (w ≡ w')
demand_2_one {f} {matching} {other} {work} p q = verdict_one f matching other work p q

-- and no shown run is longer than 20,991 firings
pub demand_2_most : {f matching other work : List ℕ} {x : Judged} {a b w : List ℕ} → VerdictIs f matching other work x a b w → (x.matching ≤ 20991) × (x.other ≤ 20991)
demand_2_most o = verdict_short o
