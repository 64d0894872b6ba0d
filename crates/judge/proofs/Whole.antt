-- The whole call: from what opening the file answers, and what is shown of the case, to the outcome of the verdict. Assumes nothing.
use Prim.Native.Nat.{ℕ}
use mathlib.Core.Path.{◌≡◌, sym, ap, ◌∙◌, subst}
use mathlib.Core.List.{List}
use native.Mathlib.Omega.{arith}
use lib.ListN.{length, replicate}
use Rattle.rack.specs.Refusal.{work_room}
use Rattle.rack.specs.Outcome.{zeroed}
use Rattle.rack.specs.VerdictOutcome.{VerdictIs}
use Rattle.rack.specs.declared.Case.{Case}
use Rattle.rack.specs.declared.Refusal.{Refusal}
use Rattle.rack.specs.Refused.{number_of, beside_of, judged_of}
use Rattle.rack.specs.declared.Judged.{Judged}
use Rattle.steps.specs.Walkable.{Ready}
use Rattle.search.specs.Found.{SearchSays}
use Rattle.search.specs.declared.Searched.{Searched}
use Rattle.admit.specs.Admits.{NetsRefuse, of_pattern, of_product, of_layout, of_nets, OpenRefuses, short, of_refused_file, OpenedIs}
use Rattle.judge.specs.CaseJudged.{refused_by, Shown, CaseJudged, pattern_refused, product_refused, shown}
use Rattle.judge.proofs.Judging.{short_room, broken_file, verdict_of}

-- what the search asks holds of a file that was opened
pub ready : {f work₀ : List ℕ} {plan : Case} {work : List ℕ} {n : ℕ} → OpenedIs f work_room work₀ plan work n → Ready plan work n
ready o = let p = o.passes in record { well = p.well; nets = p.nets; table = p.table; long = omega (arith, o.long, o.enough) }

nets_refuse : {c : Case} {matching other : List ℕ} {n m : ℕ} → NetsRefuse c n m → CaseJudged c matching other (refused_by n m) matching other
nets_refuse (of_pattern s) = pattern_refused s
nets_refuse (of_product a s) = product_refused a s

module _ (f matching other work : List ℕ) where
  -- 1 to 9
  refused_outcome : {n m : ℕ} → OpenRefuses f work_room (length work) n m → VerdictIs f matching other work (refused_by n m) matching other (zeroed work)
  refused_outcome (short h) = short_room f matching other work h
  refused_outcome (of_refused_file h (of_layout b)) = broken_file f matching other work h b
  refused_outcome (of_refused_file h (of_nets x s)) = verdict_of f matching other work h x (nets_refuse s)

  pub refusal : {v : List ℕ} (r : Refusal) → (v ≡ zeroed work) × OpenRefuses f work_room (length work) (number_of r) (beside_of r)
      → VerdictIs f matching other work (judged_of r) matching other v
  refusal r o = subst (VerdictIs f matching other work (judged_of r) matching other) (sym o.0) (refused_outcome o.1)

  -- THE VERDICT of the call: what is shown after the checks and the search, and the work room cleared after them
  pub shown_outcome : {plan : Case} {room after : List ℕ} {n : ℕ} {found : Searched} {y : Judged} {a b v : List ℕ} → OpenedIs f work_room work plan room n → SearchSays plan room n after found
      → Shown plan matching other y a b → v ≡ zeroed after → VerdictIs f matching other work y a b v
  shown_outcome {y = y} {a = a} {b = b} {v = v} o g s z =
      let e : v ≡ zeroed work = z ∙ ap (λ (n : ℕ). replicate n 0) (g.long ∙ o.long) in
      subst (VerdictIs f matching other work y a b) (sym e) (verdict_of f matching other work o.enough o.reads (shown o.passes.nets s))
