-- `reader::read_case` meets its contract. The loop's invariant is `SoFar` of proofs/Turns.antt; the measure is what is left of the
-- file. Assumes nothing.
use Rattle.std.proofs.Common.{◌≡◌, Some, sym, ◌∙◌, rules}
use native.Mathlib.Omega.{arith}
use Rattle.rack.specs.CaseFileOutcome.{read}
use Rattle.rack.specs.declared.Mark.TheVariants.{En}
use Rattle.reader.proofs.Turns.{start, left_over, all_read, no_mark, wrong_mark, wrong_fields, Right, right_record}
use Rattle.reader.proofs.Given.{refuses}
use Rattle.reader.proofs.read_case.Goals.{in_default-via-in-Some+else-may_follow, in_default-via-in_default}
use Rattle.reader.proofs.read_case.Goals as goal

pub loop-last-init : goal.loop-last-init
loop-last-init c = start c.args.file.now _ c.zero_case-case.ensures

pub returns-in_default : goal.returns-in_default
returns-in_default c =
    let goes_on : c.loop-last.last ≡ Some En → ⊥ = search rules in
    let stands = sym c.mark_at-next.ensures in
    refuses c.refused.ensures
    (elim c.in_default.branch [
      | in_default-via-in-Some+else-may_follow w ↦ wrong_mark c.loop-last.invariant goes_on (stands ∙ w.in-Some.is) (sym w.may_follow.ensures ∙ w.if-may_follow.false)
      | in_default-via-in_default w ↦ no_mark c.loop-last.invariant goes_on (stands ∙ w.in_default.is)
    ])

pub returns-in-Err : goal.returns-in-Err
returns-in-Err c =
    let goes_on : c.loop-last.last ≡ Some En → ⊥ = search rules in
    refuses c.refused-in-Err.ensures
    (wrong_fields c.loop-last.invariant goes_on (sym c.mark_at-next.ensures ∙ c.in-Some.is) c.read_record.ensures c.in-Err.is)

pub loop-last-preserved : goal.loop-last-preserved
loop-last-preserved c =
    let right : Right c.args.file.now c.loop-last.case c.loop-last.at c.in-Some.mark c.in-Ok.end =
    right_record c.loop-last.invariant (sym c.mark_at-next.ensures ∙ c.in-Some.is) (sym c.may_follow.ensures ∙ c.if-may_follow.true) c.read_record.ensures c.in-Ok.is in
    right.turn c.add.ensures

pub returns-then-at-file : goal.returns-then-at-file
returns-then-at-file c =
    let over : c.loop-last.last ≡ Some En = search rules in
    refuses c.refused-then-at-file.ensures (left_over c.loop-last.invariant over (omega (arith, c.if-at-file.true, c.loop-last.invariant.inside)))

pub returns : goal.returns
returns c =
    let over : c.loop-last.last ≡ Some En = search rules in
    read (all_read c.loop-last.invariant over c.if-at-file.false)
