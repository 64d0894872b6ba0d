-- `listing::of_case` lists a case that has been read. Assumes nothing.
use mathlib.Core.Path.{◌≡◌}
use native.Mathlib.Omega.{arith}
use lib.ListN.{replicate}
use borrow.Author.Rules.{rules}
use Rattle.std.specs.Prelude.{None}
use Rattle.walks.proofs.Says.{says_not}
use Rattle.rack.specs.ListingOutcome.{GivenBad}
use Rattle.rack.proofs.ListingEnds.{long_log_ends}
use Rattle.seek.specs.Seeks.{SoughtSays}
use Rattle.steps.proofs.NodeLaws.{log_long, walkable, walkable_kept}
use Rattle.listing.specs.Asking.{asked_of}
use Rattle.listing.specs.CaseListed.{bad, shown, end}
use Rattle.listing.proofs.Cases.{seeking, found_shown, none_good, some_good, some_bad}
use Rattle.listing.proofs.of_case.Goals.{in_default-via-in-None-1, in_default-via-in-Some+else-not-is_good, in-None, in-Some-given}
use Rattle.listing.proofs.of_case.Goals as goal

pub returns : goal.returns
returns c = bad (some_bad c.args.plan.now c.args.limit c.args.given c.in-Some.run' c.in-Some.is _ c.transitions.ensures (says_not c.is_good.ensures c.if-not-is_good.true))

pub returns-then-limit-events : goal.returns-then-limit-events
returns-then-limit-events c =
    let good : GivenBad c.args.plan.now c.args.limit (asked_of c.args.given) → ⊥ =
    elim c.in_default.branch [
      | in_default-via-in-None-1 w ↦ let e : c.args.given ≡ None = cc in none_good c.args.plan.now c.args.limit c.args.given e
      | in_default-via-in-Some+else-not-is_good w ↦ some_good c.args.plan.now c.args.limit c.args.given w.in-Some.run' w.in-Some.is _ w.transitions.ensures (w.is_good.ensures.sound w.if-not-is_good.false)
    ] in
    shown good (end (long_log_ends c.args.plan.now c.args.limit (asked_of c.args.given) (omega (arith, log_long c.requires.ready, c.events.ensures, c.if-limit-events.true))))

pub invariant_of-table : goal.invariant_of-table
invariant_of-table c =
    record {
      walkable = walkable_kept _ _ c.fill.ensures.rows_kept (walkable c.requires.ready);
      long = omega (arith, c.fill.ensures.long, c.requires.ready.long);
    }

pub first-sought-requires : goal.first-sought-requires
first-sought-requires c = seeking c.requires c.fill.ensures (omega (arith, c.events.ensures, c.if-limit-events.false)) _ (search rules)

pub invariant_of-table-in-Some-given : goal.invariant_of-table-in-Some-given
invariant_of-table-in-Some-given c =
    record {
      walkable = walkable_kept _ _ c.fill.ensures.rows_kept (walkable c.requires.ready);
      long = omega (arith, c.fill.ensures.long, c.requires.ready.long);
    }

pub next-sought-requires-clause-seeking : goal.next-sought-requires-clause-seeking
next-sought-requires-clause-seeking c = seeking c.requires c.fill.ensures (omega (arith, c.events.ensures, c.if-limit-events.false)) _ (search rules)

pub returns-2 : goal.returns-2
returns-2 c =
    let good : GivenBad c.args.plan.now c.args.limit (asked_of c.args.given) → ⊥ =
    elim c.in_default.branch [
      | in_default-via-in-None-1 w ↦ let e : c.args.given ≡ None = cc in none_good c.args.plan.now c.args.limit c.args.given e
      | in_default-via-in-Some+else-not-is_good w ↦ some_good c.args.plan.now c.args.limit c.args.given w.in-Some.run' w.in-Some.is _ w.transitions.ensures (w.is_good.ensures.sound w.if-not-is_good.false)
    ] in
    let said : SoughtSays c.args.plan.now c.args.limit (asked_of c.args.given) (replicate 24 0) c.match-given-2.run c.match-given-2.sought =
    elim c.match-given-2.branch [
      | in-None w ↦ rw (w.in-None.is, w.run-is, w.sought-is) w.first-sought.ensures
      | in-Some-given w ↦ rw (w.in-Some-given.is, w.run-is, w.sought-is) w.next-sought.ensures
    ] in
    shown good (found_shown c.args.plan.now c.args.limit (asked_of c.args.given) (replicate 24 0) _ c.args.room.now _ _ _ said c.give.ensures)
