-- What one digit shows, at each way out of the loop.
use Rattle.std.proofs.Common.{rules, arith}
use Rattle.std.proofs.lemmas.Bool.Decides.{nat_tests}
use Rattle.arguments.proofs.Spelling.{spelling_more, spells_none, spells_other, spells_much, spells_over, spells_all}
use Rattle.arguments.proofs.number.Goals as goal

pub returns-then-is_empty : goal.returns-then-is_empty
returns-then-is_empty c = spells_none _ _ (search rules)

pub returns-then-not-is_ascii_digit : goal.returns-then-not-is_ascii_digit
returns-then-not-is_ascii_digit c = spells_other c.loop-digit.invariant c.loop-digit-test.true _ (cc)

pub returns-in_err-checked_mul : goal.returns-in_err-checked_mul
returns-in_err-checked_mul c = rw c.from_residual.ensures (spells_much c.loop-digit.invariant c.loop-digit-test.true _ (cc) (omega arith))

pub returns-in_err-value : goal.returns-in_err-value
returns-in_err-value c = rw c.from_residual-in_err-value.ensures (spells_much c.loop-digit.invariant c.loop-digit-test.true _ (cc) (omega arith))

pub loop-digit-preserved : goal.loop-digit-preserved
loop-digit-preserved c = spelling_more c.loop-digit.invariant c.loop-digit-test.true _ (cc) (omega arith)

pub returns-then-value-most : goal.returns-then-value-most
returns-then-value-most c = spells_all c.loop-digit.invariant _ (grind (arith, nat_tests)) (omega arith) (omega arith)

pub returns-else-value-most : goal.returns-else-value-most
returns-else-value-most c = spells_over c.loop-digit.invariant _ (omega arith)
