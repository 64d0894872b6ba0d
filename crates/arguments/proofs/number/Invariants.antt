-- One digit after the other.
use Rattle.arguments.proofs.Spelling.{Spelling}
use Rattle.arguments.proofs.number.Given as goal

abbrev pub invariant-loop-digit : goal.invariant-loop-digit
invariant-loop-digit l = Spelling l.digits l.value l.digit-index
