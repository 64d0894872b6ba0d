-- A number that is found is small enough.
use Rattle.arguments.proofs.Spelling.{says_small}
use Rattle.arguments.proofs.argument.Goals as goal

pub returns : goal.returns
returns g c = rw c.number.ensures (says_small _ _)
