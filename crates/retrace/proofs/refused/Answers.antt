-- `retrace::refused` meets its contract. Assumes nothing.
use Rattle.rack.specs.ReplayOutcome.{replay_refused}
use Rattle.retrace.proofs.refused.Goals as goal

pub returns : goal.returns
unfolding replay_refused
returns c = rw (c.number.ensures, c.beside.ensures)
