-- `push_row` meets its contract. The invariant: those before place p are put. Assumes nothing.
use Rattle.std.proofs.Common.{◌≡◌, ◌++◌}
use Rattle.rack.specs.Writing.{listed, cell}
use Rattle.pieces.proofs.push_row.Given as goal

abbrev pub invariant-loop-p : goal.invariant-loop-p
invariant-loop-p g l = l.file.items ≡ l.initial.file.items ++ listed 0 l.p (cell l.row 0)
