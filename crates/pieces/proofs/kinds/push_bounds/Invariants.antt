-- `push_bounds` meets its contract. The invariant: the bounds of p places are put. Assumes nothing.
use Rattle.std.proofs.Common.{◌≡◌, ◌++◌, ◌+◌, ◌*◌}
use Rattle.arrayvec.specs.ArrayVec.{array_vec_len}
use Rattle.rack.specs.Writing.{up_to}
use Rattle.spelling.specs.Parts.{bounds_at}
use Rattle.pieces.proofs.kinds.push_bounds.Given as goal

abbrev pub invariant-loop-p : goal.invariant-loop-p
invariant-loop-p g l = record {
  long : array_vec_len l.file ≡ array_vec_len l.initial.file + l.p * 2;
  put : l.file.items ≡ l.initial.file.items ++ up_to l.p (bounds_at l.least l.most);
}
