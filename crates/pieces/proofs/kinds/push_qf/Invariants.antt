-- `push_qf` meets its contract. The invariant: g records are put. Assumes nothing.
use Rattle.std.proofs.Common.{◌≡◌, ◌≤◌, ◌++◌, ◌+◌, ◌*◌}
use Rattle.arrayvec.specs.ArrayVec.{array_vec_len}
use Rattle.rack.specs.Writing.{up_to, qf_bytes}
use Rattle.pieces.proofs.kinds.push_qf.Given as goal

abbrev pub invariant-loop-g : goal.invariant-loop-g
invariant-loop-g g l = record {
  long : array_vec_len l.file ≤ array_vec_len l.initial.file + l.g * 18;
  put : l.file.items ≡ l.initial.file.items ++ up_to l.g (qf_bytes l.fn.places l.bounds);
}
