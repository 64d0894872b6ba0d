-- `push_arcs` meets its contract. The invariant: t records are put. Assumes nothing.
use Rattle.std.proofs.Common.{◌≡◌, ◌≤◌, ◌++◌, ◌+◌, ◌*◌}
use Rattle.arrayvec.specs.ArrayVec.{array_vec_len}
use Rattle.rack.specs.Writing.{up_to}
use Rattle.spelling.specs.Parts.{arcs_bytes}
use Rattle.pieces.proofs.kinds.push_arcs.Given as goal

abbrev pub invariant-loop-t : goal.invariant-loop-t
invariant-loop-t g l = record {
  long : array_vec_len l.file ≤ array_vec_len l.initial.file + l.t * (5 + l.width + l.width);
  put : l.file.items ≡ l.initial.file.items ++ up_to l.t (arcs_bytes l.mark l.width l.arcs);
}
