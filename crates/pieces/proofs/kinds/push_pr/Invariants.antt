-- `push_pr` meets its contract. The invariant: k pairs are put. Assumes nothing.
use Rattle.std.proofs.Common.{◌≡◌, ◌++◌, ◌+◌, ◌*◌}
use Rattle.arrayvec.specs.ArrayVec.{array_vec_len}
use Rattle.rack.specs.Writing.{up_to, pr_bytes}
use Rattle.pieces.proofs.kinds.push_pr.Given as goal

abbrev pub invariant-loop-k : goal.invariant-loop-k
invariant-loop-k g l = record {
  long : array_vec_len l.file ≡ array_vec_len l.initial.file + l.k * 4;
  put : l.file.items ≡ l.initial.file.items ++ up_to l.k (pr_bytes l.pairs);
}
