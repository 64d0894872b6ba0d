-- The number is one that the bytes so far can hold.
use Rattle.std.proofs.Common.{◌<◌, ◌^◌, length}
use Rattle.corpus.proofs.held.Given as goal

abbrev pub invariant-loop-byte : goal.invariant-loop-byte
invariant-loop-byte l = l.n < 256 ^ length l.yielded
