-- `reader::read_case` meets its contract. The loop's invariant is `SoFar` of proofs/Turns.antt; the measure is what is left of the
-- file. Each kind of record adds to its own part of the case. Assumes nothing.
use Prim.Native.Nat.{◌-◌}
use lib.ListN.{length}
use Rattle.reader.proofs.Turns.{SoFar}
use Rattle.reader.proofs.read_case.Given as goal

abbrev pub invariant-loop-last : goal.invariant-loop-last
invariant-loop-last l = SoFar l.file l.last l.case l.at

abbrev pub decreases-loop-last : goal.decreases-loop-last
decreases-loop-last l = length l.file - l.at
