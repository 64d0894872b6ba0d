-- `slots::stores::put_bounds` meets its contract. The loop's invariant: the first p entries of the table are put. Assumes nothing.
use Rattle.std.proofs.Common.{◌≡◌}
use Rattle.walks.specs.Below.{table_from}
use lib.Seq.{paste}
use Rattle.slots.specs.Seconds.{every_second}
use Rattle.slots.proofs.stores.put_bounds.Given as goal

abbrev pub invariant-loop-p : goal.invariant-loop-p
invariant-loop-p l = l.rows ≡ paste l.initial.rows l.base (table_from 0 l.places (every_second l.file l.from)) l.p
