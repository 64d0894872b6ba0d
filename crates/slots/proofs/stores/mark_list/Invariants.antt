-- `slots::stores::mark_list` meets its contract. The loop's invariant: what is left of the list, marked into the rows as they are,
-- gives the same as the whole list marked into the rows as they were. Assumes nothing.
use Rattle.std.proofs.Common.{◌≡◌, drop}
use Rattle.rack.specs.Bytes.{marked}
use Rattle.slots.proofs.stores.mark_list.Given as goal

abbrev pub invariant-loop-number : goal.invariant-loop-number
invariant-loop-number l = marked l.base (drop l.number-index l.number-items) l.rows ≡ marked l.base l.number-items l.initial.rows
