-- `reader::add` meets its contract: the numbers of places that a net has fit the rows of its arcs. Assumes nothing.
use Rattle.std.proofs.Common.{arith}
use Rattle.slots.proofs.Rows.{arcs_wider}
use Rattle.reader.proofs.add.Goals as goal

pub add_arcs-case-requires : goal.add_arcs-case-requires
add_arcs-case-requires c =
    (omega arith, (omega arith, (omega arith, arcs_wider c.requires.rows.system (rw c.in-Tr.is at c.requires.fields))))

pub add_arcs-case-requires-in-Px : goal.add_arcs-case-requires-in-Px
add_arcs-case-requires-in-Px c =
    (omega arith, (omega arith, (omega arith, arcs_wider c.requires.rows.pattern (rw c.in-Px.is at c.requires.fields))))
