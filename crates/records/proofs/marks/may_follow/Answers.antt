-- `records::marks::may_follow` meets its contract: every entry of the table is that of the definition. Assumes nothing.
use Rattle.rack.specs.Marks.{number_of, follows}
use Rattle.rack.proofs.WellFormed.{number_small}
use Rattle.records.proofs.Table.{row_entry}
use Rattle.records.proofs.marks.may_follow.Goals as goal

pub returns-in-Some-Some : goal.returns-in-Some-Some
unfolding follows
returns-in-Some-Some c =
    rw (c.in-Some-Some.is-0, c.in-Some-Some.is-1, c.number.ensures, c.number-in-Some-Some.ensures)
    (row_entry _ _ (number_of c.in-Some-Some.last) (number_of c.in-Some-Some.next) (number_small c.in-Some-Some.last)
    (number_small c.in-Some-Some.next))
