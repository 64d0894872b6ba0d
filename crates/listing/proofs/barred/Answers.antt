-- `listing::barred` gives the refusal of the check that speaks first, 1 or 12, or none. Assumes nothing.
use Rattle.std.proofs.Common.{arith}
use Rattle.listing.specs.Barred.{by_room, by_limit, by_neither}
use Rattle.listing.proofs.barred.Goals as goal

pub returns-then-bytes-lt-WORK_ROOM : goal.returns-then-bytes-lt-WORK_ROOM
returns-then-bytes-lt-WORK_ROOM c = by_room c.if-bytes-lt-WORK_ROOM.true

pub returns-then-limit-gt-LIMIT_MOST : goal.returns-then-limit-gt-LIMIT_MOST
returns-then-limit-gt-LIMIT_MOST c = by_limit c.if-bytes-lt-WORK_ROOM.false (omega (arith, c.if-limit-gt-LIMIT_MOST.true))

pub returns : goal.returns
returns c = by_neither c.if-bytes-lt-WORK_ROOM.false c.if-limit-gt-LIMIT_MOST.false
