-- What may stand next in a file, where it need not be a mark.
-- Assumes nothing.
use Rattle.std.specs.Prelude.{Bool, false, Option, Some, None}
use Rattle.rack.specs.Marks.{can_follow}
use Rattle.rack.specs.declared.Mark.{Mark}

-- what stands next may come after the mark k, or as the first of all (None): a mark where the table lets it, and what
-- is no mark (None) nowhere
abbrev pub may_come : Option Mark → Option Mark → Bool
may_come k None = false
may_come k (Some m) = can_follow k m
