-- The refusals as programs hold them: which check each one is, its number, and the number beside it.
-- Assumes nothing.
use Rattle.std.specs.Prelude.{ℕ}
use Rattle.rack.specs.Refusal.{Check, number, work-room, layout, cycle, pattern-count, pattern-cap, two-join, final-left, product-count, system-cap, own, unexplained, lent-room, given_run, unwritable}
use Rattle.rack.specs.Refusal as checks
use Rattle.rack.specs.declared.Refusal.{Refusal}
use Rattle.rack.specs.declared.Refusal.TheVariants as Refused
use Rattle.rack.specs.declared.Verdict.TheVariants as Verdict
use Rattle.rack.specs.declared.Judged.{Judged}

-- the check that speaks
abbrev pub check_of : Refusal → Check
check_of Refused.WorkRoom = work-room
check_of (Refused.Layout n) = layout
check_of Refused.Cycle = cycle
check_of Refused.PatternCount = pattern-count
check_of Refused.PatternCap = pattern-cap
check_of Refused.TwoJoin = two-join
check_of Refused.FinalLeft = final-left
check_of Refused.ProductCount = product-count
check_of Refused.SystemCap = system-cap
check_of Refused.Unexplained = own unexplained
check_of (Refused.LentRoom n) = own lent-room
check_of Refused.Limit = own checks.limit
check_of Refused.GivenRun = own given_run
check_of Refused.Unwritable = own unwritable

-- "Refusal numbers"
abbrev pub number_of : Refusal → ℕ
number_of r = number (check_of r)

-- "Number beside it": the place for 2, the needed length for 11, and else 0
abbrev pub beside_of : Refusal → ℕ
beside_of (Refused.Layout n) = n
beside_of (Refused.LentRoom n) = n
beside_of r = 0

-- the verdict's answer: no run is shown
abbrev pub judged_of : Refusal → Judged
judged_of r = record { verdict = Verdict.Refused (number_of r) (beside_of r); matching = 0; other = 0 }
