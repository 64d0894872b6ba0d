-- The run fits its room; the rank of the run is further below the top with each turn.
use Rattle.std.proofs.Common.{◌≤◌, IfSome}
use Rattle.explanations.proofs.Ranks.{lines_left}
use Rattle.explanations.proofs.all.Given as goal

abbrev pub invariant-loop-shown : goal.invariant-loop-shown
invariant-loop-shown g l = IfSome l.shown (λ n. n ≤ 24)

abbrev pub decreases-loop-shown : goal.decreases-loop-shown
decreases-loop-shown g l = lines_left l.shown l.room
