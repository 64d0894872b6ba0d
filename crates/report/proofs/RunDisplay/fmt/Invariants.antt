-- The length and the numbers so far are written.
use Rattle.std.proofs.Common.{◌++◌, take, codes, decimal, flat_map}
use Rattle.std.specs.Fmt.{HasWritten, IsPlainFormatter}
use Rattle.report.proofs.RunDisplay.fmt.Given as goal

abbrev pub invariant-loop-number : goal.invariant-loop-number
invariant-loop-number g l =
    IsPlainFormatter l.initial.f → HasWritten g.W.Write.write_str_gives l.initial.f (flat_map (λ n. codes " " ++ decimal n) (take l.number-index l.number-items)) l.f
