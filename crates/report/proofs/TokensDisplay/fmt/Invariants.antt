-- The counts so far are written.
use Rattle.std.proofs.Common.{◌++◌, take, codes, decimal, flat_map}
use Rattle.std.specs.Fmt.{HasWritten, IsPlainFormatter}
use Rattle.report.proofs.TokensDisplay.fmt.Given as goal

abbrev pub invariant-loop-count : goal.invariant-loop-count
invariant-loop-count g l =
    IsPlainFormatter l.initial.f → HasWritten g.W.Write.write_str_gives l.initial.f (flat_map (λ n. codes " " ++ decimal n) (take l.count-index l.rest)) l.f
