-- The two writes, one after the other.
use Rattle.std.proofs.Common.{rules, append_assoc}
use Rattle.std.proofs.Output.{has_written_append, has_written_of_eq}
use Rattle.report.proofs.MadeDisplay.fmt.Goals as goal

pub returns-clause-writes : goal.returns-clause-writes
returns-clause-writes g c = λ p ok.
    let one = c.write.ensures.writes p (search rules) in
    has_written_of_eq _ _ _ _ _
    (simp (c.first.ensures, c.first-2.ensures, c.from.ensures, c.from-2.ensures, c.either-matches.ensures, c.either-explains.ensures, append_assoc))
    (has_written_append _ _ _ _ _ _ one (c.write-2.ensures.writes one.plain ok))
