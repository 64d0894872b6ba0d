-- The run that is given comes later than the one before.
use Rattle.std.proofs.Common.{rules, arith, ◌≡◌}
use Rattle.std.proofs.lemmas.Result.{IfOk-weaker}
use Rattle.explanations.specs.Turns.{shown_of, LaterSays}
use Rattle.explanations.proofs.TurnLaws.{told_next}
use Rattle.explanations.proofs.show_next.Goals as goal

pub returns-clause-ok : goal.returns-clause-ok
returns-clause-ok g c =
    IfOk-weaker
    c.show.result
    (λ s. s ≡ shown_of c.next-listed.result)
    (λ s. LaterSays c.args.given.now s c.next-listed.new.room)
    (λ s q. told_next (λ k. omega (arith, c.type_inv.given k)) (search rules) c.next-listed.ensures (search rules) q)
    c.show.ensures
