-- `pattern::cycle::leads_down` meets its contract. The invariant: what is marked is what chains of pairs lead to from
-- the first transition. The measure is how many transitions have no mark. Assumes nothing.
use Rattle.pattern.proofs.Chaining.{unmarked, Spread}
use Rattle.pattern.proofs.cycle.leads_down.Given as goal

abbrev pub invariant-loop-t : goal.invariant-loop-t
invariant-loop-t l = Spread l.plan l.fn.from.0 l.marks

abbrev pub decreases-loop-t : goal.decreases-loop-t
decreases-loop-t l = unmarked l.marks
