-- There are at most eight bytes.
use Rattle.std.proofs.Common.{arith}
use Rattle.std.proofs.lemmas.Iterator.Adapters.{YieldsList-from_rev_slice}
use Rattle.std.proofs.lemmas.Iterator.Consumers.{YieldsList-turn}
use Rattle.corpus.proofs.Numbers.{held_fits}
use Rattle.corpus.proofs.held.Goals as goal

pub overflow_mul-n : goal.overflow_mul-n
overflow_mul-n c =
    let t = YieldsList-turn (YieldsList-from_rev_slice c.args.bytes.now cc) c.loop-byte.yielded _ c.loop-byte.yielded_by _ _ c.in-Some.byte c.in-Some.is c.next.ensures.steps in
    omega (arith, held_fits _ _ _ c.type_inv.bytes t _ c.requires c.loop-byte.invariant)

pub overflow_add-n : goal.overflow_add-n
overflow_add-n c =
    let t = YieldsList-turn (YieldsList-from_rev_slice c.args.bytes.now cc) c.loop-byte.yielded _ c.loop-byte.yielded_by _ _ c.in-Some.byte c.in-Some.is c.next.ensures.steps in
    omega (arith, held_fits _ _ _ c.type_inv.bytes t _ c.requires c.loop-byte.invariant)
