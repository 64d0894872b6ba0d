-- `pattern::cycle::leads_down` meets its contract. The invariant: what is marked is what chains of pairs lead to from
-- the first transition. The measure is how many transitions have no mark. Assumes nothing.
use Prim.Native.Nat.{◌<◌}
use native.Mathlib.Omega.{arith}
use Rattle.pattern.proofs.Chaining.{unmarked_less, lower_low, spread_start, spread_more, spread_end}
use Rattle.pattern.proofs.cycle.leads_down.Goals as goal

pub loop-t-init : goal.loop-t-init
loop-t-init c = spread_start _ _ c.requires.from_bound.0

pub loop-t-smaller : goal.loop-t-smaller
loop-t-smaller c =
    let o = c.in-Some.ensures in
    let low : c.in-Some.t.0 < 48 = omega (arith, o.is, lower_low c.requires.well_formed o.pair o.below) in
    unmarked_less _ _ (omega (arith, low, c.loop-t.invariant.long)) o.fresh

pub loop-t-preserved : goal.loop-t-preserved
loop-t-preserved c =
    let o = c.in-Some.ensures in
    let low : c.in-Some.t.0 < 48 = omega (arith, o.is, lower_low c.requires.well_formed o.pair o.below) in
    spread_more c.loop-t.invariant _ low o

pub returns : goal.returns
returns c =
    record {
      sound = c.loop-t.invariant.sound c.args.goal.0;
      complete = spread_end c.loop-t.invariant c.in_default.ensures c.args.goal.0;
    }
