-- `push_bounds` meets its contract. Assumes nothing.
use Rattle.std.proofs.Common.{◌≡◌, length, arith, length-append, refl, ap}
use Rattle.spelling.specs.Parts.{bounds_at}
use Rattle.pieces.proofs.Putting.{put_none, put_more, put_all}
use Rattle.pieces.proofs.kinds.push_bounds.Goals as goal

pub loop-p-init : goal.loop-p-init
loop-p-init g c = record { long = omega arith; put = put_none _ (bounds_at c.args.least.now c.args.most.now) }

pub loop-p-preserved : goal.loop-p-preserved
loop-p-preserved g c = record {
  long = omega (arith, simp length-append at (ap length c.push_bytes.ensures));
  put = put_more _ c.loop-p.p (bounds_at c.args.least.now c.args.most.now) c.loop-p.invariant.put c.push_bytes.ensures refl;
}

pub returns : goal.returns
returns g c =
    let e : c.loop-p.p ≡ length c.args.least.now = omega arith in
    put_all _ (bounds_at c.args.least.now c.args.most.now) e c.loop-p.invariant.put
