-- `push_pr` meets its contract. Assumes nothing.
use Rattle.std.proofs.Common.{◌≡◌, length, arith, length-append, refl, ap}
use Rattle.rack.specs.Writing.{pr_bytes}
use Rattle.pieces.proofs.Putting.{put_none, put_more, put_all}
use Rattle.pieces.proofs.kinds.push_pr.Goals as goal

pub loop-k-init : goal.loop-k-init
loop-k-init g c = record { long = omega arith; put = put_none _ (pr_bytes c.args.pairs.now) }

pub loop-k-preserved : goal.loop-k-preserved
unfolding pr_bytes
loop-k-preserved g c = record {
  long = omega (arith, simp length-append at (ap length c.push_bytes.ensures));
  put = put_more _ c.loop-k.k (pr_bytes c.args.pairs.now) c.loop-k.invariant.put c.push_bytes.ensures refl;
}

pub returns : goal.returns
returns g c =
    let e : c.loop-k.k ≡ c.args.pairs.now.count = omega (arith, c.from-k-end.ensures) in
    put_all _ (pr_bytes c.args.pairs.now) e c.loop-k.invariant.put
