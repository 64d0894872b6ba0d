-- `push_qf` meets its contract. Assumes nothing.
use Rattle.std.proofs.Common.{◌≡◌, ◌∷◌, List, ℕ, length, arith, length-append, ap, ◌∙◌}
use Rattle.rack.specs.Writing.{up_to, bound_pair, qf_bytes}
use Rattle.spelling.proofs.Repeats.{up_to_few}
use Rattle.pieces.proofs.Putting.{put_then, put_none, put_more, put_all}
use Rattle.pieces.proofs.Slices.{part_bounds}
use Rattle.pieces.proofs.kinds.push_qf.Goals as goal

pub loop-g-init : goal.loop-g-init
loop-g-init g c = record { long = omega arith; put = put_none _ (qf_bytes c.args.places c.args.bounds.now) }

pub loop-g-preserved : goal.loop-g-preserved
unfolding qf_bytes
loop-g-preserved g c =
    let row = part_bounds c.args.bounds.now c.loop-g.g c.from-places.result (omega arith) (omega arith) ∙ ap (λ (n : ℕ). up_to n (bound_pair c.args.bounds.now c.loop-g.g)) c.from-places.ensures in
    let few = up_to_few 2 c.args.places (bound_pair c.args.bounds.now c.loop-g.g) (λ p. omega arith) in
    record {
      long = omega (arith, few, ap length row, simp length-append at (ap length c.push_bytes.ensures), simp length-append at (ap length c.push_bounds.ensures));
      put = put_more _ c.loop-g.g (qf_bytes c.args.places c.args.bounds.now) c.loop-g.invariant.put (put_then _ _ _ c.push_bytes.ensures c.push_bounds.ensures) (ap (λ (l : List ℕ). 81 ∷ 70 ∷ l) row);
    }

pub returns : goal.returns
returns g c =
    let e : c.loop-g.g ≡ c.args.bounds.now.count = omega (arith, c.from-g-end.ensures) in
    put_all _ (qf_bytes c.args.places c.args.bounds.now) e c.loop-g.invariant.put
