-- `push_arcs` meets its contract. Assumes nothing.
use Rattle.std.proofs.Common.{rules, ◌≡◌, ◌+◌, ◌*◌, ◌<◌, length, arith, length-append, refl, ap}
use Rattle.rack.proofs.WellFormedKinds.{next_row, rows_apart}
use Rattle.spelling.specs.Parts.{arcs_bytes}
use Rattle.spelling.proofs.Lengths.{row_few}
use Rattle.pieces.proofs.Putting.{put_none, put_more}
use Rattle.pieces.proofs.Slices.{part_long, part_row, put_arc, arc_few}
use Rattle.pieces.proofs.kinds.push_arcs.Goals as goal

pub loop-t-init : goal.loop-t-init
loop-t-init g c = record { long = omega arith; put = put_none _ (arcs_bytes c.args.mark.now c.args.width c.args.arcs.now) }

pub push_row-requires-in-loop-t : goal.push_row-requires-in-loop-t
push_row-requires-in-loop-t g c =
    let inside : c.loop-t.t < c.args.arcs.now.count = omega (arith, c.from-t-end.ensures) in
    let pre : length c.args.arcs.now.pre ≡ g.row.CELLS = search rules in
    let post : length c.args.arcs.now.post ≡ g.row.CELLS = search rules in
    let row = rows_apart c.args.width inside in
    let room = rows_apart (5 + c.args.width + c.args.width) inside in
    let long = part_long c.args.arcs.now.post (c.loop-t.t * c.args.width) c.args.width (omega arith) in
    let same = part_row c.args.arcs.now.pre (c.loop-t.t * c.args.width) c.args.width (omega arith) in
    let few = row_few c.args.arcs.now.pre (c.loop-t.t * c.args.width) c.args.width in
    (search rules, (omega arith, omega (arith, few, ap length same, simp length-append at (ap length c.push_bytes.ensures), simp length-append at (ap length c.push_row.ensures))))

pub loop-t-preserved : goal.loop-t-preserved
loop-t-preserved g c =
    let arcs = c.args.arcs.now in
    let inside : c.loop-t.t < arcs.count = omega (arith, c.from-t-end.ensures) in
    let pre : length arcs.pre ≡ g.row.CELLS = search rules in
    let post : length arcs.post ≡ g.row.CELLS = search rules in
    let row = rows_apart c.args.width inside in
    let few = arc_few c.args.mark.now arcs.labels arcs.pre arcs.post c.args.width c.loop-t.t c.told-mark in
    let put =
    put_arc c.loop-t.file.items c.args.mark.now arcs.labels arcs.pre arcs.post c.loop-t.t c.args.width (omega arith) (omega arith)
    c.push_bytes.ensures c.push.ensures.items c.push_row.ensures c.push_row-in-loop-t.ensures
    in
    record {
      long = omega (arith, few, next_row c.loop-t.t (5 + c.args.width + c.args.width), length-append c.loop-t.file.items (arcs_bytes c.args.mark.now c.args.width arcs c.loop-t.t), ap length put);
      put = put_more _ c.loop-t.t (arcs_bytes c.args.mark.now c.args.width arcs) c.loop-t.invariant.put put refl;
    }
