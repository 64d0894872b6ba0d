-- `file_of` meets its contract: each record follows what is put, and finds room. Assumes nothing.
use Rattle.std.proofs.Common.{◌≤◌, arith, length, ap}
use Rattle.rack.specs.Writing.{nt_bytes, tr_bytes, pt_bytes, px_bytes}
use Rattle.spelling.proofs.Lengths.{nt_few, arcs_few, pairs_few, ob_few, pt_few, links_few, bounds_few, lg_few, bytes_in_order}
use Rattle.pieces.proofs.Putting.{put_few}
use Rattle.writer.proofs.file_of.Goals as goal

pub push_pr-requires : goal.push_pr-requires
unfolding nt_bytes tr_bytes pt_bytes px_bytes
push_pr-requires c =
    let start : length c.new-file.result.items ≤ 0 = omega (arith, ap length c.new-file.ensures) in
    let net = put_few _ _ 0 20 start c.push_net.ensures (omega (arith, nt_few c.args.c.now.net, c.requires)) in
    let arcs = put_few _ _ 20 1776 net c.push_arcs.ensures (omega (arith, arcs_few c.args.c.now.arcs, c.requires)) in
    (omega arith, (omega arith, omega arith))

pub push_ob-requires : goal.push_ob-requires
unfolding nt_bytes tr_bytes pt_bytes px_bytes
push_ob-requires c =
    let start : length c.new-file.result.items ≤ 0 = omega (arith, ap length c.new-file.ensures) in
    let net = put_few _ _ 0 20 start c.push_net.ensures (omega (arith, nt_few c.args.c.now.net, c.requires)) in
    let arcs = put_few _ _ 20 1776 net c.push_arcs.ensures (omega (arith, arcs_few c.args.c.now.arcs, c.requires)) in
    let pairs = put_few _ _ 1796 128 arcs c.push_pr.ensures (omega (arith, pairs_few c.args.c.now.pairs, c.requires)) in
    (omega arith, omega arith)

pub push_net-requires-2 : goal.push_net-requires-2
unfolding nt_bytes tr_bytes pt_bytes px_bytes
push_net-requires-2 c =
    let start : length c.new-file.result.items ≤ 0 = omega (arith, ap length c.new-file.ensures) in
    let net = put_few _ _ 0 20 start c.push_net.ensures (omega (arith, nt_few c.args.c.now.net, c.requires)) in
    let arcs = put_few _ _ 20 1776 net c.push_arcs.ensures (omega (arith, arcs_few c.args.c.now.arcs, c.requires)) in
    let pairs = put_few _ _ 1796 128 arcs c.push_pr.ensures (omega (arith, pairs_few c.args.c.now.pairs, c.requires)) in
    let observable = put_few _ _ 1924 35 pairs c.push_ob.ensures (omega (arith, ob_few c.args.c.now.observable, c.requires)) in
    (omega arith, (omega arith, (omega arith, omega arith)))

pub push_arcs-requires-2 : goal.push_arcs-requires-2
unfolding nt_bytes tr_bytes pt_bytes px_bytes
push_arcs-requires-2 c =
    let start : length c.new-file.result.items ≤ 0 = omega (arith, ap length c.new-file.ensures) in
    let net = put_few _ _ 0 20 start c.push_net.ensures (omega (arith, nt_few c.args.c.now.net, c.requires)) in
    let arcs = put_few _ _ 20 1776 net c.push_arcs.ensures (omega (arith, arcs_few c.args.c.now.arcs, c.requires)) in
    let pairs = put_few _ _ 1796 128 arcs c.push_pr.ensures (omega (arith, pairs_few c.args.c.now.pairs, c.requires)) in
    let observable = put_few _ _ 1924 35 pairs c.push_ob.ensures (omega (arith, ob_few c.args.c.now.observable, c.requires)) in
    let pattern = put_few _ _ 1959 12 observable c.push_net-2.ensures (omega (arith, pt_few c.args.c.now.pattern, c.requires)) in
    (omega arith, (omega arith, (omega arith, (omega arith, (omega arith, omega arith)))))

pub push_qf-requires : goal.push_qf-requires
unfolding nt_bytes tr_bytes pt_bytes px_bytes
push_qf-requires c =
    let start : length c.new-file.result.items ≤ 0 = omega (arith, ap length c.new-file.ensures) in
    let net = put_few _ _ 0 20 start c.push_net.ensures (omega (arith, nt_few c.args.c.now.net, c.requires)) in
    let arcs = put_few _ _ 20 1776 net c.push_arcs.ensures (omega (arith, arcs_few c.args.c.now.arcs, c.requires)) in
    let pairs = put_few _ _ 1796 128 arcs c.push_pr.ensures (omega (arith, pairs_few c.args.c.now.pairs, c.requires)) in
    let observable = put_few _ _ 1924 35 pairs c.push_ob.ensures (omega (arith, ob_few c.args.c.now.observable, c.requires)) in
    let pattern = put_few _ _ 1959 12 observable c.push_net-2.ensures (omega (arith, pt_few c.args.c.now.pattern, c.requires)) in
    let links = put_few _ _ 1971 336 pattern c.push_arcs-2.ensures (omega (arith, links_few c.args.c.now.links, c.requires)) in
    (omega arith, (omega arith, (omega arith, omega arith)))

pub push_lg-requires : goal.push_lg-requires
unfolding nt_bytes tr_bytes pt_bytes px_bytes
push_lg-requires c =
    let start : length c.new-file.result.items ≤ 0 = omega (arith, ap length c.new-file.ensures) in
    let net = put_few _ _ 0 20 start c.push_net.ensures (omega (arith, nt_few c.args.c.now.net, c.requires)) in
    let arcs = put_few _ _ 20 1776 net c.push_arcs.ensures (omega (arith, arcs_few c.args.c.now.arcs, c.requires)) in
    let pairs = put_few _ _ 1796 128 arcs c.push_pr.ensures (omega (arith, pairs_few c.args.c.now.pairs, c.requires)) in
    let observable = put_few _ _ 1924 35 pairs c.push_ob.ensures (omega (arith, ob_few c.args.c.now.observable, c.requires)) in
    let pattern = put_few _ _ 1959 12 observable c.push_net-2.ensures (omega (arith, pt_few c.args.c.now.pattern, c.requires)) in
    let links = put_few _ _ 1971 336 pattern c.push_arcs-2.ensures (omega (arith, links_few c.args.c.now.links, c.requires)) in
    let bounds = put_few _ _ 2307 144 links c.push_qf.ensures (omega (arith, bounds_few c.args.c.now.pattern.places c.args.c.now.bounds c.requires.pattern, c.requires)) in
    (omega arith, (omega arith, omega arith))

pub push_bytes-requires : goal.push_bytes-requires
unfolding nt_bytes tr_bytes pt_bytes px_bytes
push_bytes-requires c =
    let start : length c.new-file.result.items ≤ 0 = omega (arith, ap length c.new-file.ensures) in
    let net = put_few _ _ 0 20 start c.push_net.ensures (omega (arith, nt_few c.args.c.now.net, c.requires)) in
    let arcs = put_few _ _ 20 1776 net c.push_arcs.ensures (omega (arith, arcs_few c.args.c.now.arcs, c.requires)) in
    let pairs = put_few _ _ 1796 128 arcs c.push_pr.ensures (omega (arith, pairs_few c.args.c.now.pairs, c.requires)) in
    let observable = put_few _ _ 1924 35 pairs c.push_ob.ensures (omega (arith, ob_few c.args.c.now.observable, c.requires)) in
    let pattern = put_few _ _ 1959 12 observable c.push_net-2.ensures (omega (arith, pt_few c.args.c.now.pattern, c.requires)) in
    let links = put_few _ _ 1971 336 pattern c.push_arcs-2.ensures (omega (arith, links_few c.args.c.now.links, c.requires)) in
    let bounds = put_few _ _ 2307 144 links c.push_qf.ensures (omega (arith, bounds_few c.args.c.now.pattern.places c.args.c.now.bounds c.requires.pattern, c.requires)) in
    let log = put_few _ _ 2451 43 bounds c.push_lg.ensures (omega (arith, lg_few c.args.c.now.log, c.requires)) in
    (omega arith, omega arith)

pub returns : goal.returns
unfolding nt_bytes tr_bytes pt_bytes px_bytes
returns c = rw (c.push_bytes.ensures, c.push_lg.ensures, c.push_qf.ensures, c.push_arcs-2.ensures, c.push_net-2.ensures, c.push_ob.ensures, c.push_pr.ensures, c.push_arcs.ensures, c.push_net.ensures, c.new-file.ensures) (bytes_in_order c.args.c.now)
