-- `records::stretch::all_rising` meets its contract. Assumes nothing.
use Rattle.std.proofs.Common.{arith}
use Rattle.std.proofs.lemmas.List.{at_drop_more, at_drop_all}
use Rattle.std.proofs.lemmas.Bool.Decides.{nat_tests}
use Rattle.rack.specs.Bytes.{rising}
use Rattle.records.proofs.stretch.all_rising.Goals as goal

pub returns-then-from-low : goal.returns-then-from-low
unfolding rising
returns-then-from-low c =
    let e = at_drop_more (rising c.loop-number.low c.args.bound) c.args.numbers.now c.loop-number.number-index 0 (omega arith) in
    grind (arith, nat_tests)

pub loop-number-preserved : goal.loop-number-preserved
unfolding rising
loop-number-preserved c =
    let e = at_drop_more (rising c.loop-number.low c.args.bound) c.args.numbers.now c.loop-number.number-index 0 (omega arith) in
    grind (arith, nat_tests)

pub returns : goal.returns
unfolding rising
returns c =
    let e = at_drop_all (rising c.loop-number.low c.args.bound) c.args.numbers.now c.loop-number.number-index (omega arith) in
    grind (arith, nat_tests)
