-- `slots::stores::put_bounds` meets its contract. Assumes nothing.
use Rattle.std.proofs.Common.{arith}
use Rattle.slots.proofs.Rows.{table_turn, table_ends}
use Rattle.slots.specs.Seconds.{every_second}
use Rattle.slots.proofs.stores.put_bounds.Goals as goal

pub loop-p-preserved : goal.loop-p-preserved
loop-p-preserved c =
    let entry = every_second c.args.file.now c.args.from in
    table_turn c.args.rows.now c.args.base c.args.places entry (omega arith) c.loop-p.p c.loop-p.rows (omega arith) c.loop-p.invariant

pub returns : goal.returns
returns c =
    let entry = every_second c.args.file.now c.args.from in
    table_ends c.args.rows.now c.args.base c.args.places entry (omega arith) c.loop-p.p c.loop-p.rows (omega arith) c.loop-p.invariant
