-- `slots::stores::mark_list` meets its contract. Assumes nothing.
use Rattle.std.proofs.Common.{ℕ, ◌+◌, ◌*◌, ◌-◌, ◌∙◌, List, arith}
use Rattle.std.proofs.lemmas.List.{at_drop_more, at_drop_all}
use Rattle.std.proofs.lemmas.Grind.{common_steps}
use Rattle.rack.specs.Bytes.{part, marked}
use Rattle.rack.proofs.WellFormedLists.{length_part}
use Rattle.slots.proofs.Rows.{byte_of_part, list_below}
use Rattle.slots.proofs.stores.mark_list.Goals as goal

pub bounds-rows-base : goal.bounds-rows-base
bounds-rows-base c =
    let f = c.args.file.now in
    let n = c.args.at + 1 + c.from.result - (c.args.at + 1) in
    let i = c.loop-number.number-index in
    let l = length_part f (c.args.at + 1) n (omega arith) in
    let e = c.from-in-loop-number.ensures ∙ byte_of_part f (c.args.at + 1) n i (omega (arith, l)) in
    let h = list_below c.requires.0 i (omega (arith, l)) in
    omega (arith, e, h)

pub loop-number-preserved : goal.loop-number-preserved
unfolding marked
loop-number-preserved c =
    let base = c.args.row * c.args.width in
    let list = part c.args.file.now (c.args.at + 1) (c.args.at + 1 + c.from.result - (c.args.at + 1)) in
    let e = at_drop_more (λ (xs : List ℕ). marked base xs c.loop-number.rows) list c.loop-number.number-index 0 (omega arith) in
    grind (arith, common_steps)

pub returns : goal.returns
unfolding marked
returns c =
    let base = c.args.row * c.args.width in
    let list = part c.args.file.now (c.args.at + 1) (c.args.at + 1 + c.from.result - (c.args.at + 1)) in
    let e = at_drop_all (λ (xs : List ℕ). marked base xs c.loop-number.rows) list c.loop-number.number-index (omega arith) in
    grind (arith, common_steps)
