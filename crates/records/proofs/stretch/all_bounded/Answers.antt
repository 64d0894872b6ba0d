-- `records::stretch::all_bounded` meets its contract. Assumes nothing.
use Rattle.std.proofs.Common.{◌∙◌, refl, rules, tests, arith}
use Rattle.std.proofs.lemmas.Iterator.{YieldsList-from_range}
use Rattle.std.proofs.lemmas.Iterator.Search.{all_from_yields_List}
use Rattle.rack.specs.Records.{bounds}
use Rattle.records.proofs.Answered.{below_is}
use Rattle.records.proofs.stretch.all_bounded.Goals as goal

pub returns : goal.returns
unfolding bounds
returns c =
    let test = bounds c.args.file.now c.args.at c.args.cap in
    all_from_yields_List test _ _ _ c.all.ensures.ran (YieldsList-from_range 0 c.args.places c.args.places refl (omega arith)) (λ x b q k. search (rules, tests))
    ∙ below_is test c.args.places
