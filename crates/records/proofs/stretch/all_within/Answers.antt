-- `records::stretch::all_within` meets its contract. Assumes nothing.
use Rattle.std.proofs.Common.{◌∙◌, rules, tests}
use Rattle.std.proofs.lemmas.Iterator.{YieldsList-from_slice}
use Rattle.std.proofs.lemmas.Iterator.Search.{all_from_yields_List}
use Rattle.rack.specs.Bytes.{at_most}
use Rattle.records.proofs.Answered.{every_is}
use Rattle.records.proofs.stretch.all_within.Goals as goal

pub returns : goal.returns
returns c =
    all_from_yields_List (at_most c.args.cap) _ _ _ c.all.ensures.ran (YieldsList-from_slice c.args.bytes.now cc) (λ x b q k. search (rules, tests))
    ∙ every_is (at_most c.args.cap) c.args.bytes.now
