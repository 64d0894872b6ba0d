-- `records::stretch::all_observed` meets its contract. Assumes nothing.
use Rattle.std.proofs.Common.{◌∙◌, rules, tests}
use Rattle.std.proofs.lemmas.Iterator.{YieldsList-from_slice}
use Rattle.std.proofs.lemmas.Iterator.Search.{all_from_yields_List}
use Rattle.rack.specs.Records.{observed}
use Rattle.records.proofs.Answered.{every_is}
use Rattle.records.proofs.stretch.all_observed.Goals as goal

pub returns : goal.returns
unfolding observed
returns c =
    all_from_yields_List (observed c.args.flags.now) _ _ _ c.all.ensures.ran (YieldsList-from_slice c.args.labels.now cc) (λ x b q k. search (rules, tests))
    ∙ every_is (observed c.args.flags.now) c.args.labels.now
