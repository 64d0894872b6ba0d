-- Two plans are compared word by word, and the words of each are those of its case. Assumes nothing.
use Rattle.std.proofs.Common.{rules}
use Rattle.plan.specs.WordsBack.{words_given}
use Rattle.plan.proofs.PlanPartialEq.eq.Goals as goal

pub returns : goal.returns
returns c = search (rules, words_given)
