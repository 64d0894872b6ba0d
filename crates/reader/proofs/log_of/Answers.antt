-- `reader::log_of` meets its contract. Assumes nothing.
use native.Mathlib.Omega.{arith}
use Rattle.reader.proofs.Given.{given_whole, given_refused}
use Rattle.rack.proofs.LogPlace.{log_fits}
use Rattle.reader.proofs.LogCut.{cut_shown, cut_empty}
use Rattle.reader.proofs.log_of.Goals as goal

pub overflow_sub-from : goal.overflow_sub-from
overflow_sub-from c =
    let r = given_whole c.read_case-reading.ensures c.in-Whole.is in
    omega (arith, log_fits r)

pub slice_bounds-result-end : goal.slice_bounds-result-end
slice_bounds-result-end c =
    let r = given_whole c.read_case-reading.ensures c.in-Whole.is in
    omega (arith, log_fits r)

pub returns-in-Whole : goal.returns-in-Whole
returns-in-Whole c =
    cut_shown c.args.file.ref_ptr _ c.from-count.result (omega (arith, c.from-count.ensures)) c.from-count.ensures
    (given_whole c.read_case-reading.ensures c.in-Whole.is)

pub returns-in-Refused : goal.returns-in-Refused
returns-in-Refused c = cut_empty c.args.file.ref_ptr _ (omega arith) (given_refused c.read_case-reading.ensures c.in-Refused.is)
