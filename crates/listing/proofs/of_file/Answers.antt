-- `listing::of_file` makes the checks 1, 12 and 2 to 9, and lists the file's case. Assumes nothing.
use Rattle.listing.specs.Asking.{asked_of}
use Rattle.std.proofs.lemmas.Result.{err_from_is_err_and}
use Rattle.listing.proofs.Listing.{barred_outcome}
use Rattle.listing.proofs.Whole.{open_refuses, ready_to_list, listed_outcome}
use Rattle.listing.proofs.of_file.Goals as goal

pub returns-in_err-barred : goal.returns-in_err-barred
returns-in_err-barred c =
    let p = err_from_is_err_and c.from_residual.result c.from_residual.ensures.1 in
    rw (p.1, p.2) (barred_outcome c.args.file.now c.args.limit (asked_of c.args.given) c.args.room.now c.args.work.now c.in_err-barred.ensures)

pub returns-in_err-rows : goal.returns-in_err-rows
returns-in_err-rows c =
    let p = err_from_is_err_and c.from_residual-in_err-rows.result c.from_residual-in_err-rows.ensures.1 in
    rw (p.1, p.2)
    (open_refuses c.args.file.now c.args.limit (asked_of c.args.given) c.args.room.now c.args.work.now c.in_ok-barred.ensures c.in_err-rows.ensures.1)

pub of_case-requires : goal.of_case-requires
of_case-requires c = ready_to_list c.args.file.now c.args.limit (asked_of c.args.given) c.args.room.now c.args.work.now c.in_ok-barred.ensures c.in_ok-rows.ensures

pub returns : goal.returns
returns c =
    listed_outcome c.args.file.now c.args.limit (asked_of c.args.given) c.args.room.now c.args.work.now c.in_ok-barred.ensures c.in_ok-rows.ensures c.of_case.ensures
