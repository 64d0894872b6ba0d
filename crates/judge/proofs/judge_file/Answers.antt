-- `judge::judge_file` gives the verdict on every file, in every length of room. Assumes nothing.
use Rattle.std.proofs.lemmas.Result.{err_from_is_err_and}
use Rattle.steps.proofs.NodeLaws.{walkable}
use Rattle.search.proofs.UseLaws.{ready_after}
use Rattle.judge.proofs.Whole.{ready, refusal, shown_outcome}
use Rattle.judge.proofs.KindLaws.{matching_kind, other_kind}
use Rattle.judge.proofs.judge_file.Goals as goal

pub returns-in_err-rows : goal.returns-in_err-rows
returns-in_err-rows c =
    let p = err_from_is_err_and c.from_residual.result c.from_residual.ensures.1 in
    rw (p.1, p.2) (refusal c.args.file.now c.args.matching.now c.args.other.now c.args.work.now _ c.in_err-rows.ensures)

pub search-found-requires : goal.search-found-requires
search-found-requires c = ready c.in_ok-rows.ensures

pub invariant_of-table : goal.invariant_of-table
invariant_of-table c =
    let after = ready_after (ready c.in_ok-rows.ensures) c.search-found.ensures in
    record { walkable = walkable after; long = after.long }

pub show-shown-requires : goal.show-shown-requires
show-shown-requires c = record { first = matching_kind c.search-found.ensures; second = other_kind c.search-found.ensures }

pub returns : goal.returns
returns c =
    shown_outcome c.args.file.now c.args.matching.now c.args.other.now c.args.work.now c.in_ok-rows.ensures
    c.search-found.ensures c.show-shown.ensures c.clear.ensures
