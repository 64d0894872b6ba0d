-- `judge::show` goes by whether there is a place of each kind, and by whether each run fits its room. Assumes nothing.
use Rattle.judge.proofs.KindLaws.{Word, show_none, show_first, show_second, show_runs}
use Rattle.judge.proofs.show.Goals as goal
use Rattle.judge.proofs.show.Goals.{in-Some-None, in-Some-Some, in-None-Some}

pub returns-in-None-None : goal.returns-in-None-None
returns-in-None-None c = show_none c.requires.first c.requires.second c.in-None-None.is-0 c.in-None-None.is-1

pub returns-then-matching-judged : goal.returns-then-matching-judged
returns-then-matching-judged c = show_first _ c.requires.first c.length.ensures c.if-matching-judged.true

pub returns-then-other-judged : goal.returns-then-other-judged
returns-then-other-judged c =
    show_second _ _ c.requires.first c.requires.second c.length.ensures c.if-matching-judged.false c.length-2.ensures c.if-other-judged.true

pub returns : goal.returns
returns c =
    let word : Word c.args.found.matching c.args.found.other c.match-found.verdict =
    elim c.match-found.branch [
      | in-Some-None w ↦ rw (w.in-Some-None.is-0, w.in-Some-None.is-1) w.verdict-is
      | in-Some-Some w ↦ rw (w.in-Some-Some.is-0, w.in-Some-Some.is-1) w.verdict-is
      | in-None-Some w ↦ rw (w.in-None-Some.is-0, w.in-None-Some.is-1) w.verdict-is
    ] in
    show_runs _ _ c.requires.first c.requires.second c.length.ensures c.if-matching-judged.false c.length-2.ensures c.if-other-judged.false
    c.write.ensures c.write-2.ensures word
