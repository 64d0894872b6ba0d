-- `judge::judge` gives the verdict on every file, in every length of room. Assumes nothing.
use Rattle.judge.proofs.judge.Goals as goal

pub returns-in-Err : goal.returns-in-Err
returns-in-Err c = rw c.from.ensures c.in-Err.ensures
