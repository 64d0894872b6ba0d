-- `reads_as` meets its contract. Assumes nothing.
use Rattle.walks.proofs.Says.{says_no}
use Rattle.writer.proofs.Outcomes.{read_whole, read_refused}
use Rattle.writer.proofs.reads_as.Goals as goal

pub returns-in-Whole : goal.returns-in-Whole
returns-in-Whole c = read_whole c.read_case-reading.ensures c.in-Whole.is c.same_case.ensures

pub returns-in-Refused : goal.returns-in-Refused
returns-in-Refused c = says_no (read_refused c.read_case-reading.ensures c.in-Refused.is)
