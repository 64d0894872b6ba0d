-- `write_case` meets its contract. Assumes nothing.
use Rattle.std.proofs.Common.{◌∙◌}
use Rattle.walks.proofs.Says.{says_not}
use Rattle.writer.proofs.Outcomes.{read_back, over_limits, answer_written, answer_short, answer_unwritable}
use Rattle.writer.proofs.write_case.Goals as goal

pub returns-then-not-within_limits : goal.returns-then-not-within_limits
returns-then-not-within_limits c = rw c.from.ensures (answer_unwritable (over_limits (says_not c.within_limits.ensures (c.if-not-within_limits.true))))

pub returns-then-not-reads_as : goal.returns-then-not-reads_as
returns-then-not-reads_as c =
    let same = c.as_slice-bytes.ensures.value ∙ c.file_of-file.ensures in
    rw c.from-then-not-reads_as.ensures (answer_unwritable (says_not (read_back same c.reads_as.ensures) (c.if-not-reads_as.true)))

pub returns-then-room-length : goal.returns-then-room-length
returns-then-room-length c =
    let same = c.as_slice-bytes.ensures.value ∙ c.file_of-file.ensures in
    rw c.from-then-room-length.ensures (answer_short same ((read_back same c.reads_as.ensures).sound c.if-not-reads_as.false) c.if-room-length.true)

pub returns : goal.returns
returns c =
    let same = c.as_slice-bytes.ensures.value ∙ c.file_of-file.ensures in
    rw c.copy_from_slice.ensures.after (answer_written same ((read_back same c.reads_as.ensures).sound c.if-not-reads_as.false) c.if-room-length.false)
