-- `retrace::retrace` makes the checks 2 to 7 of a file and replays the run where none speaks. Assumes nothing.
use mathlib.Core.Path.{refl}
use Rattle.reader.proofs.Given.{given_refused}
use Rattle.pattern.proofs.Answers.{no_pattern_over}
use Rattle.retrace.proofs.Answering.{layout_refuses, nets_refuse, nets_pass, file_well}
use Rattle.retrace.proofs.retrace.Goals as goal

pub hold-requires : goal.hold-requires
hold-requires c = file_well c.read_case-reading.ensures c.in-Whole.is refl

pub check_pattern-requires : goal.check_pattern-requires
check_pattern-requires c = file_well c.read_case-reading.ensures c.in-Whole.is c.hold.ensures

pub replay-requires : goal.replay-requires
replay-requires c = record { well_formed = file_well c.read_case-reading.ensures c.in-Whole.is c.hold.ensures; fact = no_pattern_over c.in-Ok.ensures }

pub returns-in-Refused : goal.returns-in-Refused
returns-in-Refused c = layout_refuses (given_refused c.read_case-reading.ensures c.in-Refused.is) c.refused.ensures

pub returns-in-Err : goal.returns-in-Err
returns-in-Err c = nets_refuse c.read_case-reading.ensures c.in-Whole.is c.hold.ensures c.in-Err.ensures c.refused-in-Err.ensures

pub returns-in-Ok : goal.returns-in-Ok
returns-in-Ok c = nets_pass c.read_case-reading.ensures c.in-Whole.is c.hold.ensures c.in-Ok.ensures c.replay.ensures
