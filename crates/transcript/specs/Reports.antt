-- What a line reports of the answer to its call.
use Rattle.std.specs.Prelude.{Bool, cond, Some, None, Ok, Err, Option, Result}
use Rattle.store.specs.declared.value.Value.{Value}
use Rattle.entry.specs.declared.calibration.Calibration.{Calibration}
use Rattle.entry.specs.declared.reading.Reading.{Reading}
use Rattle.entry.specs.declared.fault.EntryFault.TheVariants.{OtherKind}
use Rattle.entry.specs.Calibrations.{calibration_kind}
use Rattle.entry.specs.Readings.{reading_kind}
use Rattle.machine.specs.declared.answer.Answer.{Answer}
use Rattle.machine.specs.declared.answer.Answer.TheVariants as answers
use Rattle.machine.specs.declared.fault.Fault.{Fault}
use Rattle.machine.specs.declared.fault.Fault.TheVariants.{Entry}
use Rattle.transcript.specs.declared.report.Report.{Report}
use Rattle.transcript.specs.declared.report.Report.TheVariants as report
use Rattle.transcript.specs.declared.fault.RunFault.{RunFault}
use Rattle.transcript.specs.declared.fault.RunFault.TheVariants.{Service}

abbrev pub calibration_report : Option Calibration → Report
calibration_report None = report.Nothing
calibration_report (Some c) = report.Calibration c

abbrev pub reading_report : Option Reading → Report
reading_report None = report.Nothing
reading_report (Some r) = report.Reading r

-- words are reported as the kind of entry that they are of
abbrev pub entry_report : Option Calibration → Option Reading → Result Report Fault
entry_report (Some c) r = Ok (report.Calibration c)
entry_report None (Some r) = Ok (report.Reading r)
entry_report None None = Err (Entry OtherKind)

abbrev pub value_report : Option Value → Result Report Fault
value_report None = Ok report.Nothing
value_report (Some v) = entry_report (calibration_kind.meant v) (reading_kind.meant v)

abbrev pub removal_report : Bool → Report
removal_report held = cond held report.Gone report.Nothing

-- the report of an answer, or its refusal
abbrev pub report_of : Answer → Result Report Fault
report_of (answers.Found v) = value_report v
report_of (answers.FoundCalibration c) = Ok (calibration_report c)
report_of (answers.FoundReading r) = Ok (reading_report r)
report_of (answers.Stored p) = Ok (report.Stored p)
report_of (answers.Removed held) = Ok (removal_report held)
report_of (answers.Opened s) = Ok (report.Opened s)
report_of (answers.Moved m) = Ok (report.Moved m)
report_of answers.Done = Ok report.Done
report_of (answers.Refused f) = Err f

-- a refusal of the service is one of the run
abbrev pub served : Result Report Fault → Result Report RunFault
served (Ok r) = Ok r
served (Err f) = Err (Service f)
