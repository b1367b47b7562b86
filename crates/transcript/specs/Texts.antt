-- How everything is written that a run prints.
use Rattle.std.specs.Prelude.{ℕ, ◌+◌, List, [], ◌∷◌, ◌++◌, Some, None, Ok, Err, codes, decimal, Option, Result}
use Rattle.store.specs.declared.Put.{Put}
use Rattle.store.specs.declared.Put.TheVariants.{New, Replaced}
use Rattle.store.specs.declared.fault.StoreFault.{StoreFault}
use Rattle.store.specs.declared.fault.StoreFault.TheVariants.{BeyondLimit, BadImage, Full, HoldsPair}
use Rattle.entry.specs.Texts.{state_text}
use Rattle.machine.specs.declared.fault.Fault.{Fault}
use Rattle.machine.specs.declared.fault.Fault.TheVariants as fault
use Rattle.machine.specs.Faults.{fault_number}
use Rattle.machine.specs.Statements.{Closing}
use Rattle.machine.specs.Texts.{change_text, moved_text}
use Rattle.grammar.specs.Faults.{place_of}
use Rattle.transcript.specs.declared.report.Report.{Report}
use Rattle.transcript.specs.declared.report.Report.TheVariants as report
use Rattle.transcript.specs.declared.fault.RunFault.{RunFault}
use Rattle.transcript.specs.declared.fault.RunFault.TheVariants.{TooLong, Line, Service, Memory}

abbrev pub put_text : Put → List ℕ
put_text New = codes "new"
put_text Replaced = codes "replaced"

abbrev pub report_text : Report → List ℕ
report_text report.Ready = codes "ok"
report_text (report.Stored p) = put_text p
report_text (report.Calibration c) = codes "cal " ++ (decimal c.firmware ++ (codes " " ++ decimal c.factor))
report_text (report.Reading r) = codes "read " ++ (decimal r.millilitres ++ (codes " " ++ state_text r.state))
report_text report.Nothing = codes "none"
report_text report.Gone = codes "gone"
report_text (report.Opened s) = codes "open " ++ decimal s
report_text (report.Moved m) = codes "step " ++ moved_text m
report_text report.Done = codes "done"

-- the store that a refusal is printed with: the full one, and no other
abbrev pub full_of : StoreFault → ℕ → Option ℕ
full_of BeyondLimit s = None
full_of BadImage s = None
full_of Full s = Some s
full_of HoldsPair s = None

abbrev pub full_in : Fault → Option ℕ
full_in fault.BeyondLimit = None
full_in (fault.Store r) = full_of r.fault r.store
full_in fault.WrongStore = None
full_in fault.InChange = None
full_in fault.NoChange = None
full_in fault.OtherStores = None
full_in (fault.Lacks k) = None
full_in fault.MayNotLeave = None
full_in (fault.Entry e) = None

-- a refusal's number, and what is printed behind it
abbrev pub refusal_text : ℕ → Option ℕ → List ℕ
refusal_text n None = codes "no " ++ decimal n
refusal_text n (Some detail) = codes "no " ++ (decimal n ++ (codes " " ++ decimal detail))

-- a line outside the grammar is printed with its column, a full store with its number
abbrev pub fault_text : RunFault → List ℕ
fault_text TooLong = codes "no 2"
fault_text (Line f) = codes "no 1 " ++ decimal (place_of f).column
fault_text (Service f) = refusal_text (fault_number f) (full_in f)
fault_text Memory = codes "out of memory"

abbrev pub outcome_text : Result Report RunFault → List ℕ
outcome_text (Ok r) = report_text r
outcome_text (Err f) = fault_text f

-- the line that is printed for the line with the number n
abbrev pub row_text : ℕ → Result Report RunFault → List ℕ
row_text n o = decimal n ++ (codes " " ++ (outcome_text o ++ codes "\n"))

-- the counts of the stores, numbered from s
abbrev pub count_text : ℕ → ℕ → List ℕ
count_text s n = codes "store " ++ (decimal s ++ (codes " " ++ (decimal n ++ codes "\n")))

abbrev pub counts_text : ℕ → List ℕ → List ℕ
counts_text s [] = []
counts_text s (n ∷ ns) = count_text s n ++ counts_text (s + 1) ns

-- what a service says of itself at the end
abbrev pub closing_text : Closing → List ℕ
closing_text c = codes "copies " ++ (decimal c.copied ++ (codes "\n" ++ (change_text c.change ++ codes "\n")))
