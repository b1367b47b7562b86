-- How the run of a script ends: with its text, or with a fault.
use Rattle.std.specs.Prelude.{◌≡◌, ℕ, ◌≤◌, true, false, ltb, List, ◌++◌, length, Some, None, Ok, Err, Option, MatchResult, nat_lt}
use Rattle.placement.specs.Policies.{rule_of}
use Rattle.grammar.specs.declared.opening.Opening.{Opening}
use Rattle.grammar.specs.Lines.{GivesOpening, LegalOpening, Refuses, lines_of}
use Rattle.cluster.specs.declared.runs.Unrun.{Unrun}
use Rattle.cluster.specs.declared.runs.Unrun.TheVariants.{Refused, NoMemory}
pub use Rattle.cluster.specs.Runs.{statement_in}
use Rattle.transcript.specs.declared.fault.RunFault.{RunFault}
use Rattle.transcript.specs.declared.fault.RunFault.TheVariants.{TooLong, Line, Service, Memory}
use Rattle.transcript.specs.declared.report.Report.TheVariants.{Ready}
use Rattle.transcript.specs.Texts.{row_text}
use Rattle.transcript.specs.Sessions.{Row, session_text, machine_of, first_line, longest_script, Session}

-- sixteen stores are enough, and each has a cap that a run gives
pub record Served (o : Opening) : Type 0 where
  pub low : 1 ≤ o.cap
  pub high : o.cap ≤ 64
  pub few : o.stores ≤ 16

-- the machine of an opening ran the rows
abbrev pub Ended : Opening → List Row → List ℕ → Type 0
Ended o rows out = MatchResult (machine_of o) (λ m. out ≡ row_text 1 (Ok Ready) ++ session_text (rule_of o.policy) m 2 rows) (λ f. ⊥)

-- the machine refuses the opening, or there was no memory
abbrev pub Unopened : Opening → RunFault → Type 0
Unopened o TooLong = ⊥
Unopened o (Line f) = ⊥
Unopened o (Service f) = machine_of o ≡ Err f
Unopened o Memory = Unit {0}

-- a first line that gives an opening which the machine refuses
pub record Unserved (line : List ℕ) (o : Opening) (f : RunFault) : Type 0 where
  pub given : GivesOpening line o
  pub refused : Unopened o f

-- why a whole script is refused
abbrev pub Fails : List ℕ → RunFault → Type 0
Fails script TooLong = nat_lt longest_script (length script) ≡ true
Fails script (Line f) = (nat_lt longest_script (length script) ≡ false) × Refuses LegalOpening 1 (first_line (lines_of script)) f
Fails script (Service f) = (nat_lt longest_script (length script) ≡ false) × ((o : Opening) × Unserved (first_line (lines_of script)) o (Service f))
Fails script Memory = Unit {0}

-- a script that runs
pub record Passes (script out : List ℕ) : Type 0 where
  pub short : ltb longest_script (length script) ≡ false
  pub session : Session (lines_of script) out

-- why nothing ran, as a fault of the run
abbrev pub run_fault : {P : Type 0} → Unrun P → RunFault
run_fault (Refused k) = Service k.fault
run_fault (NoMemory y) = Memory

-- the line that a refusal of a whole script is printed for: 0 where it is too long, else 1; want of memory is not printed
abbrev pub refused_line : RunFault → Option ℕ
refused_line TooLong = Some 0
refused_line (Line f) = Some 1
refused_line (Service f) = Some 1
refused_line Memory = None

-- the refusal of a script as it is printed
pub record Prints (f : RunFault) (out : List ℕ) : Type 0 where
  pub line : ℕ
  pub numbered : refused_line f ≡ Some line
  pub text : out ≡ row_text line (Err f)
