-- The transcript of a script: the lines as the grammar reads them, the one-map machine's answers, as text.
use Rattle.std.specs.Prelude.{◌≡◌, ℕ, ◌+◌, cond, ◌&&◌, List, [], ◌∷◌, ◌++◌, map, length, replicate, Ok, Err, MatchBool, Result, MatchResult, nat_le, nat_lt}
use Rattle.lists.specs.Numbers.{count_up}
use Rattle.placement.specs.Laws.{Rule}
use Rattle.placement.specs.Policies.{rule_of}
use Rattle.machine.specs.declared.fault.Fault.{Fault}
use Rattle.machine.specs.declared.fault.Fault.TheVariants.{BeyondLimit}
use Rattle.machine.specs.OneMap as one
use Rattle.machine.specs.OneMap.{OneMap}
use Rattle.machine.specs.Statements.{close}
use Rattle.grammar.specs.declared.command.Command.{Command}
use Rattle.grammar.specs.declared.opening.Opening.{Opening}
use Rattle.grammar.specs.declared.fault.LineFault.{LineFault}
use Rattle.grammar.specs.Lines.{Gives, Legal, GivesOpening, LegalOpening, Refuses, call_of, lines_of}
use Rattle.transcript.specs.declared.report.Report.TheVariants.{Ready}
use Rattle.transcript.specs.declared.fault.RunFault.{RunFault}
use Rattle.transcript.specs.declared.fault.RunFault.TheVariants.{TooLong, Line, Service}
use Rattle.transcript.specs.Reports.{report_of, served}
use Rattle.transcript.specs.Texts.{row_text, counts_text, closing_text}

-- a line of a script as it was read: its command, or why it is refused
abbrev pub Row : Type 0
Row = Result Command LineFault

-- the rows are what the lines say, the first of which has the number n
abbrev pub RowsRead : ℕ → List (List ℕ) → List Row → Type 0
RowsRead n [] [] = Unit {0}
RowsRead n [] (r ∷ rs) = ⊥
RowsRead n (l ∷ ls) [] = ⊥
RowsRead n (l ∷ ls) (r ∷ rs) = MatchResult r (Gives l) (Refuses Legal n l) × RowsRead (n + 1) ls rs

module _ (p : Rule) where
  -- what is printed at the end: how many keys lie on each store, the copies made, and whether a change is open
  abbrev pub loads : OneMap → List ℕ
  loads o = map (one.load p o) (count_up 0 (length o.caps))

  abbrev pub ending_text : OneMap → List ℕ
  ending_text o = counts_text 0 (loads o) ++ closing_text (close o.book)

  -- what a machine prints for some rows, numbered from n: each command is a call, and gets the machine as the call
  -- before it left it; a refused line makes no call
  abbrev pub session_text : OneMap → ℕ → List Row → List ℕ
  session_text o n [] = ending_text o
  session_text o n (Err f ∷ rows) = row_text n (Err (Line f)) ++ session_text o (n + 1) rows
  session_text o n (Ok c ∷ rows) = row_text n (served (report_of (one.call p o (call_of c)).answer)) ++ session_text (one.call p o (call_of c)).after (n + 1) rows

-- the machine that a first line opens: as many stores as it says, each with the same cap, 1 to 64
abbrev pub machine_of : Opening → Result OneMap Fault
machine_of o =
    cond (nat_le 1 o.cap && nat_le o.cap 64)
    (one.opening (rule_of o.policy) (replicate o.stores o.cap) o.members o.copies)
    (Err BeyondLimit)

-- a machine runs the lines after the first
pub record Runs (p : Rule) (ls : List (List ℕ)) (out : List ℕ) (o : OneMap) : Type 0 where
  pub rows : List Row
  pub read : RowsRead 2 ls rows
  pub text : out ≡ row_text 1 (Ok Ready) ++ session_text p o 2 rows

-- a refused first line prints its refusal alone
abbrev pub RefusedWith : RunFault → List ℕ → Type 0
RefusedWith f out = out ≡ row_text 1 (Err f)

abbrev pub OpensAs : List (List ℕ) → List ℕ → Opening → Type 0
OpensAs ls out o = MatchResult (machine_of o) (Runs (rule_of o.policy) ls out) (λ f. RefusedWith (Service f) out)

-- the first line, which is empty where there is none, and the others
abbrev pub first_line : List (List ℕ) → List ℕ
first_line [] = []
first_line (l ∷ ls) = l

abbrev pub later_lines : List (List ℕ) → List (List ℕ)
later_lines [] = []
later_lines (l ∷ ls) = ls

pub record Session (ls : List (List ℕ)) (out : List ℕ) : Type 0 where
  pub opening : Result Opening LineFault
  pub read : MatchResult opening (GivesOpening (first_line ls)) (Refuses LegalOpening 1 (first_line ls))
  pub text : MatchResult opening (OpensAs (later_lines ls) out) (λ f. RefusedWith (Line f) out)

-- the most bytes that a script has
abbrev pub longest_script : ℕ
longest_script = 16384

-- what a script prints
abbrev pub Transcript : List ℕ → List ℕ → Type 0
Transcript script out =
    MatchBool (nat_lt longest_script (length script))
    (out ≡ row_text 0 (Err TooLong))
    (Session (lines_of script) out)

-- a script prints one thing only
abbrev pub OneTranscript : Type 0
OneTranscript = (script a b : List ℕ) → Transcript script a → Transcript script b → a ≡ b
