-- Rows and answers side by side: each command has the next answer, and a refused line has none.
use Rattle.std.specs.Prelude.{ℕ, ◌+◌, List, [], ◌∷◌, ◌++◌, map, length, Ok, Err}
use Rattle.store.specs.Meaning.{Meaning}
use Rattle.machine.specs.declared.call.Call.{Call}
use Rattle.machine.specs.declared.answer.Answer.{Answer}
use Rattle.grammar.specs.Lines.{call_of}
use Rattle.transcript.specs.declared.fault.RunFault.TheVariants.{Line}
use Rattle.transcript.specs.Reports.{report_of, served}
use Rattle.transcript.specs.Texts.{row_text}
use Rattle.transcript.specs.Sessions.{Row}

-- the calls that some rows make
abbrev pub calls_of : List Row → List Call
calls_of [] = []
calls_of (Ok c ∷ rows) = call_of c ∷ calls_of rows
calls_of (Err f ∷ rows) = calls_of rows

-- what is printed for rows numbered from n, given the answers to their calls
abbrev pub woven : ℕ → List Row → List Answer → List ℕ
woven n [] xs = []
woven n (Err f ∷ rows) xs = row_text n (Err (Line f)) ++ woven (n + 1) rows xs
woven n (Ok c ∷ rows) [] = []
woven n (Ok c ∷ rows) (x ∷ xs) = row_text n (served (report_of x)) ++ woven (n + 1) rows xs

-- how many pairs each of some stores holds
abbrev pub counts_of : List Meaning → List ℕ
counts_of st = map (λ (m : Meaning). length m.pairs) st
