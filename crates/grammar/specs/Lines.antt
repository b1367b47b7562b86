-- The lines of a script: what each says, and what a script is cut into.
use Rattle.std.specs.Prelude.{◌≡◌, ℕ, ◌^◌, ◌<◌, cond, List, [], ◌∷◌, ◌++◌, length, codes, decimal, ◌==◌}
use Rattle.std.specs.List.{position_or_len}
use Rattle.machine.specs.declared.call.Call.{Call}
use Rattle.machine.specs.declared.call.Call.TheVariants as calls
use Rattle.grammar.specs.declared.command.Command.{Command}
use Rattle.grammar.specs.declared.command.Command.TheVariants.{Cal, Read, Get, Del, Join, Leave, Step}
use Rattle.grammar.specs.declared.opening.Opening.{Opening}
use Rattle.grammar.specs.declared.fault.LineFault.{LineFault}
use Rattle.grammar.specs.Faults.{place_of}
use Rattle.grammar.specs.Languages.{Begins, Rejects}
use Rattle.grammar.specs.Spelling.{state_text, policy_text, kind_text}

-- each word after one space
abbrev pub spaced : List (List ℕ) → List ℕ
spaced [] = []
spaced (w ∷ ws) = 32 ∷ (w ++ spaced ws)

-- the line that gives a command
abbrev pub line_text : Command → List ℕ
line_text (Cal key entry) = codes "cal" ++ spaced (decimal key ∷ decimal entry.firmware ∷ decimal entry.factor ∷ [])
line_text (Read key entry) = codes "read" ++ spaced (decimal key ∷ decimal entry.millilitres ∷ state_text entry.state ∷ [])
line_text (Get key) = codes "get" ++ spaced (decimal key ∷ [])
line_text (Del key) = codes "del" ++ spaced (decimal key ∷ [])
line_text (Join store) = codes "join" ++ spaced (decimal store ∷ [])
line_text (Leave store) = codes "leave" ++ spaced (decimal store ∷ [])
line_text Step = codes "step" ++ spaced []

-- the numbers of a command are below 2^64
abbrev pub Fits : Command → Type 0
Fits (Cal key entry) = (key < 2 ^ 64) × (entry.firmware < 2 ^ 64) × (entry.factor < 2 ^ 64)
Fits (Read key entry) = (key < 2 ^ 64) × (entry.millilitres < 2 ^ 64)
Fits (Get key) = key < 2 ^ 64
Fits (Del key) = key < 2 ^ 64
Fits (Join store) = store < 2 ^ 64
Fits (Leave store) = store < 2 ^ 64
Fits Step = Unit {0}

-- the line gives the command
pub record Gives (line : List ℕ) (c : Command) : Type 0 where
  pub fits : Fits c
  pub text : line ≡ line_text c

-- a line after the first is legal when it gives some command
abbrev pub Legal : List ℕ → Type 0
Legal line = (c : Command) × Gives line c

-- the call that a command makes
abbrev pub call_of : Command → Call
call_of (Cal key entry) = calls.PutCalibration key entry
call_of (Read key entry) = calls.PutReading key entry
call_of (Get key) = calls.Get key
call_of (Del key) = calls.Remove key
call_of (Join store) = calls.Join store
call_of (Leave store) = calls.Leave store
call_of Step = calls.Step

-- the first line
abbrev pub opening_text : Opening → List ℕ
opening_text o = codes "cluster" ++ spaced (decimal o.stores ∷ decimal o.members ∷ decimal o.copies ∷ policy_text o.policy ∷ kind_text o.kind ∷ decimal o.cap ∷ [])

abbrev pub OpeningFits : Opening → Type 0
OpeningFits o = (o.stores < 2 ^ 64) × (o.members < 2 ^ 64) × (o.copies < 2 ^ 64) × (o.cap < 2 ^ 64)

pub record GivesOpening (line : List ℕ) (o : Opening) : Type 0 where
  pub fits : OpeningFits o
  pub text : line ≡ opening_text o

abbrev pub LegalOpening : List ℕ → Type 0
LegalOpening line = (o : Opening) × GivesOpening line o

-- the line with this number is not one of L, and the fault names its place
pub record Refuses (L : List ℕ → Type 0) (number : ℕ) (line : List ℕ) (f : LineFault) : Type 0 where
  pub here : (place_of f).line ≡ number
  pub column : Rejects L line (place_of f).column

-- a byte in front of the first line
abbrev pub grown : ℕ → List (List ℕ) → List (List ℕ)
grown c [] = (c ∷ []) ∷ []
grown c (l ∷ ls) = (c ∷ l) ∷ ls

-- the lines of a text, each up to a line feed, which the last may lack
abbrev pub lines_of : List ℕ → List (List ℕ)
lines_of [] = []
lines_of (c ∷ t) = cond (c == 10) ([] ∷ lines_of t) (grown c (lines_of t))

-- how many bytes stand before the first line feed
abbrev pub ahead : List ℕ → ℕ
ahead = position_or_len (λ c. c == 10)

-- a line gives one command or opening at most, and is refused at one column at most; no longer front of a refused line
-- begins a legal one
pub record Settles : Type 0 where
  pub command : (line : List ℕ) (c d : Command) → Gives line c → Gives line d → c ≡ d
  pub opening : (line : List ℕ) (o p : Opening) → GivesOpening line o → GivesOpening line p → o ≡ p
  pub column : (line : List ℕ) (c d : ℕ) → Rejects Legal line c → Rejects Legal line d → c ≡ d
  pub opening_column : (line : List ℕ) (c d : ℕ) → Rejects LegalOpening line c → Rejects LegalOpening line d → c ≡ d
  pub longest : (line p q : List ℕ) (c : ℕ) → Rejects Legal line c → line ≡ p ++ q → Begins Legal p → length p < c
