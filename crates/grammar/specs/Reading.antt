-- What a reader finds as it goes from word to word of a line.
use Rattle.std.specs.Prelude.{◌≡◌, ℕ, ◌^◌, ◌<◌, List, [], ◌∷◌, ◌++◌, drop, decimal}
use Rattle.grammar.specs.declared.fault.Place.{Place}
use Rattle.grammar.specs.declared.command.Command.{Command}
use Rattle.grammar.specs.declared.command.Verb.{Verb}
use Rattle.grammar.specs.declared.command.Verb.TheVariants as verbs_of
use Rattle.grammar.specs.declared.opening.Opening.{Opening}
use Rattle.grammar.specs.declared.opening.Keyword.TheVariants.{Cluster}
use Rattle.grammar.specs.Spelling.{verb_text, keyword_text}
use Rattle.grammar.specs.Slots.{Slot, number, state, policy, kind, In, Opens, Reads, Misfit, Strays}
use Rattle.grammar.specs.Lines.{spaced, Fits, line_text, OpeningFits, opening_text}

module _ {V : Type 0} (spells : V → List ℕ → Type 0) (line : List ℕ) where
  -- the line's first word stands for v, and ends at place j
  pub record First (j : ℕ) (v : V) : Type 0 where
    pub word : List ℕ
    pub opens : Opens line j word
    pub spelled : spells v word

  -- at place i the line has a space and a word that stands for v and ends at place j
  pub record Next (i j : ℕ) (v : V) : Type 0 where
    pub word : List ℕ
    pub reads : Reads line i j word
    pub spelled : spells v word

  -- the same, and the line ends there
  pub record Last (i j : ℕ) (v : V) : Type 0 where
    pub next : Next i j v
    pub ends : drop j line ≡ []

  -- from place i the line has two numbers and a word that stands for the third value, each after one space, and ends there
  pub record Triple (i : ℕ) (t : ℕ × ℕ × V) : Type 0 where
    pub first : t.0 < 2 ^ 64
    pub second : t.1 < 2 ^ 64
    pub word : List ℕ
    pub spelled : spells t.2 word
    pub text : drop i line ≡ spaced (decimal t.0 ∷ decimal t.1 ∷ word ∷ [])

-- the line's first word is none of its sort
pub record FirstFault (slot : Slot) (line : List ℕ) (number : ℕ) (p : Place) : Type 0 where
  pub here : p.line ≡ number
  pub word : List ℕ
  pub end : ℕ
  pub opens : Opens line end word
  pub strays : Strays (In slot) word 1 p.column

-- at place i there is no word of that sort, whatever is to follow it
pub record NextFault (slot : Slot) (line : List ℕ) (number i : ℕ) (p : Place) : Type 0 where
  pub here : p.line ≡ number
  pub misfits : (ss : List Slot) → Misfit (slot ∷ ss) line i p.column

-- at place i the line does not go on as the slots ask for
pub record RestFault (ss : List Slot) (line : List ℕ) (number i : ℕ) (p : Place) : Type 0 where
  pub here : p.line ≡ number
  pub misfits : Misfit ss line i p.column

-- what follows place i of a line gives, behind the verb v, the command
pub record Completes (v : Verb) (line : List ℕ) (i : ℕ) (c : Command) : Type 0 where
  pub fits : Fits c
  pub text : verb_text v ++ drop i line ≡ line_text c

-- what follows each verb
abbrev pub form : Verb → List Slot
form verbs_of.Cal = number ∷ number ∷ number ∷ []
form verbs_of.Read = number ∷ number ∷ state ∷ []
form verbs_of.Get = number ∷ []
form verbs_of.Del = number ∷ []
form verbs_of.Join = number ∷ []
form verbs_of.Leave = number ∷ []
form verbs_of.Step = []

-- the same of the first line
pub record CompletesOpening (line : List ℕ) (i : ℕ) (o : Opening) : Type 0 where
  pub fits : OpeningFits o
  pub text : keyword_text Cluster ++ drop i line ≡ opening_text o

abbrev pub opening_form : List Slot
opening_form = number ∷ number ∷ number ∷ policy ∷ kind ∷ number ∷ []
