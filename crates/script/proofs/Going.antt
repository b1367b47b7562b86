-- Going from word to word of a line, and how a reader's finds make up the whole line.
use Rattle.std.proofs.Common.{◌≡◌, ℕ, ◌<◌, List, [], ◌∷◌, ◌++◌, length, drop, arith, IsErrAnd, Ok, Err, Result, sym, refl, ap, ◌∙◌, subst, MatchResult}
use Rattle.std.proofs.lemmas.List.{length-drop}
use Rattle.grammar.specs.declared.command.Command.{Command}
use Rattle.grammar.specs.declared.command.Verb.{Verb}
use Rattle.grammar.specs.declared.opening.Opening.{Opening}
use Rattle.placement.specs.declared.policies.Policy.{Policy}
use Rattle.grammar.specs.declared.opening.Kind.{Kind}
use Rattle.grammar.specs.declared.opening.Keyword.{Keyword}
use Rattle.grammar.specs.declared.opening.Keyword.TheVariants.{Cluster}
use Rattle.grammar.specs.declared.fault.Place.{Place}
use Rattle.grammar.specs.declared.fault.WordFault.{WordFault}
use Rattle.grammar.specs.declared.fault.LineFault.{LineFault}
use Rattle.grammar.specs.declared.fault.LineFault.TheVariants.{Word}
use Rattle.grammar.specs.Faults.{place_of, place_at}
use Rattle.script.specs.declared.reader.Line.{Line}
use Rattle.grammar.specs.Spelling.{WritesNumber, policy_text, kind_text, verb_text, keyword_text}
use Rattle.grammar.specs.Slots as slots
use Rattle.grammar.specs.Slots.{Slot, In, policy, kind, verb, keyword, Misfit}
use Rattle.grammar.specs.Lines.{Gives, Legal, GivesOpening, LegalOpening, Refuses}
use Rattle.grammar.specs.Reading.{First, Next, FirstFault, NextFault, RestFault, Completes, form, CompletesOpening, opening_form}
use Rattle.grammar.proofs.Seams.{tail_more, tail_end}
use Rattle.grammar.proofs.Wholes.{policy_in, kind_in, command_tail, command_word, opening_tail, opening_word}

-- the exit of a `?`: the fault that came up is a word's, or the line's own
module _ {A : Type 0} (P : A → Type 0) {ss : List Slot} {line : List ℕ} {number i : ℕ} where
  pub by_word : (r : Result A LineFault) (f : WordFault) → IsErrAnd r (λ y. y ≡ Word f) → RestFault ss line number i f.place → MatchResult r P (λ y. RestFault ss line number i (place_of y))
  by_word (Ok x) f none q = absurd none
  by_word (Err y) f e q = subst (λ (z : LineFault). RestFault ss line number i (place_of z)) (sym e) q

  pub by_line : (r : Result A LineFault) (f : LineFault) → IsErrAnd r (λ y. y ≡ f) → RestFault ss line number i (place_of f) → MatchResult r P (λ y. RestFault ss line number i (place_of y))
  by_line (Ok x) f none q = absurd none
  by_line (Err y) f e q = subst (λ (z : LineFault). RestFault ss line number i (place_of z)) (sym e) q

-- something follows where a line has to end
pub rest_end : (line : List ℕ) (number i : ℕ) (p : Place) → i < length line → p ≡ place_at number i → RestFault [] line number i p
rest_end line number i p lt e = record { here = ap (λ q. q.line) e; misfits = tail_end line i p.column (omega (arith, length-drop i line)) (ap (λ q. q.column) e) }

-- the next word is missing or wrong, whatever slots are to follow it
pub here : (slot : Slot) (ss : List Slot) (line : List ℕ) (number i : ℕ) (p : Place) → NextFault slot line number i p → RestFault (slot ∷ ss) line number i p
here slot ss line number i p h = record { here = h.here; misfits = h.misfits ss }

-- a word stands, and the rest behind it does not
pub further : {V : Type 0} (spells : V → List ℕ → Type 0) (slot : Slot) → ((v : V) (w : List ℕ) → spells v w → In slot w) →
    (ss : List Slot) (line now : Line) (i j : ℕ) (v : V) (p : Place) →
    Next spells line.text.now i j v → now ≡ line → RestFault ss now.text.now now.number j p → RestFault (slot ∷ ss) line.text.now line.number i p
further spells slot sort ss line now i j v p n same h = record {
  here = h.here ∙ ap (λ l. l.number) same;
  misfits = tail_more slot ss line.text.now i j n.word p.column n.reads (sort v n.word n.spelled) now.text.now (ap (λ l. l.text.now) same) h.misfits;
}

pub past_number : (ss : List Slot) (line now : Line) (i j v : ℕ) (p : Place) → Next WritesNumber line.text.now i j v → now ≡ line → RestFault ss now.text.now now.number j p → RestFault (slots.number ∷ ss) line.text.now line.number i p
past_number = further WritesNumber slots.number (λ u w h. (u, h.0, h.1))

pub past_policy : (ss : List Slot) (line now : Line) (i j : ℕ) (v : Policy) (p : Place) → Next (λ u w. w ≡ policy_text u) line.text.now i j v → now ≡ line → RestFault ss now.text.now now.number j p → RestFault (policy ∷ ss) line.text.now line.number i p
past_policy = further (λ u w. w ≡ policy_text u) policy (λ u w e. subst (In policy) (sym e) (policy_in u))

pub past_kind : (ss : List Slot) (line now : Line) (i j : ℕ) (v : Kind) (p : Place) → Next (λ u w. w ≡ kind_text u) line.text.now i j v → now ≡ line → RestFault ss now.text.now now.number j p → RestFault (kind ∷ ss) line.text.now line.number i p
past_kind = further (λ u w. w ≡ kind_text u) kind (λ u w e. subst (In kind) (sym e) (kind_in u))

-- the whole line: its first word, and the rest
pub refuses_first : (P : Command → Type 0) (line : List ℕ) (number : ℕ) (r : Result Command LineFault) (f : WordFault) → IsErrAnd r (λ y. y ≡ Word f) → FirstFault verb line number f.place → MatchResult r P (Refuses Legal number line)
refuses_first P line number (Ok c) f none h = absurd none
refuses_first P line number (Err y) f e h = subst (Refuses Legal number line) (sym e) (record { here = h.here; column = command_word line h.end h.word f.place.column h.opens h.strays })

pub refuses_rest : (line line' : List ℕ) (number number' i : ℕ) (v : Verb) (f : LineFault) → First (λ v w. w ≡ verb_text v) line i v → line' ≡ line → number' ≡ number → RestFault (form v) line' number' i (place_of f) → Refuses Legal number line f
refuses_rest line line' number number' i v f o same also h = record {
  here = h.here ∙ also;
  column = command_tail line i o.word v (place_of f).column o.opens o.spelled (subst (λ l. Misfit (form v) l i (place_of f).column) same h.misfits);
}

pub gives : (line line' : List ℕ) (i : ℕ) (v : Verb) (c : Command) → First (λ v w. w ≡ verb_text v) line i v → line' ≡ line → Completes v line' i c → Gives line c
gives line line' i v c o same h = record {
  fits = h.fits;
  text = o.opens.whole ∙ (λ k. o.spelled k ++ drop i (sym same k)) ∙ h.text;
}

only : (v : Keyword) → keyword_text v ≡ keyword_text Cluster
only Cluster = refl

pub refuses_opening_first : (P : Opening → Type 0) (line : List ℕ) (number : ℕ) (r : Result Opening LineFault) (f : WordFault) → IsErrAnd r (λ y. y ≡ Word f) → FirstFault keyword line number f.place → MatchResult r P (Refuses LegalOpening number line)
refuses_opening_first P line number (Ok o) f none h = absurd none
refuses_opening_first P line number (Err y) f e h = subst (Refuses LegalOpening number line) (sym e) (record { here = h.here; column = opening_word line h.end h.word f.place.column h.opens h.strays })

pub refuses_opening_rest : (line line' : List ℕ) (number number' i : ℕ) (v : Keyword) (f : LineFault) → First (λ v w. w ≡ keyword_text v) line i v → line' ≡ line → number' ≡ number → RestFault opening_form line' number' i (place_of f) → Refuses LegalOpening number line f
refuses_opening_rest line line' number number' i v f o same also h = record {
  here = h.here ∙ also;
  column = opening_tail line i o.word (place_of f).column o.opens (o.spelled ∙ only v) (subst (λ l. Misfit opening_form l i (place_of f).column) same h.misfits);
}

pub gives_opening : (line line' : List ℕ) (i : ℕ) (v : Keyword) (c : Opening) → First (λ v w. w ≡ keyword_text v) line i v → line' ≡ line → CompletesOpening line' i c → GivesOpening line c
gives_opening line line' i v c o same h = record {
  fits = h.fits;
  text = o.opens.whole ∙ (λ k. (o.spelled ∙ only v) k ++ drop i (sym same k)) ∙ h.text;
}
