-- A line gives one command or opening at most, and stops at one column.
use Rattle.std.proofs.Common.{◌≡◌, ℕ, ◌+◌, ◌^◌, ◌<◌, ◌≤◌, cond, List, [], ◌∷◌, ◌++◌, length, get_or, take, drop, codes, decimal, sym, refl, ap, ◌∙◌, subst, ⊎_elim, arith, length-append, take-append-drop}
use Rattle.std.specs.Str.Parse.{digits_value}
use Rattle.std.specs.Str.{bytes_eq}
use Rattle.std.specs.List.{AllByRecursion as All}
use Rattle.std.proofs.lemmas.Fmt.{digits_value-decimal}
use Rattle.std.proofs.lemmas.Bool.{cases_lt}
use Rattle.std.proofs.lemmas.List.{take-append-le, length-take-le}
use Rattle.entry.specs.declared.reading.State.{State}
use Rattle.entry.specs.declared.reading.State.TheVariants.{Valid, Saturated, Missing}
use Rattle.placement.specs.declared.policies.Policy.{Policy}
use Rattle.placement.specs.declared.policies.Policy.TheVariants.{Rendezvous, Jump}
use Rattle.grammar.specs.declared.command.Command.{Command}
use Rattle.grammar.specs.declared.command.Command.TheVariants.{Cal, Read, Get, Del, Join, Leave, Step}
use Rattle.grammar.specs.declared.command.Verb.TheVariants as verbs_of
use Rattle.grammar.specs.declared.opening.Kind.{Kind}
use Rattle.grammar.specs.declared.opening.Kind.TheVariants.{Table, Log, Mixed}
use Rattle.grammar.specs.declared.opening.Opening.{Opening}
use Rattle.grammar.specs.declared.opening.Keyword.TheVariants.{Cluster}
use Rattle.grammar.specs.Languages.{Begins, Stops, Rejects}
use Rattle.grammar.specs.Spelling.{state_text, policy_text, kind_text}
use Rattle.grammar.specs.Slots.{number, state, policy, kind, verb, keyword, Edge, Spaceless}
use Rattle.grammar.specs.Lines.{spaced, line_text, Fits, Gives, OpeningFits, GivesOpening}
use Rattle.grammar.proofs.Numbers.{own, begins_front}
use Rattle.grammar.proofs.Seams.{split_same, slot_spaceless}
use Rattle.grammar.proofs.Wholes.{state_in, policy_in, kind_in, verb_in, keyword_in}

-- no longer front begins a text
pub stops_longest : (L : List ℕ → Type 0) (l p q : List ℕ) (k : ℕ) → Stops L l k → l ≡ p ++ q → Begins L p → length p ≤ k
stops_longest L l p q k h e b =
    ⊎_elim
    (λ (lt : k < length p).
    let long = ap length e ∙ length-append p q in
    let front : take (k + 1) l ≡ take (k + 1) p = ap (take (k + 1)) e ∙ take-append-le (k + 1) p q (omega arith) in
    let cut = begins_front L (take (k + 1) p) (drop (k + 1) p) (subst (Begins L) (sym (take-append-drop (k + 1) p)) b) in
    absurd (h.leaves (omega arith) (subst (Begins L) (sym front) cut)))
    (λ (le : length p ≤ k). le)
    (cases_lt k (length p))

stops_once : (L : List ℕ → Type 0) (l : List ℕ) (j k : ℕ) → Stops L l j → Stops L l k → j ≡ k
stops_once L l j k g h =
    let one = stops_longest L l (take j l) (drop j l) k h (sym (take-append-drop j l)) g.begins in
    let two = stops_longest L l (take k l) (drop k l) j g (sym (take-append-drop k l)) h.begins in
    omega (arith, length-take-le j l g.within, length-take-le k l h.within)

pub rejects_once : (L : List ℕ → Type 0) (l : List ℕ) (c d : ℕ) → Rejects L l c → Rejects L l d → c ≡ d
rejects_once L l c d g h = omega (arith, g.at, h.at, stops_once L l g.far h.far g.stops h.stops)

edge_spaced : (ws : List (List ℕ)) → Edge (spaced ws)
edge_spaced [] = tt
edge_spaced (w ∷ ws) = refl

spaced_same : (ws vs : List (List ℕ)) → All Spaceless ws → All Spaceless vs → spaced ws ≡ spaced vs → ws ≡ vs
spaced_same [] [] a b e = refl
spaced_same [] (v ∷ vs) a b e = let z : ◌≡◌ {A = ℕ} 0 1 = cc in absurd (omega arith)
spaced_same (w ∷ ws) [] a b e = let z : ◌≡◌ {A = ℕ} 0 1 = cc in absurd (omega arith)
spaced_same (w ∷ ws) (v ∷ vs) a b e =
    let r : w ++ spaced ws ≡ v ++ spaced vs = cc in
    let (same, rest) = split_same w v (spaced ws) (spaced vs) a.0 b.0 (edge_spaced ws) (edge_spaced vs) r in
    (λ i. same i ∷ spaced_same ws vs a.1 b.1 rest i)

-- a line of words gives back the words
words_same : (l : List ℕ) (ws vs : List (List ℕ)) → All Spaceless ws → All Spaceless vs → spaced ws ≡ 32 ∷ l → spaced vs ≡ 32 ∷ l → ws ≡ vs
words_same l ws vs a b e f = spaced_same ws vs a b (e ∙ sym f)

abbrev word_at : ℕ → List (List ℕ) → List ℕ
word_at n ws = get_or ws n []

abbrev number_at : ℕ → List (List ℕ) → ℕ
number_at n ws = digits_value 10 (word_at n ws)

plain_number : (n : ℕ) → n < 2 ^ 64 → Spaceless (decimal n)
plain_number n h = slot_spaceless number (decimal n) (n, h, refl)

-- the words of a command, and the command back from them
abbrev words : Command → List (List ℕ)
words (Cal a e) = codes "cal" ∷ decimal a ∷ decimal e.firmware ∷ decimal e.factor ∷ []
words (Read a e) = codes "read" ∷ decimal a ∷ decimal e.millilitres ∷ state_text e.state ∷ []
words (Get a) = codes "get" ∷ decimal a ∷ []
words (Del a) = codes "del" ∷ decimal a ∷ []
words (Join a) = codes "join" ∷ decimal a ∷ []
words (Leave a) = codes "leave" ∷ decimal a ∷ []
words Step = codes "step" ∷ []

words_line : (c : Command) → spaced (words c) ≡ 32 ∷ line_text c
words_line (Cal a e) = refl
words_line (Read a e) = refl
words_line (Get a) = refl
words_line (Del a) = refl
words_line (Join a) = refl
words_line (Leave a) = refl
words_line Step = refl

words_plain : (c : Command) → Fits c → All Spaceless (words c)
words_plain (Cal a e) h = (slot_spaceless verb _ (verb_in verbs_of.Cal), (plain_number a h.0, (plain_number e.firmware h.1, (plain_number e.factor h.2, tt))))
words_plain (Read a e) h = (slot_spaceless verb _ (verb_in verbs_of.Read), (plain_number a h.0, (plain_number e.millilitres h.1, (slot_spaceless state _ (state_in e.state), tt))))
words_plain (Get a) h = (slot_spaceless verb _ (verb_in verbs_of.Get), (plain_number a h, tt))
words_plain (Del a) h = (slot_spaceless verb _ (verb_in verbs_of.Del), (plain_number a h, tt))
words_plain (Join a) h = (slot_spaceless verb _ (verb_in verbs_of.Join), (plain_number a h, tt))
words_plain (Leave a) h = (slot_spaceless verb _ (verb_in verbs_of.Leave), (plain_number a h, tt))
words_plain Step h = (slot_spaceless verb _ (verb_in verbs_of.Step), tt)

abbrev state_back : List ℕ → State
state_back w = cond (bytes_eq w (codes "valid")) Valid (cond (bytes_eq w (codes "saturated")) Saturated Missing)

state_is : (s : State) → state_back (state_text s) ≡ s
state_is Valid = refl
state_is Saturated = refl
state_is Missing = refl

abbrev said : List (List ℕ) → Command
said ws =
    cond (bytes_eq (word_at 0 ws) (codes "cal")) (Cal (number_at 1 ws) (record { firmware = number_at 2 ws; factor = number_at 3 ws }))
    (cond (bytes_eq (word_at 0 ws) (codes "read")) (Read (number_at 1 ws) (record { millilitres = number_at 2 ws; state = state_back (word_at 3 ws) }))
    (cond (bytes_eq (word_at 0 ws) (codes "get")) (Get (number_at 1 ws))
    (cond (bytes_eq (word_at 0 ws) (codes "del")) (Del (number_at 1 ws))
    (cond (bytes_eq (word_at 0 ws) (codes "join")) (Join (number_at 1 ws))
    (cond (bytes_eq (word_at 0 ws) (codes "leave")) (Leave (number_at 1 ws)) Step)))))

said_words : (c : Command) → Fits c → said (words c) ≡ c
said_words (Cal a e) h = λ i. Cal (digits_value-decimal own a h.0 i) (record { firmware = digits_value-decimal own e.firmware h.1 i; factor = digits_value-decimal own e.factor h.2 i })
said_words (Read a e) h = λ i. Read (digits_value-decimal own a h.0 i) (record { millilitres = digits_value-decimal own e.millilitres h.1 i; state = state_is e.state i })
said_words (Get a) h = ap (λ x. Get x) (digits_value-decimal own a h)
said_words (Del a) h = ap (λ x. Del x) (digits_value-decimal own a h)
said_words (Join a) h = ap (λ x. Join x) (digits_value-decimal own a h)
said_words (Leave a) h = ap (λ x. Leave x) (digits_value-decimal own a h)
said_words Step h = refl

pub gives_once : (line : List ℕ) (c d : Command) → Gives line c → Gives line d → c ≡ d
gives_once line c d g h =
    let same = words_same line (words c) (words d) (words_plain c g.fits) (words_plain d h.fits)
    (words_line c ∙ ap (λ l. 32 ∷ l) (sym g.text)) (words_line d ∙ ap (λ l. 32 ∷ l) (sym h.text)) in
    sym (said_words c g.fits) ∙ ap said same ∙ said_words d h.fits

-- the same of the first line
abbrev opening_words : Opening → List (List ℕ)
opening_words o = codes "cluster" ∷ decimal o.stores ∷ decimal o.members ∷ decimal o.copies ∷ policy_text o.policy ∷ kind_text o.kind ∷ decimal o.cap ∷ []

opening_plain : (o : Opening) → OpeningFits o → All Spaceless (opening_words o)
opening_plain o h = (
  slot_spaceless keyword _ (keyword_in Cluster),
  (
    plain_number o.stores h.0,
    (
      plain_number o.members h.1,
      (
        plain_number o.copies h.2,
        (slot_spaceless policy _ (policy_in o.policy), (slot_spaceless kind _ (kind_in o.kind), (plain_number o.cap h.3, tt))),
      ),
    ),
  ),
)

abbrev policy_back : List ℕ → Policy
policy_back w = cond (bytes_eq w (codes "jump")) Jump Rendezvous

policy_is : (p : Policy) → policy_back (policy_text p) ≡ p
policy_is Rendezvous = refl
policy_is Jump = refl

abbrev kind_back : List ℕ → Kind
kind_back w = cond (bytes_eq w (codes "table")) Table (cond (bytes_eq w (codes "log")) Log Mixed)

kind_is : (k : Kind) → kind_back (kind_text k) ≡ k
kind_is Table = refl
kind_is Log = refl
kind_is Mixed = refl

abbrev opening_said : List (List ℕ) → Opening
opening_said ws = record { stores = number_at 1 ws; members = number_at 2 ws; copies = number_at 3 ws; policy = policy_back (word_at 4 ws); kind = kind_back (word_at 5 ws); cap = number_at 6 ws }

opening_back : (o : Opening) → OpeningFits o → opening_said (opening_words o) ≡ o
opening_back o h = λ i. record {
  stores = digits_value-decimal own o.stores h.0 i;
  members = digits_value-decimal own o.members h.1 i;
  copies = digits_value-decimal own o.copies h.2 i;
  policy = policy_is o.policy i;
  kind = kind_is o.kind i;
  cap = digits_value-decimal own o.cap h.3 i;
}

pub opens_once : (line : List ℕ) (o p : Opening) → GivesOpening line o → GivesOpening line p → o ≡ p
opens_once line o p g h =
    let same = words_same line (opening_words o) (opening_words p) (opening_plain o g.fits) (opening_plain p h.fits)
    (ap (λ l. 32 ∷ l) (sym g.text)) (ap (λ l. 32 ∷ l) (sym h.text)) in
    sym (opening_back o g.fits) ∙ ap opening_said same ∙ opening_back p h.fits
