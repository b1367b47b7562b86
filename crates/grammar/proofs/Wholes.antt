-- A line's first word and its whole: where a line stops giving a command, or an opening.
use Rattle.std.proofs.Common.{◌≡◌, ℕ, ◌+◌, ◌^◌, ◌<◌, cond, List, [], ◌∷◌, ◌++◌, length, drop, codes, decimal, sym, refl, ap, ◌∙◌, subst, inl, inr, arith}
use Rattle.std.specs.Str.{bytes_eq}
use Rattle.entry.specs.declared.reading.State.{State}
use Rattle.entry.specs.declared.reading.State.TheVariants.{Valid, Saturated, Missing}
use Rattle.placement.specs.declared.policies.Policy.{Policy}
use Rattle.placement.specs.declared.policies.Policy.TheVariants.{Rendezvous, Jump}
use Rattle.grammar.specs.declared.command.Command.{Command}
use Rattle.grammar.specs.declared.command.Command.TheVariants.{Cal, Read, Get, Del, Join, Leave, Step}
use Rattle.grammar.specs.declared.command.Verb.{Verb}
use Rattle.grammar.specs.declared.command.Verb.TheVariants as verbs_of
use Rattle.grammar.specs.declared.opening.Kind.{Kind}
use Rattle.grammar.specs.declared.opening.Kind.TheVariants.{Table, Log, Mixed}
use Rattle.grammar.specs.declared.opening.Keyword.{Keyword}
use Rattle.grammar.specs.declared.opening.Keyword.TheVariants.{Cluster}
use Rattle.grammar.specs.Languages.{Stops, Rejects}
use Rattle.grammar.specs.Spelling.{state_text, policy_text, kind_text, verb_text, keyword_text}
use Rattle.grammar.specs.Slots.{Slot, number, state, policy, kind, verb, keyword, In, Tail, Opens, Misfit, Strays}
use Rattle.grammar.specs.Lines.{spaced, line_text, Fits, Legal, LegalOpening}
use Rattle.grammar.specs.Reading.{form, opening_form}
use Rattle.grammar.proofs.Seams.{After, after_more, after_fault, stops_same, slot_spaceless, tail_edge, tail_live}

-- every value has a word of its sort, and every word of a sort is some value's
pub state_in : (s : State) → In state (state_text s)
state_in Valid = inl refl
state_in Saturated = inr (inl refl)
state_in Missing = inr (inr (inl refl))

state_of : (w : List ℕ) → In state w → (s : State) × (w ≡ state_text s)
state_of w (inl e) = (Valid, e)
state_of w (inr (inl e)) = (Saturated, e)
state_of w (inr (inr (inl e))) = (Missing, e)
state_of w (inr (inr (inr none))) = absurd none

pub policy_in : (p : Policy) → In policy (policy_text p)
policy_in Rendezvous = inl refl
policy_in Jump = inr (inl refl)

policy_of : (w : List ℕ) → In policy w → (p : Policy) × (w ≡ policy_text p)
policy_of w (inl e) = (Rendezvous, e)
policy_of w (inr (inl e)) = (Jump, e)
policy_of w (inr (inr none)) = absurd none

pub kind_in : (k : Kind) → In kind (kind_text k)
kind_in Table = inl refl
kind_in Log = inr (inl refl)
kind_in Mixed = inr (inr (inl refl))

kind_of : (w : List ℕ) → In kind w → (k : Kind) × (w ≡ kind_text k)
kind_of w (inl e) = (Table, e)
kind_of w (inr (inl e)) = (Log, e)
kind_of w (inr (inr (inl e))) = (Mixed, e)
kind_of w (inr (inr (inr none))) = absurd none

pub verb_in : (v : Verb) → In verb (verb_text v)
verb_in verbs_of.Cal = inl refl
verb_in verbs_of.Read = inr (inl refl)
verb_in verbs_of.Get = inr (inr (inl refl))
verb_in verbs_of.Del = inr (inr (inr (inl refl)))
verb_in verbs_of.Join = inr (inr (inr (inr (inl refl))))
verb_in verbs_of.Leave = inr (inr (inr (inr (inr (inl refl)))))
verb_in verbs_of.Step = inr (inr (inr (inr (inr (inr (inl refl))))))

pub keyword_in : (k : Keyword) → In keyword (keyword_text k)
keyword_in Cluster = inl refl

-- a language of lines: a first word of one sort, and slots behind it that the word decides
abbrev pub Shaped : Slot → (List ℕ → List Slot) → List ℕ → Type 0
Shaped s slots l = After (In s) (λ w. Tail (slots w)) l

module _ (s : Slot) (slots : List ℕ → List Slot) where
  -- the first word stands, and what follows it stops
  shaped_tail : (line : List ℕ) (i : ℕ) (w : List ℕ) (column : ℕ) → Opens line i w → In s w → Misfit (slots w) line i column → Rejects (Shaped s slots) line column
  shaped_tail line i w column o a h = record {
    far = length w + h.far;
    at = omega (arith, h.at, o.long);
    stops = subst (λ l. Stops (Shaped s slots) l (length w + h.far)) (sym o.whole)
        (after_more (In s) (λ v. Tail (slots v)) (slot_spaceless s) (λ v. tail_edge (slots v)) w (drop i line) h.far a o.edge h.stops);
  }

  -- the first word does not
  shaped_word : (line : List ℕ) (i : ℕ) (w : List ℕ) (column : ℕ) → Opens line i w → Strays (In s) w 1 column → Rejects (Shaped s slots) line column
  shaped_word line i w column o h = record {
    far = h.far;
    at = omega (arith, h.at);
    stops = subst (λ l. Stops (Shaped s slots) l h.far) (sym o.whole)
        (after_fault (In s) (λ v. Tail (slots v)) (slot_spaceless s) (λ v. tail_edge (slots v)) (λ v _. tail_live (slots v)) w (drop i line) h.far o.plain o.edge h.stops);
  }

rejects_same : (L M : List ℕ → Type 0) (l : List ℕ) (column : ℕ) → ((x : List ℕ) → L x → M x) → ((x : List ℕ) → M x → L x) → Rejects L l column → Rejects M l column
rejects_same L M l column to from h = record { far = h.far; at = h.at; stops = stops_same L M l h.far to from h.stops }

-- one word more in front of those that follow, and the first word in front of them
more : (l w v t : List ℕ) (ws : List (List ℕ)) → l ≡ 32 ∷ (w ++ t) → w ≡ v → t ≡ spaced ws → l ≡ spaced (v ∷ ws)
more l w v t ws e p q = e ∙ (λ i. 32 ∷ (p i ++ q i))

behind : (l w v t : List ℕ) (ws : List (List ℕ)) → l ≡ w ++ t → w ≡ v → t ≡ spaced ws → l ≡ v ++ spaced ws
behind l w v t ws e p q = e ∙ (λ i. p i ++ q i)

-- the slots behind each verb; it computes at a word that is written out
abbrev pub slots_behind : List ℕ → List Slot
slots_behind w =
    cond (bytes_eq w (codes "cal")) (number ∷ number ∷ number ∷ [])
    (cond (bytes_eq w (codes "read")) (number ∷ number ∷ state ∷ [])
    (cond (bytes_eq w (codes "step")) [] (number ∷ [])))

abbrev CommandLine : List ℕ → Type 0
CommandLine l = Shaped verb slots_behind l

one_number : (l : List ℕ) (v : Verb) (key : ℕ) → key < 2 ^ 64 → slots_behind (verb_text v) ≡ number ∷ [] → l ≡ verb_text v ++ spaced (decimal key ∷ []) → CommandLine l
one_number l v key h s e = (verb_text v, spaced (decimal key ∷ []), e, verb_in v, subst (λ ss. Tail ss (spaced (decimal key ∷ []))) (sym s) (decimal key, [], refl, (key, h, refl), refl))

to_shape : (l : List ℕ) → Legal l → CommandLine l
to_shape l (Cal key entry, g) = (
  codes "cal",
  _,
  g.text,
  verb_in verbs_of.Cal,
  (
    decimal key,
    _,
    refl,
    (key, g.fits.0, refl),
    (
      decimal entry.firmware,
      _,
      refl,
      (entry.firmware, g.fits.1, refl),
      (decimal entry.factor, [], refl, (entry.factor, g.fits.2, refl), refl),
    ),
  ),
)
to_shape l (Read key entry, g) = (
  codes "read",
  _,
  g.text,
  verb_in verbs_of.Read,
  (
    decimal key,
    _,
    refl,
    (key, g.fits.0, refl),
    (
      decimal entry.millilitres,
      _,
      refl,
      (entry.millilitres, g.fits.1, refl),
      (state_text entry.state, [], refl, state_in entry.state, refl),
    ),
  ),
)
to_shape l (Get key, g) = one_number l verbs_of.Get key g.fits refl g.text
to_shape l (Del key, g) = one_number l verbs_of.Del key g.fits refl g.text
to_shape l (Join store, g) = one_number l verbs_of.Join store g.fits refl g.text
to_shape l (Leave store, g) = one_number l verbs_of.Leave store g.fits refl g.text
to_shape l (Step, g) = (codes "step", [], g.text, verb_in verbs_of.Step, refl)

module _ (l w t : List ℕ) (e : l ≡ w ++ t) where
  cal_given : w ≡ codes "cal" → Tail (number ∷ number ∷ number ∷ []) t → Legal l
  cal_given p (w1, t1, e1, (a, h1, n1), (w2, t2, e2, (b, h2, n2), (w3, t3, e3, (d, h3, n3), e4))) = (
    Cal a (record { firmware = b; factor = d }),
    record {
      fits = (h1, h2, h3);
      text = behind l w _ t (decimal a ∷ decimal b ∷ decimal d ∷ []) e p
          (more t w1 _ t1 (decimal b ∷ decimal d ∷ []) e1 n1 (more t1 w2 _ t2 (decimal d ∷ []) e2 n2 (more t2 w3 _ t3 [] e3 n3 e4)));
    },
  )

  read_given : w ≡ codes "read" → Tail (number ∷ number ∷ state ∷ []) t → Legal l
  read_given p (w1, t1, e1, (a, h1, n1), (w2, t2, e2, (b, h2, n2), (w3, t3, e3, o, e4))) =
      let (s, n3) = state_of w3 o in (
        Read a (record { millilitres = b; state = s }),
        record {
          fits = (h1, h2);
          text = behind l w _ t (decimal a ∷ decimal b ∷ state_text s ∷ []) e p
              (more t w1 _ t1 (decimal b ∷ state_text s ∷ []) e1 n1 (more t1 w2 _ t2 (state_text s ∷ []) e2 n2 (more t2 w3 _ t3 [] e3 n3 e4)));
        },
      )

  one_given : (v : List ℕ) (make : ℕ → Command) → ((n : ℕ) → n < 2 ^ 64 → Fits (make n)) → ((n : ℕ) → line_text (make n) ≡ v ++ spaced (decimal n ∷ [])) → w ≡ v → Tail (number ∷ []) t → Legal l
  one_given v make fits text p (w1, t1, e1, (a, h, n), e2) =
      (make a, record { fits = fits a h; text = behind l w v t (decimal a ∷ []) e p (more t w1 _ t1 [] e1 n e2) ∙ sym (text a) })

  given : In verb w → Tail (slots_behind w) t → Legal l
  given (inl p) h = cal_given p (subst (λ x. Tail (slots_behind x) t) p h)
  given (inr (inl p)) h = read_given p (subst (λ x. Tail (slots_behind x) t) p h)
  given (inr (inr (inl p))) h = one_given (codes "get") (λ n. Get n) (λ n h. h) (λ n. refl) p (subst (λ x. Tail (slots_behind x) t) p h)
  given (inr (inr (inr (inl p)))) h = one_given (codes "del") (λ n. Del n) (λ n h. h) (λ n. refl) p (subst (λ x. Tail (slots_behind x) t) p h)
  given (inr (inr (inr (inr (inl p))))) h = one_given (codes "join") (λ n. Join n) (λ n h. h) (λ n. refl) p (subst (λ x. Tail (slots_behind x) t) p h)
  given (inr (inr (inr (inr (inr (inl p)))))) h = one_given (codes "leave") (λ n. Leave n) (λ n h. h) (λ n. refl) p (subst (λ x. Tail (slots_behind x) t) p h)
  given (inr (inr (inr (inr (inr (inr (inl p))))))) h = (Step, record { fits = tt; text = behind l w _ t [] e p (subst (λ x. Tail (slots_behind x) t) p h) })
  given (inr (inr (inr (inr (inr (inr (inr none))))))) h = absurd none

from_shape : (l : List ℕ) → CommandLine l → Legal l
from_shape l (w, t, e, a, h) = given l w t e a h

form_is : (v : Verb) → slots_behind (verb_text v) ≡ form v
form_is verbs_of.Cal = refl
form_is verbs_of.Read = refl
form_is verbs_of.Get = refl
form_is verbs_of.Del = refl
form_is verbs_of.Join = refl
form_is verbs_of.Leave = refl
form_is verbs_of.Step = refl

-- a line whose verb stands, and one whose verb does not
pub command_tail : (line : List ℕ) (i : ℕ) (w : List ℕ) (v : Verb) (column : ℕ) → Opens line i w → w ≡ verb_text v → Misfit (form v) line i column → Rejects Legal line column
command_tail line i w v column o e h =
    rejects_same CommandLine Legal line column from_shape to_shape
    (shaped_tail verb slots_behind line i w column o (subst (In verb) (sym e) (verb_in v))
    (subst (λ ss. Misfit ss line i column) (sym (ap slots_behind e ∙ form_is v)) h))

pub command_word : (line : List ℕ) (i : ℕ) (w : List ℕ) (column : ℕ) → Opens line i w → Strays (In verb) w 1 column → Rejects Legal line column
command_word line i w column o h = rejects_same CommandLine Legal line column from_shape to_shape (shaped_word verb slots_behind line i w column o h)

abbrev OpeningLine : List ℕ → Type 0
OpeningLine l = Shaped keyword (λ _. opening_form) l

to_opening : (l : List ℕ) → LegalOpening l → OpeningLine l
to_opening l (o, g) = (
  codes "cluster",
  _,
  g.text,
  inl refl,
  (
    decimal o.stores,
    _,
    refl,
    (o.stores, g.fits.0, refl),
    (
      decimal o.members,
      _,
      refl,
      (o.members, g.fits.1, refl),
      (
        decimal o.copies,
        _,
        refl,
        (o.copies, g.fits.2, refl),
        (
          policy_text o.policy,
          _,
          refl,
          policy_in o.policy,
          (
            kind_text o.kind,
            _,
            refl,
            kind_in o.kind,
            (decimal o.cap, [], refl, (o.cap, g.fits.3, refl), refl),
          ),
        ),
      ),
    ),
  ),
)

from_opening : (l : List ℕ) → OpeningLine l → LegalOpening l
from_opening l (w, t, e, inl p, (w1, t1, e1, (a, h1, n1), (w2, t2, e2, (b, h2, n2), (w3, t3, e3, (d, h3, n3), (w4, t4, e4, o4, (w5, t5, e5, o5, (w6, t6, e6, (f, h6, n6), e7))))))) =
    let (s, n4) = policy_of w4 o4 in
    let (k, n5) = kind_of w5 o5 in (
      record { stores = a; members = b; copies = d; policy = s; kind = k; cap = f },
      record {
        fits = (h1, h2, h3, h6);
        text = behind l w (codes "cluster") t (decimal a ∷ decimal b ∷ decimal d ∷ policy_text s ∷ kind_text k ∷ decimal f ∷ []) e p
            (more t w1 _ t1 (decimal b ∷ decimal d ∷ policy_text s ∷ kind_text k ∷ decimal f ∷ []) e1 n1
            (more t1 w2 _ t2 (decimal d ∷ policy_text s ∷ kind_text k ∷ decimal f ∷ []) e2 n2
            (more t2 w3 _ t3 (policy_text s ∷ kind_text k ∷ decimal f ∷ []) e3 n3
            (more t3 w4 _ t4 (kind_text k ∷ decimal f ∷ []) e4 n4
            (more t4 w5 _ t5 (decimal f ∷ []) e5 n5
            (more t5 w6 _ t6 [] e6 n6 e7))))));
      },
    )
from_opening l (w, t, e, inr none, h) = absurd none

pub opening_tail : (line : List ℕ) (i : ℕ) (w : List ℕ) (column : ℕ) → Opens line i w → w ≡ codes "cluster" → Misfit opening_form line i column → Rejects LegalOpening line column
opening_tail line i w column o e h =
    rejects_same OpeningLine LegalOpening line column from_opening to_opening
    (shaped_tail keyword (λ _. opening_form) line i w column o (inl e) h)

pub opening_word : (line : List ℕ) (i : ℕ) (w : List ℕ) (column : ℕ) → Opens line i w → Strays (In keyword) w 1 column → Rejects LegalOpening line column
opening_word line i w column o h =
    rejects_same OpeningLine LegalOpening line column from_opening to_opening (shaped_word keyword (λ _. opening_form) line i w column o h)
