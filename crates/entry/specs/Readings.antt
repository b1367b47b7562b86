-- Readings as words.
use Rattle.std.specs.Prelude.{ℕ, ◌+◌, ◌*◌, Bool, true, cond, Some, None, Option, ◌==◌}
use Rattle.store.specs.declared.value.Value.{Value}
use Rattle.entry.specs.declared.reading.Reading.{Reading}
use Rattle.entry.specs.declared.reading.State.{State}
use Rattle.entry.specs.declared.reading.State.TheVariants.{Valid, Saturated, Missing}
use Rattle.entry.specs.Kinds.{Kind}

abbrev pub state_number : State → ℕ
state_number Valid = 0
state_number Saturated = 1
state_number Missing = 2

abbrev pub state_word : State → ℕ
state_word s = 2 + 256 * state_number s

-- the state of a second word
abbrev pub state_of : ℕ → Option State
state_of w = cond (w == 2) (Some Valid) (cond (w == 258) (Some Saturated) (cond (w == 514) (Some Missing) None))

-- a missing reading has no millilitres
abbrev pub sound_in : State → ℕ → Bool
sound_in Valid m = true
sound_in Saturated m = true
sound_in Missing m = m == 0

abbrev pub reading_words : Reading → Value
reading_words r = record { a = r.millilitres; b = state_word r.state }

abbrev pub reading_in : ℕ → Option State → Option Reading
reading_in m None = None
reading_in m (Some s) = cond (sound_in s m) (Some (record { millilitres = m; state = s })) None

abbrev pub reading_kind : Kind Reading
reading_kind = record {
  legal = λ r. sound_in r.state r.millilitres;
  words = reading_words;
  meant = λ v. reading_in v.a (state_of v.b);
}
