-- A row of stores, numbered from 0: the list of their meanings.
use Rattle.std.specs.Prelude.{ℕ, ◌^◌, ◌<◌, List, length, slice_index_or, slice_set}
use Rattle.store.specs.declared.value.Value.{Value}
use Rattle.store.specs.Meaning.{Meaning, nothing, Lawful}
use Rattle.store.specs.Outcomes.{put_meaning, erase_meaning}

-- the store of a number; past the last, an empty store of cap 0
abbrev pub nth : List Meaning → ℕ → Meaning
nth st s = slice_index_or st s nothing

-- the store of a number changed, and no other; past the last, nothing changes
abbrev pub change_at : List Meaning → ℕ → (Meaning → Meaning) → List Meaning
change_at st s f = slice_set st s (f (nth st s))

-- the row after a put into one store, and after a removal from it
abbrev pub put_at : List Meaning → ℕ → ℕ → Value → List Meaning
put_at st s k v = change_at st s (λ m. put_meaning m k v)

abbrev pub erase_at : List Meaning → ℕ → ℕ → List Meaning
erase_at st s k = change_at st s (λ m. erase_meaning m k)

-- what holds of every row of standing stores: each is lawful, and their numbers fit 64 bits
pub record LawfulRow (st : List Meaning) : Type 0 where
  pub each : (s : ℕ) → Lawful (nth st s).pairs (nth st s).cap
  pub numbered : length st < 2 ^ 64
