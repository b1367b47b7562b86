-- What a reader should know of the calls: they keep the laws of a store, and in a row of stores a call
-- with number s changes store s alone.
use Rattle.std.specs.Prelude.{◌≡◌, ℕ, ◌<◌, ◌≤◌, List, length, ◌≢◌}
use Rattle.pairs.specs.Pairs.{Pair, erase}
use Rattle.store.specs.declared.value.Value.{Value}
use Rattle.store.specs.Meaning.{Meaning, FitsWords, Lawful}
use Rattle.store.specs.Outcomes.{put_pairs}
use Rattle.store.specs.Stores.{nth, change_at}

pub record CallLaws : Type 0 where
  pub after_put : (ps : List (Pair Value)) (c k : ℕ) (v : Value) → Lawful ps c → FitsWords k v → Lawful (put_pairs ps c k v) c
  pub after_remove : (ps : List (Pair Value)) (c k : ℕ) → Lawful ps c → Lawful (erase ps k) c

pub record RowLaws : Type 0 where
  pub changed : (st : List Meaning) (s : ℕ) (f : Meaning → Meaning) → s < length st → nth (change_at st s f) s ≡ f (nth st s)
  pub others_stay : (st : List Meaning) (s : ℕ) (f : Meaning → Meaning) (q : ℕ) → (q ≢ s) → nth (change_at st s f) q ≡ nth st q
  pub as_many : (st : List Meaning) (s : ℕ) (f : Meaning → Meaning) → length (change_at st s f) ≡ length st
  pub past_the_last : (st : List Meaning) (s : ℕ) (f : Meaning → Meaning) → length st ≤ s → change_at st s f ≡ st
