-- What a store means: a finite map from keys to values, and a cap.
use Rattle.std.specs.Prelude.{◌≡◌, ℕ, ◌^◌, ◌<◌, ◌≤◌, List, [], length, Some}
use Rattle.pairs.specs.Pairs.{Pair, find, Ascending}
use Rattle.store.specs.declared.value.Value.{Value}

-- the pairs, and how many of them the store takes in
pub record Meaning : Type 0 where
  pub pairs : List (Pair Value)
  pub cap : ℕ

-- the store that a number past the last names: nothing in it, and room for nothing
abbrev pub nothing : Meaning
nothing = record { pairs = []; cap = 0 }

-- the most pairs that any store holds, and the greatest cap
abbrev pub most : ℕ
most = 4096

-- a key and its value fit 64 bits each
pub record FitsWords (k : ℕ) (v : Value) : Type 0 where
  pub key_fits : k < 2 ^ 64
  pub a_fits : v.a < 2 ^ 64
  pub b_fits : v.b < 2 ^ 64

-- what holds of every standing store's pairs and cap
pub record Lawful (ps : List (Pair Value)) (c : ℕ) : Type 0 where
  pub ordered : Ascending ps
  pub words : (k : ℕ) (v : Value) → find ps k ≡ Some v → FitsWords k v
  pub few : length ps ≤ most
  pub cap_few : c ≤ most
