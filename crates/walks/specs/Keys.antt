-- The next keys of some stores, and the smallest of some keys.
use Rattle.std.specs.Prelude.{ℕ, List, [], ◌∷◌, ◌++◌, Some, None, Option}
use Rattle.pairs.specs.Pairs.{next_key, nearer}
use Rattle.store.specs.Meaning.{Meaning}
use Rattle.store.specs.Stores.{nth}

abbrev pub listed : Option ℕ → List ℕ
listed None = []
listed (Some k) = k ∷ []

-- of each store the least key not below c, where it has one
abbrev pub next_keys : List ℕ → List Meaning → ℕ → List ℕ
next_keys [] st c = []
next_keys (s ∷ ss) st c = listed (next_key (nth st s).pairs c) ++ next_keys ss st c

abbrev pub smallest_of : List ℕ → Option ℕ
smallest_of [] = None
smallest_of (k ∷ ks) = nearer (Some k) (smallest_of ks)
