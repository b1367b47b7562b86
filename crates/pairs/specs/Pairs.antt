-- A finite map from keys to a payload of any type: a list of pairs in strictly ascending key order.
use Rattle.std.specs.Prelude.{ℕ, ◌<◌, min, Bool, cond, List, [], ◌∷◌, is_some, Some, None, Option, ◌==◌, nat_le, nat_lt}

-- a key and what it maps to
pub record Pair (V : Type 0) : Type 0 where
  pub key : ℕ
  pub value : V

-- all keys are above b, and ascend
abbrev pub Above : {V : Type 0} → ℕ → List (Pair V) → Type 0
Above b [] = Unit {0}
Above b (p ∷ ps) = (b < p.key) × Above p.key ps

-- the keys ascend; so no key stands twice
abbrev pub Ascending : {V : Type 0} → List (Pair V) → Type 0
Ascending [] = Unit {0}
Ascending (p ∷ ps) = Above p.key ps

-- what k maps to, or none
abbrev pub find : {V : Type 0} → List (Pair V) → ℕ → Option V
find [] k = None
find (p ∷ ps) k = cond (p.key == k) (Some p.value) (find ps k)

-- whether k maps to anything
abbrev pub has : {V : Type 0} → List (Pair V) → ℕ → Bool
has ps k = is_some (find ps k)

-- k maps to v, all else unchanged
abbrev pub insert : {V : Type 0} → List (Pair V) → ℕ → V → List (Pair V)
insert [] k v = record { key = k; value = v } ∷ []
insert (p ∷ ps) k v =
    cond (nat_lt k p.key) (record { key = k; value = v } ∷ (p ∷ ps))
    (cond (p.key == k) (record { key = k; value = v } ∷ ps) (p ∷ insert ps k v))

-- k maps to nothing, all else unchanged
abbrev pub erase : {V : Type 0} → List (Pair V) → ℕ → List (Pair V)
erase [] k = []
erase (p ∷ ps) k = cond (p.key == k) ps (p ∷ erase ps k)

-- the smallest key that is not below k, or none
abbrev pub next_key : {V : Type 0} → List (Pair V) → ℕ → Option ℕ
next_key [] k = None
next_key (p ∷ ps) k = cond (nat_le k p.key) (Some p.key) (next_key ps k)

-- the pairs whose key passes a test
abbrev pub keep : {V : Type 0} → (ℕ → Bool) → List (Pair V) → List (Pair V)
keep f [] = []
keep f (p ∷ ps) = cond (f p.key) (p ∷ keep f ps) (keep f ps)

-- the smaller of two keys, either of which may be missing
abbrev pub nearer : Option ℕ → Option ℕ → Option ℕ
nearer None b = b
nearer (Some x) None = Some x
nearer (Some x) (Some y) = Some (min x y)
