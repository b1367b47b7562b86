-- What a reader should know of maps: each operation by what it does to look-up, order and size.
use Rattle.std.specs.Prelude.{◌≡◌, ℕ, ◌+◌, ◌<◌, ◌≤◌, Bool, true, cond, ◌&&◌, List, length, Some, None, ◌==◌}
use Rattle.pairs.specs.Pairs.{Pair, Ascending, find, has, insert, erase, next_key, keep}

-- look-up after each operation
pub record LookUps (V : Type 0) : Type 0 where
  pub after_insert : (m : List (Pair V)) (k : ℕ) (v : V) (q : ℕ) → find (insert m k v) q ≡ cond (k == q) (Some v) (find m q)
  pub after_erase : (m : List (Pair V)) (k q : ℕ) → Ascending m → find (erase m k) q ≡ cond (k == q) None (find m q)
  pub after_keep : (f : ℕ → Bool) (m : List (Pair V)) (q : ℕ) → find (keep f m) q ≡ cond (f q) (find m q) None
  pub all_there_is : (a b : List (Pair V)) → Ascending a → Ascending b → ((q : ℕ) → find a q ≡ find b q) → a ≡ b

-- each operation keeps the order
pub record Orders (V : Type 0) : Type 0 where
  pub after_insert : (m : List (Pair V)) (k : ℕ) (v : V) → Ascending m → Ascending (insert m k v)
  pub after_erase : (m : List (Pair V)) (k : ℕ) → Ascending m → Ascending (erase m k)
  pub after_keep : (f : ℕ → Bool) (m : List (Pair V)) → Ascending m → Ascending (keep f m)

-- how many pairs there are after each operation
pub record Sizes (V : Type 0) : Type 0 where
  pub after_insert : (m : List (Pair V)) (k : ℕ) (v : V) → Ascending m → length (insert m k v) ≡ length m + cond (has m k) 0 1
  pub after_erase : (m : List (Pair V)) (k : ℕ) → length (erase m k) + cond (has m k) 1 0 ≡ length m
  pub after_keep : (f : ℕ → Bool) (m : List (Pair V)) → length (keep f m) ≤ length m

-- a filter goes through the other operations
pub record Filters (V : Type 0) : Type 0 where
  pub of_insert : (f : ℕ → Bool) (m : List (Pair V)) (k : ℕ) (v : V) → Ascending m → keep f (insert m k v) ≡ cond (f k) (insert (keep f m) k v) (keep f m)
  pub of_erase : (f : ℕ → Bool) (m : List (Pair V)) (k : ℕ) → Ascending m → keep f (erase m k) ≡ erase (keep f m) k
  pub of_keep : (f g : ℕ → Bool) (m : List (Pair V)) → keep f (keep g m) ≡ keep (λ k. f k && g k) m

-- `next_key m c` is the least key of m that is not below c, and none where there is no such key
pub record Nexts (V : Type 0) : Type 0 where
  pub present : (m : List (Pair V)) (c k : ℕ) → next_key m c ≡ Some k → has m k ≡ true
  pub not_below : (m : List (Pair V)) (c k : ℕ) → next_key m c ≡ Some k → c ≤ k
  pub least : (m : List (Pair V)) (c k q : ℕ) → Ascending m → next_key m c ≡ Some k → c ≤ q → q < k → find m q ≡ None
  pub none : (m : List (Pair V)) (c q : ℕ) → next_key m c ≡ None → c ≤ q → find m q ≡ None
