-- Placement rules, and what makes one lawful.
use Rattle.std.specs.Prelude.{◌≡◌, ℕ, ◌<◌, ◌≤◌, min, max, Bool, true, false, List, [], ◌∷◌, ◌++◌, length, ◌≢◌}
use Rattle.lists.specs.Numbers.{member, Distinct, without}

-- a rule: the greatest number of copies, the stores of a key under a roster for a number of copies, in order, and
-- which members of a roster may leave it
pub record Rule : Type 0 where
  pub greatest : ℕ
  pub list : ℕ → List ℕ → ℕ → List ℕ
  pub may_leave : List ℕ → ℕ → Bool

-- a list of distinct store numbers below n, at least one
pub record Rostered (n : ℕ) (R : List ℕ) : Type 0 where
  pub distinct : Distinct R
  pub below : (s : ℕ) → member s R ≡ true → s < n
  pub some : 1 ≤ length R

-- a number of copies outside 1 to the greatest is taken as the nearer end
abbrev pub nearest : ℕ → ℕ → ℕ
nearest greatest r = max 1 (min r greatest)

-- what every placement owes, for every key, roster over at most sixteen stores, and number of copies
pub record Lawful (p : Rule) : Type 0 where
  pub greatest_fits : (1 ≤ p.greatest) × (p.greatest ≤ 4)
  pub nearer_end : (k : ℕ) (R : List ℕ) (r : ℕ) → p.list k R r ≡ p.list k R (nearest p.greatest r)
  -- the list holds as many distinct members as there are copies, or all of them
  pub size : (k : ℕ) (R : List ℕ) (r : ℕ) → Rostered 16 R → length (p.list k R r) ≡ min (nearest p.greatest r) (length R)
  pub apart : (k : ℕ) (R : List ℕ) (r : ℕ) → Rostered 16 R → Distinct (p.list k R r)
  pub within : (k : ℕ) (R : List ℕ) (r : ℕ) → Rostered 16 R → (s : ℕ) → member s (p.list k R r) ≡ true → member s R ≡ true
  -- the last member may always leave
  pub last_may_leave : (R : List ℕ) (s : ℕ) → Rostered 16 (R ++ s ∷ []) → p.may_leave (R ++ s ∷ []) s ≡ true
  -- when a member leaves, the other stores of a key stay its stores
  pub others_stay : (k : ℕ) (R : List ℕ) (r : ℕ) → Rostered 16 R → (m : ℕ) → member m R ≡ true → p.may_leave R m ≡ true → 2 ≤ length R →
      (s : ℕ) → (s ≢ m) → member s (p.list k R r) ≡ true → member s (p.list k (without m R) r) ≡ true
  -- and where the member was none of them, the list stays as it was
  pub untouched : (k : ℕ) (R : List ℕ) (r : ℕ) → Rostered 16 R → (m : ℕ) → member m R ≡ true → p.may_leave R m ≡ true → 2 ≤ length R →
      member m (p.list k R r) ≡ false → p.list k (without m R) r ≡ p.list k R r

-- at most one number stands in the first list and not in the second
abbrev pub OneMoreAtMost : List ℕ → List ℕ → Type 0
OneMoreAtMost a b = (x y : ℕ) → member x a ≡ true → member x b ≡ false → member y a ≡ true → member y b ≡ false → x ≡ y

-- between two lists at most one store is gained and at most one is lost
pub record OneMoves (old new : List ℕ) : Type 0 where
  pub gained : OneMoreAtMost new old
  pub lost : OneMoreAtMost old new

-- for every lawful rule, a leave and a join each move at most one store of a key
pub record MovesOne (p : Rule) : Type 0 where
  pub leave : (k r m : ℕ) (R : List ℕ) → Rostered 16 R → member m R ≡ true → p.may_leave R m ≡ true → 2 ≤ length R →
      OneMoves (p.list k R r) (p.list k (without m R) r)
  pub join : (k r s : ℕ) (R : List ℕ) → Rostered 16 R → member s R ≡ false → s < 16 →
      OneMoves (p.list k R r) (p.list k (R ++ s ∷ []) r)

abbrev pub LawfulMovesOne : Type 0
LawfulMovesOne = (p : Rule) → Lawful p → MovesOne p
