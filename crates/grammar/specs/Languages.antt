-- Languages: which texts are legal, which begin a legal one, and where a text stops doing so.
use Rattle.std.specs.Prelude.{◌≡◌, ℕ, ◌+◌, ◌<◌, ◌≤◌, ◌⊎◌, List, [], ◌∷◌, ◌++◌, length, take}

-- p begins a text of L
abbrev pub Begins : (List ℕ → Type 0) → List ℕ → Type 0
Begins L p = (rest : List ℕ) × L (p ++ rest)

-- l is no text of L: its first k bytes begin one, and no more do
pub record Stops (L : List ℕ → Type 0) (l : List ℕ) (k : ℕ) : Type 0 where
  pub within : k ≤ length l
  pub begins : Begins L (take k l)
  pub leaves : k < length l → Begins L (take (k + 1) l) → ⊥
  pub none : L l → ⊥

-- l is no text of L, and the column, counted from 1, is that of the first byte with which it stops beginning one, or one
-- past its end where the whole of it begins one
pub record Rejects (L : List ℕ → Type 0) (l : List ℕ) (column : ℕ) : Type 0 where
  pub far : ℕ
  pub at : column ≡ far + 1
  pub stops : Stops L l far

-- w is one of the words
abbrev pub OneOf : List (List ℕ) → List ℕ → Type 0
OneOf [] w = ⊥
OneOf (a ∷ more) w = (w ≡ a) ⊎ OneOf more w
