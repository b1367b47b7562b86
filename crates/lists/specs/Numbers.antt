-- Lists of numbers, as store numbers are listed.
use Rattle.std.specs.Prelude.{◌≡◌, ℕ, zero, suc, ◌+◌, Bool, true, false, cond, List, [], ◌∷◌, Some, None, Option, ◌==◌}
use Rattle.std.specs.Option.{option_map}

-- whether a number stands in a list
abbrev pub member : ℕ → List ℕ → Bool
member s [] = false
member s (x ∷ xs) = cond (x == s) true (member s xs)

-- the place, from 0, at which a number first stands
abbrev pub place_of : ℕ → List ℕ → Option ℕ
place_of s [] = None
place_of s (x ∷ xs) = cond (x == s) (Some 0) (option_map (λ i. i + 1) (place_of s xs))

-- what stands at a place, counted from 0
abbrev pub nth : List ℕ → ℕ → Option ℕ
nth [] i = None
nth (x ∷ xs) zero = Some x
nth (x ∷ xs) (suc i) = nth xs i

-- no number stands twice
abbrev pub Distinct : List ℕ → Type 0
Distinct [] = Unit {0}
Distinct (x ∷ xs) = (member x xs ≡ false) × Distinct xs

-- the same as a test
abbrev pub all_distinct : List ℕ → Bool
all_distinct [] = true
all_distinct (x ∷ xs) = cond (member x xs) false (all_distinct xs)

-- the list with the first place of a number taken out, the others in their order
abbrev pub without : ℕ → List ℕ → List ℕ
without s [] = []
without s (x ∷ xs) = cond (x == s) xs (x ∷ without s xs)

-- n numbers from i up
abbrev pub count_up : ℕ → ℕ → List ℕ
count_up i zero = []
count_up i (suc n) = i ∷ count_up (i + 1) n
