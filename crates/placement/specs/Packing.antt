-- Numbers below sixteen in one word, the first lowest.
use Rattle.std.specs.Prelude.{ℕ, zero, suc, ◌/◌, ◌%◌, List, [], ◌∷◌}

-- the first n numbers of a word
abbrev pub unpack : ℕ → ℕ → List ℕ
unpack w zero = []
unpack w (suc n) = w % 16 ∷ unpack (w / 16) n

-- a list without what stands at a place
abbrev pub cut : ℕ → List ℕ → List ℕ
cut i [] = []
cut zero (x ∷ xs) = xs
cut (suc i) (x ∷ xs) = x ∷ cut i xs
