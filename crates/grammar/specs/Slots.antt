-- What may stand as a word of a line, and how a reader goes from word to word.
use Rattle.std.specs.Prelude.{◌≡◌, ℕ, ◌+◌, ◌^◌, ◌<◌, max, List, [], ◌∷◌, ◌++◌, length, drop, decimal, ◌==◌, ◌≢◌}
use Rattle.std.specs.List.{before_first, common_prefix_len}
use Rattle.grammar.specs.Languages.{Stops, OneOf}
use Rattle.grammar.specs.Spelling.{states, policies, kinds, verbs, keywords}

-- a sort of word
pub data Slot : Type 0 where
  number : Slot
  state : Slot
  policy : Slot
  kind : Slot
  verb : Slot
  keyword : Slot

-- the words of a sort
abbrev pub In : Slot → List ℕ → Type 0
In number w = (n : ℕ) × (n < 2 ^ 64) × (w ≡ decimal n)
In state w = OneOf states w
In policy w = OneOf policies w
In kind w = OneOf kinds w
In verb w = OneOf verbs w
In keyword w = OneOf keywords w

-- how many bytes two texts have in common at their front
abbrev pub common : List ℕ → List ℕ → ℕ
common = common_prefix_len ◌==◌

-- how many w has in common with some word of the list, at most
abbrev pub furthest : List (List ℕ) → List ℕ → ℕ
furthest [] w = 0
furthest (a ∷ more) w = max (common w a) (furthest more w)

-- where a word may end: at the end of the line, or before a space
abbrev pub Edge : List ℕ → Type 0
Edge [] = Unit {0}
Edge (c ∷ l) = c ≡ 32

abbrev pub Spaceless : List ℕ → Type 0
Spaceless [] = Unit {0}
Spaceless (c ∷ l) = (c ≢ 32) × Spaceless l

-- the bytes of l up to a space
abbrev pub up_to : List ℕ → List ℕ
up_to = before_first (λ c. c == 32)

-- what may follow a line's first word: each of the slots, after one space
abbrev pub Tail : List Slot → List ℕ → Type 0
Tail [] l = l ≡ []
Tail (s ∷ ss) l = (w : List ℕ) × (t : List ℕ) × (l ≡ 32 ∷ (w ++ t)) × In s w × Tail ss t

-- the first word of a line is w, and ends at place i
pub record Opens (line : List ℕ) (i : ℕ) (w : List ℕ) : Type 0 where
  pub whole : line ≡ w ++ drop i line
  pub long : i ≡ length w
  pub edge : Edge (drop i line)
  pub plain : Spaceless w

-- at place i the line has a space and the word w, which ends at place j
pub record Reads (line : List ℕ) (i j : ℕ) (w : List ℕ) : Type 0 where
  pub word : drop i line ≡ 32 ∷ (w ++ drop j line)
  pub edge : Edge (drop j line)
  pub moved : j ≡ i + 1 + length w

-- what follows place i stops being what the slots ask for at the column
pub record Misfit (ss : List Slot) (line : List ℕ) (i column : ℕ) : Type 0 where
  pub far : ℕ
  pub at : column ≡ i + 1 + far
  pub stops : Stops (Tail ss) (drop i line) far

-- the word w, which begins at the column `from`, stops being one of L at `column`
pub record Strays (L : List ℕ → Type 0) (w : List ℕ) (from column : ℕ) : Type 0 where
  pub far : ℕ
  pub at : column ≡ from + far
  pub stops : Stops L w far
