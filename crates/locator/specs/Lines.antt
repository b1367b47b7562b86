-- The line of a key: the key, its stores, and its stores once the last member has left.
use Rattle.std.specs.Prelude.{◌≡◌, ℕ, ◌-◌, List, [], ◌∷◌, ◌++◌, Some, None, vec_items, codes, decimal, Option}
use Rattle.std.specs.List.{flat_map}
use Rattle.lists.specs.Numbers.{without, count_up}
use Rattle.placement.specs.Laws.{Rule}
use Rattle.placement.specs.Policies.{rule_of}
use Rattle.placement.specs.Rosters.{members}
use Rattle.placement.specs.declared.roster.Roster.{Roster}
use Rattle.locator.specs.declared.words.Question.{Question}
use Rattle.locator.specs.Questions.{Text, Asks}

-- further stores, each behind a comma
abbrev pub more_stores : List ℕ → Text
more_stores = flat_map (λ s. codes "," ++ decimal s)

-- stores joined by commas, `-` for none
abbrev pub joined : List ℕ → Text
joined [] = codes "-"
joined (s ∷ l) = decimal s ++ more_stores l

-- the stores of a key under a list of members; under no members there are none
abbrev pub stores_of : Rule → ℕ → ℕ → List ℕ → List ℕ
stores_of p copies k [] = []
stores_of p copies k (s ∷ R) = p.list k (s ∷ R) copies

-- the line of a key: under the members R, and under those that remain, S
abbrev pub line : Rule → ℕ → List ℕ → List ℕ → ℕ → Text
line p copies R S k = decimal k ++ (codes " " ++ (joined (stores_of p copies k R) ++ (codes " " ++ (joined (stores_of p copies k S) ++ codes "\n"))))

abbrev pub lines : Rule → ℕ → List ℕ → List ℕ → List ℕ → Text
lines p copies R S = flat_map (line p copies R S)

-- the answer: stores 0 and up are the members, and the last of them leaves
abbrev pub answer_text : Question → Text
answer_text q =
    lines (rule_of q.policy) q.copies (count_up 0 q.members) (without (q.members - 1) (count_up 0 q.members)) (vec_items q.keys)

-- the words are a question, and the text is its answer
abbrev pub Answered : List Text → Text → Type 0
Answered ws t = (q : Question) × Asks ws q × (t ≡ answer_text q)

-- the members of a roster, where there is one
abbrev pub members_of : Option Roster → List ℕ
members_of None = []
members_of (Some r) = members r
