-- When words are a question, and which word is wrong where they are none.
use Rattle.std.specs.Prelude.{◌≡◌, ℕ, zero, suc, ◌^◌, ◌<◌, ◌≤◌, List, [], ◌∷◌, map, length, vec_items, string_bytes, codes, decimal, String, ◌≢◌, slice_index_or}
use Rattle.std.specs.declared.alloc.Global.{Global}
use Rattle.placement.specs.declared.policies.Policy.{Policy}
use Rattle.placement.specs.declared.policies.Policy.TheVariants.{Rendezvous, Jump}
use Rattle.locator.specs.declared.words.Question.{Question}
use Rattle.locator.specs.declared.words.Reason.{Reason}
use Rattle.locator.specs.declared.words.Reason.TheVariants.{Missing, NotAPolicy, NotANumber, NotOneToSixteen}
use Rattle.locator.specs.declared.words.WordFault.{WordFault}
use Rattle.locator.specs.declared.words.LocateFault.{LocateFault}
use Rattle.locator.specs.declared.words.LocateFault.TheVariants.{Word, Memory}

-- a word by its bytes
abbrev pub Text : Type 0
Text = List ℕ

abbrev pub policy_word : Policy → Text
policy_word Rendezvous = codes "rendezvous"
policy_word Jump = codes "jump"

-- the word is what is written of the number, without leading zeros
abbrev pub Writes : Text → ℕ → Type 0
Writes w n = (n < 2 ^ 64) × (w ≡ decimal n)

-- the words are those of the question
pub record Asks (ws : List Text) (q : Question) : Type 0 where
  pub words : ws ≡ policy_word q.policy ∷ decimal q.members ∷ decimal q.copies ∷ map decimal (vec_items q.keys)
  pub members_fit : (1 ≤ q.members) × (q.members ≤ 16)
  pub some_key : 1 ≤ length (vec_items q.keys)

-- a word that a question may have at a place, counted from 0
abbrev pub Right : ℕ → Text → Type 0
Right zero w = (p : Policy) × (w ≡ policy_word p)
Right (suc zero) w = (n : ℕ) × Writes w n × (1 ≤ n) × (n ≤ 16)
Right (suc (suc i)) w = (n : ℕ) × Writes w n

-- what a reason says of the word at a place
abbrev pub Says : Reason → List Text → ℕ → Type 0
Says Missing ws i = (length ws ≡ i) × (i < 4)
Says NotAPolicy ws i = (i ≡ 0) × (0 < length ws) × ((p : Policy) → slice_index_or ws 0 [] ≢ policy_word p)
Says NotANumber ws i = (1 ≤ i) × (i < length ws) × ((n : ℕ) → Writes (slice_index_or ws i []) n → ⊥)
Says NotOneToSixteen ws i = (i ≡ 1) × (1 < length ws) × ((n : ℕ) × Writes (slice_index_or ws 1 []) n × (1 ≤ n → 16 < n))

-- the words before it are right, and the word at the fault's place is wrong for the fault's reason
pub record Wrong (ws : List Text) (f : WordFault) : Type 0 where
  pub before : (j : ℕ) → j < f.place → Right j (slice_index_or ws j [])
  pub here : Says f.reason ws f.place

-- what a refusal says of the words; want of memory says nothing of them
abbrev pub Refuses : List Text → LocateFault → Type 0
Refuses ws (Word f) = Wrong ws f
Refuses ws Memory = Unit {0}

-- the words of an argument list, by their bytes
abbrev pub texts : List (String Global) → List Text
texts = map string_bytes

-- why there is no number at a place
abbrev pub BadNumber : List Text → ℕ → Reason → Type 0
BadNumber ws i Missing = length ws ≤ i
BadNumber ws i NotANumber = (i < length ws) × ((n : ℕ) → Writes (slice_index_or ws i []) n → ⊥)
BadNumber ws i NotAPolicy = ⊥
BadNumber ws i NotOneToSixteen = ⊥

-- why there is no number of members
abbrev pub BadMembers : List Text → Reason → Type 0
BadMembers ws Missing = length ws ≤ 1
BadMembers ws NotANumber = (1 < length ws) × ((n : ℕ) → Writes (slice_index_or ws 1 []) n → ⊥)
BadMembers ws NotAPolicy = ⊥
BadMembers ws NotOneToSixteen = (1 < length ws) × ((n : ℕ) × Writes (slice_index_or ws 1 []) n × (1 ≤ n → 16 < n))

-- which of the words from the fourth on is no number
abbrev pub NoKey : List Text → LocateFault → Type 0
NoKey ws (Word f) = (3 ≤ f.place) × (f.place < length ws) × (f.reason ≡ NotANumber)
    × ((j : ℕ) → 3 ≤ j → j < f.place → (n : ℕ) × Writes (slice_index_or ws j []) n) × ((n : ℕ) → Writes (slice_index_or ws f.place []) n → ⊥)
NoKey ws Memory = Unit {0}
