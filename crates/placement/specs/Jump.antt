-- Jump: one member, by a walk over positions.
use Rattle.std.specs.Prelude.{ℕ, zero, suc, ◌+◌, ◌*◌, ◌/◌, ◌%◌, ◌^◌, ◌<◌, ◌≤◌, Bool, false, cond, List, [], ◌∷◌, length, ◌==◌, nat_lt, slice_index}
use Rattle.placement.specs.Laws.{Rule}

-- the generator's next state
abbrev pub next_state : ℕ → ℕ
next_state s = (s * 2862933555777941757 + 1) % 2 ^ 64

-- where a walk at position b goes from a state
abbrev pub leap : ℕ → ℕ → ℕ
leap s b = ((b + 1) * 2 ^ 31) / (s / 2 ^ 33 + 1)

-- the walk: it stops where the next leap passes the end, and else goes on from there
pub data Walks (n : ℕ) : ℕ → ℕ → ℕ → Type 0 where
  stop : (s b : ℕ) → n ≤ leap (next_state s) b → Walks n s b b
  step : (s b r : ℕ) → leap (next_state s) b < n → Walks n (next_state s) (leap (next_state s) b) r → Walks n s b r

-- the same as a function; each step goes up, so n steps suffice for n positions
abbrev pub walk : ℕ → ℕ → ℕ → ℕ → ℕ
walk zero s b n = b
walk (suc f) s b n = cond (nat_lt (leap (next_state s) b) n) (walk f (next_state s) (leap (next_state s) b) n) b

-- the position of a key among n
abbrev pub position : ℕ → ℕ → ℕ
position k n = walk n k 0 n

abbrev pub is_last : List ℕ → ℕ → Bool
is_last [] m = false
is_last (x ∷ []) m = x == m
is_last (x ∷ y ∷ R) m = is_last (y ∷ R) m

-- only the last member may leave
unfoldable pub jump : Rule
jump = record {
  greatest = 1;
  list = λ k R r. slice_index R (position k (length R)) ∷ [];
  may_leave = is_last;
}
