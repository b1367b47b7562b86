use Rattle.std.proofs.Common.{◌≡◌, ℕ, ◌<◌, [], map, get_or, take, drop, vec_items, decimal}
use Rattle.locator.specs.Questions.{texts, Writes}
use Rattle.locator.proofs.reading.read_keys.Given as goal

-- the keys read are what the words passed write
abbrev pub invariant-loop-i : goal.invariant-loop-i
invariant-loop-i l =
    (texts l.rest ≡ drop 3 (texts l.words))
    × (map decimal (vec_items l.keys) ≡ take l.i (texts l.rest))
    × ((j : ℕ) → j < l.i → (n : ℕ) × Writes (get_or (texts l.rest) j []) n)
