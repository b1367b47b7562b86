-- Rendezvous: the members of greatest weight for the key.
use Rattle.std.specs.Prelude.{◌≡◌, ℕ, ◌+◌, ◌*◌, ◌/◌, ◌%◌, ◌^◌, Bool, true, false, cond, List, take, ◌==◌, bit_xor, nat_le, nat_lt}
use Rattle.lists.specs.Numbers.{member}
use Rattle.order.specs.Sorting.{sort, FrontInOrder}
use Rattle.placement.specs.Laws.{Rule, nearest}

-- a key folded to 31 bits
abbrev pub digest : ℕ → ℕ
digest k = bit_xor (bit_xor k (k / 2 ^ 31)) (k / 2 ^ 62) % 2 ^ 31

-- the weight of a store at a digest
abbrev pub weight_at : ℕ → ℕ → ℕ
weight_at d s = (1103515245 * bit_xor ((1103515245 * s + 12345) % 2 ^ 31) d + 12345) % 2 ^ 31

abbrev pub weight : ℕ → ℕ → ℕ
weight k s = weight_at (digest k) s

-- greater weight first, then smaller number
abbrev pub ahead : ℕ → ℕ → ℕ → Bool
ahead k a b = cond (weight k a == weight k b) (nat_le a b) (nat_lt (weight k b) (weight k a))

-- any member may leave
unfoldable pub rendezvous : Rule
rendezvous = record {
  greatest = 4;
  list = λ k R r. take (nearest 4 r) (sort (ahead k) R);
  may_leave = λ R s. true;
}

-- what the list means without sorting: it is in order, and each store of it is ahead of every member that is not in it
pub record Heaviest (k : ℕ) (R list : List ℕ) : Type 0 where
  pub in_order : FrontInOrder (ahead k) 4 list
  pub none_heavier : (s t : ℕ) → member s list ≡ true → member t R ≡ true → member t list ≡ false → ahead k s t ≡ true
