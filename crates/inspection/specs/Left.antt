-- The pairs of a map that a walk by ascending key still has before it.
use Rattle.std.specs.Prelude.{ℕ, List, [], Some, None, Option, nat_le}
use Rattle.pairs.specs.Pairs.{Pair, keep}

-- the pairs whose key is not below c
abbrev pub from_on : {V : Type 0} → ℕ → List (Pair V) → List (Pair V)
from_on c ps = keep (nat_le c) ps

-- the pairs from a key on, or none
abbrev pub left_from : {V : Type 0} → Option ℕ → List (Pair V) → List (Pair V)
left_from None ps = []
left_from (Some c) ps = from_on c ps
