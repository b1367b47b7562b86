-- What each call answers and leaves, over the pairs and the cap before it.
use Rattle.std.specs.Prelude.{ℕ, Bool, cond, not, ◌&&◌, List, length, Ok, Err, Result, nat_le}
use Rattle.pairs.specs.Pairs.{Pair, insert, erase, has}
use Rattle.store.specs.declared.Put.{Put}
use Rattle.store.specs.declared.Put.TheVariants.{New, Replaced}
use Rattle.store.specs.declared.fault.StoreFault.{StoreFault}
use Rattle.store.specs.declared.fault.StoreFault.TheVariants.{BeyondLimit, BadImage, Full, HoldsPair}
use Rattle.store.specs.declared.value.Value.{Value}
use Rattle.store.specs.Meaning.{Meaning}

-- whether a put of k is refused: k is absent, and there are as many pairs as the cap, or more
abbrev pub refuses : List (Pair Value) → ℕ → ℕ → Bool
refuses ps c k = not (has ps k) && nat_le c (length ps)

-- what a put answers
abbrev pub put_answer : List (Pair Value) → ℕ → ℕ → Result Put StoreFault
put_answer ps c k = cond (refuses ps c k) (Err Full) (Ok (cond (has ps k) Replaced New))

-- the pairs after a put
abbrev pub put_pairs : List (Pair Value) → ℕ → ℕ → Value → List (Pair Value)
put_pairs ps c k v = cond (refuses ps c k) ps (insert ps k v)

-- the meaning after a put, and after a removal
abbrev pub put_meaning : Meaning → ℕ → Value → Meaning
put_meaning m k v = record { pairs = put_pairs m.pairs m.cap k v; cap = m.cap }

abbrev pub erase_meaning : Meaning → ℕ → Meaning
erase_meaning m k = record { pairs = erase m.pairs k; cap = m.cap }

-- the number of each refusal
abbrev pub fault_number : StoreFault → ℕ
fault_number BeyondLimit = 2
fault_number BadImage = 3
fault_number Full = 4
fault_number HoldsPair = 6
