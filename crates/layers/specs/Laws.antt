-- When the layers stand, and why they obey the laws of stores.
use Rattle.std.specs.Prelude.{◌≡◌, ℕ, ◌≤◌, min, Bool, true, cond, ◌&&◌, List, length, Ok, Err, Result, ◌==◌}
use Rattle.std.proofs.Common.{arith}
use Rattle.pairs.specs.Pairs.{Pair}
use Rattle.store.specs.declared.fault.StoreFault.{StoreFault}
use Rattle.store.specs.declared.fault.StoreFault.TheVariants.{HoldsPair}
use Rattle.store.specs.declared.value.Value.{Value}
use Rattle.store.specs.Meaning.{Lawful}

-- whether both halves of a mirror are empty, and what the opening's check answers
abbrev pub both_empty : List (Pair Value) → List (Pair Value) → Bool
both_empty ps qs = length ps == 0 && length qs == 0

abbrev pub halves_checked : List (Pair Value) → List (Pair Value) → Result (Unit {0}) StoreFault
halves_checked ps qs = cond (both_empty ps qs) (Ok tt) (Err HoldsPair)

-- when a mirror stands: both halves do, they hold equal pairs, and they were empty at the opening
pub record Mirrored (Left Right : Type 0) (ps qs : List (Pair Value)) (opened : Bool) : Type 0 where
  pub left_stands : Left
  pub right_stands : Right
  pub alike : ps ≡ qs
  pub opened_empty : opened ≡ true

-- a smaller cap is lawful too
lower : (ps : List (Pair Value)) (c d : ℕ) → d ≤ c → Lawful ps c → Lawful ps d
lower ps c d l h = record { ordered = h.ordered; words = h.words; few = h.few; cap_few = let m = h.cap_few in omega arith }

pub quota_lawful : (ps : List (Pair Value)) (q c : ℕ) → Lawful ps c → Lawful ps (min q c)
quota_lawful ps q c h = lower ps c (min q c) (omega arith) h

pub mirror_lawful : (ps : List (Pair Value)) (c d : ℕ) → Lawful ps c → Lawful ps (min c d)
mirror_lawful ps c d h = lower ps c (min c d) (omega arith) h
