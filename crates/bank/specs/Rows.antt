-- When a bank stands, and why its row of stores is lawful.
use Rattle.std.specs.Prelude.{◌≡◌, ℕ, zero, suc, ◌+◌, ◌^◌, ◌<◌, ◌⊎◌, List, [], ◌∷◌, length, take, None, refl}
use Rattle.std.proofs.Common.{sym, subst, inl, inr, ⊎_elim, arith, length-take}
use Rattle.pairs.proofs.Maps.{none_some}
use Rattle.store.specs.Meaning.{Meaning, nothing, Lawful}
use Rattle.store.specs.Stores.{nth, LawfulRow}

-- a store beside a bank of n stores stands: both do, and the numbers fit 64 bits
pub record StandsBeside (Store Rest : Type 0) (n : ℕ) : Type 0 where
  pub store_stands : Store
  pub rest_stands : Rest
  pub numbered : n + 1 < 2 ^ 64

nothing_lawful : Lawful nothing.pairs nothing.cap
nothing_lawful = record { ordered = tt; words = λ k v e. absurd (none_some None v refl e); few = omega arith; cap_few = omega arith }

pub row_none : LawfulRow []
row_none = record { each = λ s. nothing_lawful; numbered = omega arith }

pub row_beside : (m : Meaning) (st : List Meaning) → Lawful m.pairs m.cap → LawfulRow st → length st + 1 < 2 ^ 64 → LawfulRow (m ∷ st)
row_beside m st here there l = record { each = each; numbered = omega arith }
  where
    each : (s : ℕ) → Lawful (nth (m ∷ st) s).pairs (nth (m ∷ st) s).cap
    each zero = here
    each (suc s) = there.each s

-- a store of the first n is a store of all, or none at all
of_first : (n : ℕ) (st : List Meaning) (s : ℕ) → (nth (take n st) s ≡ nth st s) ⊎ (nth (take n st) s ≡ nothing)
of_first zero st s = inr refl
of_first (suc n) [] s = inr refl
of_first (suc n) (x ∷ st) zero = inl refl
of_first (suc n) (x ∷ st) (suc s) = of_first n st s

pub row_first : (n : ℕ) (st : List Meaning) → LawfulRow st → LawfulRow (take n st)
row_first n st h = record { each = each; numbered = let e = length-take n st in let l = h.numbered in omega arith }
  where
    each : (s : ℕ) → Lawful (nth (take n st) s).pairs (nth (take n st) s).cap
    each s =
        ⊎_elim
        (λ (e : nth (take n st) s ≡ nth st s). subst (λ (x : Meaning). Lawful x.pairs x.cap) (sym e) (h.each s))
        (λ (e : nth (take n st) s ≡ nothing). subst (λ (x : Meaning). Lawful x.pairs x.cap) (sym e) nothing_lawful)
        (of_first n st s)
