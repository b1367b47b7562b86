-- Walks over a list of stores, one store after the other.
use Rattle.std.proofs.Common.{◌≡◌, ℕ, ◌≤◌, cond, not, List, [], ◌∷◌, length, get_or, Some, Option, refl, ap, inl, inr, arith}
use Rattle.std.proofs.lemmas.Bool.{cases_Bool}
use Rattle.std.specs.List.{find}
use Rattle.lists.specs.Numbers.{nth as nth_number, member}
use Rattle.placement.specs.Rosters.{members}
use Rattle.placement.specs.declared.roster.Roster.{Roster}
use Rattle.placement.proofs.Holding.{length_members}
use Rattle.store.specs.Meaning.{Meaning}
use Rattle.store.specs.Stores.{nth}
use Rattle.machine.specs.Books.{first_outside}
use Rattle.machine.specs.Lent.{full_for, first_full}

-- a roster has a first member
first_member : (l : List ℕ) → 1 ≤ length l → nth_number l 0 ≡ Some (get_or l 0 0)
first_member [] h = absurd (omega arith)
first_member (x ∷ l) h = refl

pub has_first : (r : Roster) → nth_number (members r) 0 ≡ Some (get_or (members r) 0 0)
has_first r = let a = length_members r in let b : 1 ≤ r.len = r.some in first_member (members r) (omega arith)

-- a roster has at most sixteen members
pub few : (r : Roster) → length (members r) ≤ 16
few r = let a = length_members r in let b : r.len ≤ 16 = r.fits in omega arith

-- the first full store, and the first one outside, as a list is searched
pub full_found : (ss : List ℕ) (st : List Meaning) (k : ℕ) → find (λ s. full_for (nth st s) k) ss ≡ first_full ss st k
full_found [] st k = refl
full_found (s ∷ ss) st k = ap (λ (o : Option ℕ). cond (full_for (nth st s) k) (Some s) o) (full_found ss st k)

pub outside_found : (ss b : List ℕ) → find (λ s. not (member s b)) ss ≡ first_outside ss b
outside_found [] b = refl
outside_found (s ∷ ss) b = elim (cases_Bool (member s b)) [ inl t ↦ rw t (outside_found ss b) | inr t ↦ rw t ]
