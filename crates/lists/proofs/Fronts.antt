-- The first r of a list of numbers.
use Rattle.std.proofs.Common.{◌≡◌, ℕ, zero, suc, true, false, eqb, List, [], ◌∷◌, take, refl, ap, inl, inr, arith}
use Rattle.std.proofs.lemmas.Bool.Decides.{nat_tests}
use Rattle.std.proofs.lemmas.Bool.{cases_eq, cases_Bool, both_ways}
use Rattle.lists.specs.Numbers.{member, Distinct, without}

pub take_member : (r s : ℕ) (l : List ℕ) → member s (take r l) ≡ true → member s l ≡ true
take_member zero s l h = grind (arith, nat_tests)
take_member (suc r) s [] h = h
take_member (suc r) s (x ∷ l) h =
    let ih : member s (take r l) ≡ true → member s l ≡ true = take_member r s l in
    grind (arith, nat_tests)

pub take_more_member : (r s : ℕ) (l : List ℕ) → member s (take r l) ≡ true → member s (take (suc r) l) ≡ true
take_more_member zero s l h = grind (arith, nat_tests)
take_more_member (suc r) s [] h = h
take_more_member (suc r) s (x ∷ l) h =
    let ih : member s (take r l) ≡ true → member s (take (suc r) l) ≡ true = take_more_member r s l in
    grind (arith, nat_tests)

pub take_distinct : (r : ℕ) (l : List ℕ) → Distinct l → Distinct (take r l)
take_distinct zero l d = tt
take_distinct (suc r) [] d = tt
take_distinct (suc r) (x ∷ l) d =
    let ih : Distinct (take r l) = take_distinct r l d.1 in
    let m : member x (take r l) ≡ true → member x l ≡ true = take_member r x l in
    let n : member x l ≡ false = d.0 in
    let t : member x (take r l) ≡ false = elim (cases_Bool (member x (take r l))) [ inl e ↦ absurd (both_ways (member x l) n (m e)) | inr e ↦ e ] in
    (t, ih)

-- one that goes from a list leaves the others among the first, and changes nothing where it was not among them
pub take_without_kept : (r m s : ℕ) (l : List ℕ) → (s ≡ m → ⊥) → member s (take r l) ≡ true → member s (take r (without m l)) ≡ true
take_without_kept zero m s l n h = h
take_without_kept (suc r) m s [] n h = h
take_without_kept (suc r) m s (x ∷ l) n h =
    let ih : member s (take r l) ≡ true → member s (take r (without m l)) ≡ true = take_without_kept r m s l n in
    let more : member s (take r l) ≡ true → member s (take (suc r) l) ≡ true = take_more_member r s l in
    elim (cases_eq x m) [
      | inl e ↦ (let t : without m (x ∷ l) ≡ l = grind (arith, nat_tests) in rw t (more (grind (arith, nat_tests))))
      | inr e ↦ (let t : without m (x ∷ l) ≡ x ∷ without m l = grind (arith, nat_tests) in rw t (grind (arith, nat_tests)))
    ]

pub take_without_same : (r m : ℕ) (l : List ℕ) → member m (take r l) ≡ false → take r (without m l) ≡ take r l
take_without_same zero m l h = refl
take_without_same (suc r) m [] h = refl
take_without_same (suc r) m (x ∷ l) h =
    let ih : member m (take r l) ≡ false → take r (without m l) ≡ take r l = take_without_same r m l in
    let ne : eqb x m ≡ false = grind (arith, nat_tests) in
    let t : without m (x ∷ l) ≡ x ∷ without m l = grind (arith, nat_tests) in
    rw t (ap (λ (u : List ℕ). x ∷ u) (ih (grind (arith, nat_tests))))
