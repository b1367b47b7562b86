-- Which numbers stand in a list, after one is taken out, one is added, or where none stands twice.
use Rattle.std.proofs.Common.{◌≡◌, ℕ, zero, suc, ◌+◌, ◌<◌, ◌≤◌, true, false, cond, List, [], ◌∷◌, ◌++◌, length, get_or, refl, ap, inl, inr, arith}
use Rattle.std.proofs.lemmas.Bool.Decides.{nat_tests}
use Rattle.std.proofs.lemmas.Bool.{cases_Bool}
use Rattle.lists.specs.Numbers.{member, Distinct, all_distinct, without, count_up}

pub member_append : (s : ℕ) (a b : List ℕ) → member s (a ++ b) ≡ cond (member s a) true (member s b)
member_append s [] b = refl
member_append s (x ∷ a) b = let ih : member s (a ++ b) ≡ cond (member s a) true (member s b) = member_append s a b in grind (arith, nat_tests)

pub member_at : (l : List ℕ) (i : ℕ) → i < length l → member (get_or l i 0) l ≡ true
member_at [] i h = absurd (omega arith)
member_at (x ∷ l) zero h = grind (arith, nat_tests)
member_at (x ∷ l) (suc i) h =
    let ih : member (get_or l i 0) l ≡ true = member_at l i (omega arith) in
    grind (arith, nat_tests)

-- one number taken out
pub without_out : (s x : ℕ) (a : List ℕ) → (x ≡ s → ⊥) → member x a ≡ true → member x (without s a) ≡ true
without_out s x [] n h = grind (arith, nat_tests)
without_out s x (y ∷ a) n h =
    let ih : member x a ≡ true → member x (without s a) ≡ true = without_out s x a n in
    grind (arith, nat_tests)

pub without_in : (s x : ℕ) (a : List ℕ) → member x (without s a) ≡ true → member x a ≡ true
without_in s x [] h = grind (arith, nat_tests)
without_in s x (y ∷ a) h =
    let ih : member x (without s a) ≡ true → member x a ≡ true = without_in s x a in
    grind (arith, nat_tests)

pub without_length : (s : ℕ) (a : List ℕ) → member s a ≡ true → length (without s a) + 1 ≡ length a
without_length s [] h = grind (arith, nat_tests)
without_length s (y ∷ a) h =
    let ih : member s a ≡ true → length (without s a) + 1 ≡ length a = without_length s a in
    grind (arith, nat_tests)

pub without_distinct : (s : ℕ) (a : List ℕ) → Distinct a → Distinct (without s a)
without_distinct s [] h = tt
without_distinct s (y ∷ a) h =
    let ih : Distinct (without s a) = without_distinct s a h.1 in
    let w : member y (without s a) ≡ true → member y a ≡ true = without_in s y a in
    grind (arith, nat_tests)

pub without_gone : (s : ℕ) (a : List ℕ) → Distinct a → member s (without s a) ≡ false
without_gone s [] h = refl
without_gone s (y ∷ a) h =
    let ih : member s (without s a) ≡ false = without_gone s a h.1 in
    let d : member y a ≡ false = h.0 in
    grind (arith, nat_tests)

pub without_absent : (s : ℕ) (a : List ℕ) → member s a ≡ false → without s a ≡ a
without_absent s [] h = refl
without_absent s (y ∷ a) h =
    let ih : member s a ≡ false → without s a ≡ a = without_absent s a in
    grind (arith, nat_tests)

pub push_distinct : (R : List ℕ) (s : ℕ) → Distinct R → member s R ≡ false → Distinct (R ++ s ∷ [])
push_distinct [] s d n = (refl, tt)
push_distinct (x ∷ R) s d n =
    let a : member x (R ++ s ∷ []) ≡ cond (member x R) true (member x (s ∷ [])) = member_append x R (s ∷ []) in
    let b : member x R ≡ false = d.0 in
    let c : member x (R ++ s ∷ []) ≡ false = grind (arith, nat_tests) in
    (c, push_distinct R s d.1 (grind (arith, nat_tests)))

pub push_without : (R : List ℕ) (s : ℕ) → member s R ≡ false → without s (R ++ s ∷ []) ≡ R
push_without [] s n = grind (arith, nat_tests)
push_without (x ∷ R) s n =
    let ih : member s R ≡ false → without s (R ++ s ∷ []) ≡ R = push_without R s in
    grind (arith, nat_tests)

-- distinct numbers that all stand in another list are no more than it has
pub pigeons : (a b : List ℕ) → Distinct a → ((x : ℕ) → member x a ≡ true → member x b ≡ true) → length a ≤ length b
pigeons [] b d h = omega arith
pigeons (x ∷ a) b d h =
    let hx : member x b ≡ true = h x (grind (arith, nat_tests)) in
    let n : member x a ≡ false = d.0 in
    let ih : length a ≤ length (without x b) = pigeons a (without x b) d.1
    (λ y m. let hy : member y b ≡ true = h y (grind (arith, nat_tests)) in
    without_out x y b (λ e. let z : member x a ≡ true = rw e at m in grind (arith, nat_tests)) hy) in
    omega (arith, without_length x b hx)

pub count_up_member : (n i s : ℕ) → i ≤ s → s < i + n → member s (count_up i n) ≡ true
count_up_member zero i s p q = absurd (omega arith)
count_up_member (suc n) i s p q =
    let ih : i + 1 ≤ s → s < (i + 1) + n → member s (count_up (i + 1) n) ≡ true = count_up_member n (i + 1) s in
    grind (arith, nat_tests)

pub count_up_low : (n i s : ℕ) → member s (count_up i n) ≡ true → i ≤ s
count_up_low zero i s h = grind (arith, nat_tests)
count_up_low (suc n) i s h =
    let ih : member s (count_up (i + 1) n) ≡ true → i + 1 ≤ s = count_up_low n (i + 1) s in
    grind (arith, nat_tests)

pub count_up_high : (n i s : ℕ) → member s (count_up i n) ≡ true → s < i + n
count_up_high zero i s h = grind (arith, nat_tests)
count_up_high (suc n) i s h =
    let ih : member s (count_up (i + 1) n) ≡ true → s < (i + 1) + n = count_up_high n (i + 1) s in
    grind (arith, nat_tests)

pub count_up_distinct : (n i : ℕ) → Distinct (count_up i n)
count_up_distinct zero i = tt
count_up_distinct (suc n) i =
    let low : member i (count_up (i + 1) n) ≡ true → i + 1 ≤ i = count_up_low n (i + 1) i in (
      elim (cases_Bool (member i (count_up (i + 1) n))) [ inl e ↦ absurd (let z = low e in omega arith) | inr e ↦ e ],
      count_up_distinct n (i + 1),
    )

pub length_count_up : (n i : ℕ) → length (count_up i n) ≡ n
length_count_up zero i = refl
length_count_up (suc n) i = ap suc (length_count_up n (i + 1))

-- the test says what the statement says
pub distinct_from_test : (R : List ℕ) → all_distinct R ≡ true → Distinct R
distinct_from_test [] h = tt
distinct_from_test (x ∷ R) h =
    let ih : all_distinct R ≡ true → Distinct R = distinct_from_test R in
    let n : member x R ≡ false = grind (arith, nat_tests) in
    (n, ih (grind (arith, nat_tests)))

pub test_from_distinct : (R : List ℕ) → Distinct R → all_distinct R ≡ true
test_from_distinct [] h = refl
test_from_distinct (x ∷ R) h =
    let ih : all_distinct R ≡ true = test_from_distinct R h.1 in
    let n : member x R ≡ false = h.0 in
    grind (arith, nat_tests)
