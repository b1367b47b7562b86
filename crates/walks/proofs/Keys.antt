-- The smallest key: the first of the sorted next keys, and the least over the stores.
use Rattle.std.proofs.Common.{◌≡◌, ℕ, ◌^◌, ◌<◌, ◌≤◌, min, leb, List, [], ◌∷◌, ◌++◌, length, get_or, take, Some, None, Option, sym, refl, ap, ◌∙◌, inl, inr, append_assoc, arith}
use Rattle.std.proofs.lemmas.Bool.{cases_Bool, leb-true, leb-false, cond-true, cond-false}
use Rattle.order.specs.Sorting.{insert, sort}
use Rattle.pairs.specs.Pairs.{find, next_key, nearer}
use Rattle.pairs.proofs.Maps.{nearer_assoc, next_none_is}
use Rattle.store.specs.Meaning.{Meaning}
use Rattle.store.specs.Stores.{nth, LawfulRow}
use Rattle.store.specs.declared.value.Value.{Value}
use Rattle.machine.specs.Lent.{least}
use Rattle.machine.proofs.Rows.{least_none}
use Rattle.walks.specs.Keys.{listed, next_keys, smallest_of}

-- the first of a list, where it has one
abbrev first : List ℕ → Option ℕ
first [] = None
first (x ∷ l) = Some x

first_insert : (x : ℕ) (l : List ℕ) → first (insert (λ a b. leb a b) x l) ≡ nearer (Some x) (first l)
first_insert x [] = refl
first_insert x (y ∷ l) = elim (cases_Bool (leb x y)) [
  | inl t ↦ (let m : x ≡ min x y = omega (arith, leb-true x y t) in
      ap first (cond-true (leb x y) (x ∷ y ∷ l) (y ∷ insert (λ a b. leb a b) x l) t) ∙ ap Some m)
  | inr t ↦ (let m : y ≡ min x y = omega (arith, leb-false x y t) in
      ap first (cond-false (leb x y) (x ∷ y ∷ l) (y ∷ insert (λ a b. leb a b) x l) t) ∙ ap Some m)
]

first_sort : (l : List ℕ) → first (sort (λ a b. leb a b) l) ≡ smallest_of l
first_sort [] = refl
first_sort (x ∷ l) = first_insert x (sort (λ a b. leb a b) l) ∙ ap (λ (o : Option ℕ). nearer (Some x) o) (first_sort l)

first_take : (l : List ℕ) → first (take 1 l) ≡ first l
first_take [] = refl
first_take (x ∷ l) = refl

first_at : (l : List ℕ) → 0 < length l → Some (get_or l 0 0) ≡ first l
first_at [] h = absurd (omega arith)
first_at (x ∷ l) h = refl

-- what selection brings to the front
pub front_is_smallest : (l l' : List ℕ) → 0 < length l' → take 1 l' ≡ take 1 (sort (λ a b. leb a b) l) → Some (get_or l' 0 0) ≡ smallest_of l
front_is_smallest l l' h e = first_at l' h ∙ sym (first_take l') ∙ ap first e ∙ first_take (sort (λ a b. leb a b) l) ∙ first_sort l

pub none_smallest : (l : List ℕ) → length l ≡ 0 → None ≡ smallest_of l
none_smallest [] h = refl
none_smallest (x ∷ l) h = absurd (omega arith)

pub smallest_append : (a b : List ℕ) → smallest_of (a ++ b) ≡ nearer (smallest_of a) (smallest_of b)
smallest_append [] b = refl
smallest_append (x ∷ a) b =
    ap (λ (o : Option ℕ). nearer (Some x) o) (smallest_append a b) ∙ sym (nearer_assoc (Some x) (smallest_of a) (smallest_of b))

smallest_listed : (o : Option ℕ) → smallest_of (listed o) ≡ o
smallest_listed None = refl
smallest_listed (Some k) = refl

next_smallest : (ss : List ℕ) (st : List Meaning) (c : ℕ) → smallest_of (next_keys ss st c) ≡ least ss st c
next_smallest [] st c = refl
next_smallest (s ∷ ss) st c =
    smallest_append (listed (next_key (nth st s).pairs c)) (next_keys ss st c)
    ∙ ap (λ (o : Option ℕ). nearer o (smallest_of (next_keys ss st c))) (smallest_listed (next_key (nth st s).pairs c))
    ∙ ap (λ (o : Option ℕ). nearer (next_key (nth st s).pairs c) o) (next_smallest ss st c)

next_keys_append : (a b : List ℕ) (st : List Meaning) (c : ℕ) → next_keys a st c ++ next_keys b st c ≡ next_keys (a ++ b) st c
next_keys_append [] b st c = refl
next_keys_append (s ∷ a) b st c =
    append_assoc (listed (next_key (nth st s).pairs c)) (next_keys a st c) (next_keys b st c)
    ∙ ap (λ (l : List ℕ). listed (next_key (nth st s).pairs c) ++ l) (next_keys_append a b st c)

-- the smallest of the next keys of two lists of stores is the least key over both
pub least_of_both : (a b : List ℕ) (st : List Meaning) (c : ℕ) → smallest_of (next_keys a st c ++ next_keys b st c) ≡ least (a ++ b) st c
least_of_both a b st c = ap smallest_of (next_keys_append a b st c) ∙ next_smallest (a ++ b) st c

-- no store holds a key past every key
pub none_past : (ss : List ℕ) (st : List Meaning) → LawfulRow st → least ss st (2 ^ 64) ≡ None
none_past ss st row = least_none st (2 ^ 64) ss (λ s m. next_none_is (nth st s).pairs (2 ^ 64) (λ q l. go s q l (find (nth st s).pairs q) refl))
  where
    go : (s q : ℕ) → 2 ^ 64 ≤ q → (o : Option Value) → find (nth st s).pairs q ≡ o → find (nth st s).pairs q ≡ None
    go s q l None e = e
    go s q l (Some v) e = absurd (let b : q < 2 ^ 64 = ((row.each s).words q v e).key_fits in omega arith)
