-- The first of a roster under an order of each key are a lawful placement; rendezvous is one.
use Rattle.std.specs.Prelude.{◌≡◌, ℕ, zero, suc, ◌≤◌, min, Bool, true, List, [], ◌∷◌, length, take, refl}
use Rattle.std.proofs.Common.{sym, ap, subst, ◌∙◌, length-take, arith}
use Rattle.std.proofs.lemmas.Bool.Decides.{nat_tests}
use Rattle.lists.proofs.Fronts.{take_member, take_distinct, take_without_kept, take_without_same}
use Rattle.order.specs.Sorting.{Ordered, sort}
use Rattle.order.proofs.Sorts.{sort_rising, length_sort, rising_in_order, rising_take}
use Rattle.order.proofs.Numbers.{member_sort, sort_distinct, without_sort, listed_first}
use Rattle.placement.specs.Laws.{Rule, Rostered, Lawful, nearest}
use Rattle.placement.specs.Rendezvous.{ahead, rendezvous, Heaviest}

pub ahead_ordered : (k : ℕ) → Ordered (ahead k)
ahead_ordered k = record {
  total = λ a b h. grind (arith, nat_tests);
  transitive = λ a b c h i. grind (arith, nat_tests);
  antisymmetric = λ a b h i. grind (arith, nat_tests);
}

-- the placement of the first g under an order for each key
abbrev pub firsts : ℕ → (ℕ → ℕ → ℕ → Bool) → Rule
firsts g before = record {
  greatest = g;
  list = λ k R r. take (nearest g r) (sort (before k) R);
  may_leave = λ R s. true;
}

pub firsts_lawful : (g : ℕ) (before : ℕ → ℕ → ℕ → Bool) → ((k : ℕ) → Ordered (before k)) → 1 ≤ g → g ≤ 4 → Lawful (firsts g before)
firsts_lawful g before o low high = record {
  greatest_fits = (low, high);
  nearer_end = λ k R r. (let e : nearest g r ≡ nearest g (nearest g r) = omega arith in ap (λ (n : ℕ). take n (sort (before k) R)) e);
  size = λ k R r ros. length-take (nearest g r) (sort (before k) R) ∙ (let e = length_sort (before k) (o k) R in omega arith);
  apart = λ k R r ros. take_distinct (nearest g r) (sort (before k) R) (sort_distinct (before k) R ros.distinct);
  within = λ k R r ros s h. sym (member_sort (before k) s R) ∙ take_member (nearest g r) s (sort (before k) R) h;
  last_may_leave = λ R s ros. refl;
  others_stay = λ k R r ros m i l two s n h. rw (← without_sort (before k) (o k) m R ros.distinct) (take_without_kept (nearest g r) m s (sort (before k) R) n h);
  untouched = λ k R r ros m i l two h. rw (← without_sort (before k) (o k) m R ros.distinct) (take_without_same (nearest g r) m (sort (before k) R) h);
}

pub rendezvous_lawful : Lawful rendezvous
unfolding rendezvous
rendezvous_lawful = firsts_lawful 4 ahead ahead_ordered (omega arith) (omega arith)

pub firsts_rostered : (before : ℕ → ℕ → Bool) → Ordered before → (n c : ℕ) (R : List ℕ) → 1 ≤ c → Rostered n R → Rostered n (take c (sort before R))
firsts_rostered before o n c R one ros =
    let some : 1 ≤ length R = ros.some in
    let e = length_sort before o R in
    let t = length-take c (sort before R) in
    record {
      distinct = take_distinct c (sort before R) (sort_distinct before R ros.distinct);
      below = λ s h. ros.below s (sym (member_sort before s R) ∙ take_member c s (sort before R) h);
      some = omega arith;
    }

-- a front that is at least as long as the list is all of it
pub take_whole : {X : Type 0} (n : ℕ) (l : List X) → take (min n (length l)) l ≡ take n l
take_whole zero l = (let e : min 0 (length l) ≡ 0 = omega arith in ap (λ (i : ℕ). take i l) e)
take_whole (suc n) [] = (let e : min (suc n) 0 ≡ 0 = omega arith in ap (λ (i : ℕ). take i []) e)
take_whole (suc n) (x ∷ l) =
    (let e : min (suc n) (suc (length l)) ≡ suc (min n (length l)) = omega arith in
    ap (λ (i : ℕ). take i (x ∷ l)) e ∙ ap (λ u. x ∷ u) (take_whole n l))

-- what rendezvous lists is what its meaning says
pub heaviest_listed : (k : ℕ) (R : List ℕ) (r : ℕ) (L : List ℕ) → L ≡ take (nearest 4 r) (sort (ahead k) R) → Heaviest k R L
heaviest_listed k R r L e =
    let up = sort_rising (ahead k) (ahead_ordered k) R in
    subst (Heaviest k R) (sym e) (record {
      in_order = λ i j d p q b. rising_in_order (ahead k) (ahead_ordered k) (take (nearest 4 r) (sort (ahead k) R)) (rising_take (ahead k) (nearest 4 r) (sort (ahead k) R) up) i j d q b;
      none_heavier = λ s t a b n. listed_first (ahead k) (nearest 4 r) s t (sort (ahead k) R) up a (member_sort (ahead k) t R ∙ b) n;
    })
