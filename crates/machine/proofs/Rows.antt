-- A row of stores of which some are changed, and the least key over some of them.
use Rattle.std.proofs.Common.{◌≡◌, ℕ, ◌<◌, ◌≤◌, min, true, false, cond, eqb, List, [], ◌∷◌, length, Some, None, Option, sym, refl, ap, ◌∙◌, inl, inr, arith}
use Rattle.std.proofs.lemmas.Bool.Decides.{nat_tests as tells, eqb_tells}
use Rattle.std.proofs.lemmas.Bool.{cond_both}
use Rattle.lists.specs.Numbers.{member, Distinct}
use Rattle.pairs.specs.Pairs.{has, next_key, nearer}
use Rattle.store.specs.Meaning.{Meaning}
use Rattle.store.specs.Stores.{nth, change_at}
use Rattle.store.proofs.Stores.{change_length, change_same, change_other}
use Rattle.machine.specs.Lent.{change_all, change_some, first_full, full_for, least}

module _ (f : Meaning → Meaning) where
  pub changed_at : (st : List Meaning) (x s : ℕ) → x < length st → nth (change_at st x f) s ≡ cond (eqb x s) (f (nth st s)) (nth st s)
  changed_at st x s l =
      let same : nth (change_at st x f) x ≡ f (nth st x) = change_same st x f l in
      let other : (s ≡ x → ⊥) → nth (change_at st x f) s ≡ nth st s = change_other st x f s in
      elim (eqb_tells x s) [ inl t ↦ grind (arith, tells) | inr t ↦ let o = other (λ e. t.1 (sym e)) in grind (arith, tells) ]

  pub change_all_length : (ss : List ℕ) (st : List Meaning) → length (change_all f ss st) ≡ length st
  change_all_length [] st = refl
  change_all_length (x ∷ ss) st = change_all_length ss (change_at st x f) ∙ change_length st x f

  pub change_all_at : (ss : List ℕ) (st : List Meaning) (s : ℕ) → Distinct ss → ((x : ℕ) → member x ss ≡ true → x < length st) →
      nth (change_all f ss st) s ≡ cond (member s ss) (f (nth st s)) (nth st s)
  change_all_at [] st s d h = refl
  change_all_at (x ∷ ss) st s d h =
      let st2 : List Meaning = change_at st x f in
      let len : length st2 ≡ length st = change_length st x f in
      let ih : nth (change_all f ss st2) s ≡ cond (member s ss) (f (nth st2 s)) (nth st2 s) =
      change_all_at ss st2 s d.1 (λ y m. let hy : y < length st = h y (grind (arith, tells)) in omega arith) in
      let n : member x ss ≡ false = d.0 in
      let at_x : nth st2 s ≡ cond (eqb x s) (f (nth st s)) (nth st s) = changed_at st x s (h x (grind (arith, tells))) in
      grind (arith, tells)

  pub change_some_length : (g : Option ℕ) (st : List Meaning) → length (change_some f g st) ≡ length st
  change_some_length None st = refl
  change_some_length (Some x) st = change_length st x f

  pub change_some_at : (g : Option ℕ) (st : List Meaning) (s : ℕ) → ((x : ℕ) → g ≡ Some x → x < length st) → (g ≡ Some s → ⊥) → nth (change_some f g st) s ≡ nth st s
  change_some_at None st s h n = refl
  change_some_at (Some x) st s h n =
      let a : nth (change_at st x f) s ≡ cond (eqb x s) (f (nth st s)) (nth st s) = changed_at st x s (h x refl) in
      elim (eqb_tells x s) [ inl t ↦ absurd (n (ap Some t.1)) | inr t ↦ grind (arith, tells) ]

  pub change_some_here : (g : Option ℕ) (st : List Meaning) (s : ℕ) → s < length st → g ≡ Some s → nth (change_some f g st) s ≡ f (nth st s)
  change_some_here None st s h n = grind (arith, tells)
  change_some_here (Some x) st s h n =
      let e : x ≡ s = cc in
      let a : nth (change_at st x f) s ≡ cond (eqb x s) (f (nth st s)) (nth st s) = changed_at st x s (omega arith) in
      grind (arith, tells)

  pub change_some_cap : ((x : Meaning) → (f x).cap ≡ x.cap) → (g : Option ℕ) (st : List Meaning) (s : ℕ) → ((x : ℕ) → g ≡ Some x → x < length st) → (nth (change_some f g st) s).cap ≡ (nth st s).cap
  change_some_cap c None st s h = refl
  change_some_cap c (Some x) st s h =
      ap (λ (y : Meaning). y.cap) (changed_at st x s (h x refl)) ∙
      cond_both (eqb x s) (f (nth st s)) (nth st s) (λ (y : Meaning). y.cap ≡ (nth st s).cap) (λ _. c (nth st s)) (λ _. refl)

-- stores that hold k are never full for it
pub held_not_full : (ss : List ℕ) (st : List Meaning) (k : ℕ) → ((s : ℕ) → member s ss ≡ true → has (nth st s).pairs k ≡ true) → first_full ss st k ≡ None
held_not_full [] st k h = refl
held_not_full (x ∷ ss) st k h =
    let hx : has (nth st x).pairs k ≡ true = h x (grind (arith, tells)) in
    let ih : first_full ss st k ≡ None = held_not_full ss st k (λ s m. h s (grind (arith, tells))) in
    rw (hx, ih)

-- where none of some stores is full, each has room
pub room_in_all : (ss : List ℕ) (st : List Meaning) (k s : ℕ) → first_full ss st k ≡ None → member s ss ≡ true → full_for (nth st s) k ≡ false
room_in_all [] st k s e m = grind (arith, tells)
room_in_all (x ∷ ss) st k s e m =
    let ih : first_full ss st k ≡ None → member s ss ≡ true → full_for (nth st s) k ≡ false = room_in_all ss st k s in
    elim (eqb_tells x s) [
      | inl t ↦ (let a : full_for (nth st x) k ≡ false = grind (arith, tells) in ap (λ (y : ℕ). full_for (nth st y) k) (sym t.1) ∙ a)
      | inr t ↦ ih (grind (arith, tells)) (grind (arith, tells))
    ]

nearer_above : (k j : ℕ) (a b : Option ℕ) → ((i : ℕ) → a ≡ Some i → k ≤ i) → ((i : ℕ) → b ≡ Some i → k ≤ i) → nearer a b ≡ Some j → k ≤ j
nearer_above k j None b ha hb e = hb j e
nearer_above k j (Some x) None ha hb e = ha j e
nearer_above k j (Some x) (Some y) ha hb e =
    let hx : k ≤ x = ha x refl in let hy : k ≤ y = hb y refl in let m : min x y ≡ j = cc in omega arith

nearer_left : (k : ℕ) (a b : Option ℕ) → a ≡ Some k → ((i : ℕ) → b ≡ Some i → k ≤ i) → nearer a b ≡ Some k
nearer_left k None b e hb = grind (arith, tells)
nearer_left k (Some x) None e hb = e
nearer_left k (Some x) (Some y) e hb =
    let hy : k ≤ y = hb y refl in let q : x ≡ k = cc in let m : min x y ≡ k = omega arith in ap Some m

nearer_right : (k : ℕ) (a b : Option ℕ) → ((i : ℕ) → a ≡ Some i → k ≤ i) → b ≡ Some k → nearer a b ≡ Some k
nearer_right k None b ha e = e
nearer_right k (Some x) None ha e = grind (arith, tells)
nearer_right k (Some x) (Some y) ha e =
    let hx : k ≤ x = ha x refl in let q : y ≡ k = cc in let m : min x y ≡ k = omega arith in ap Some m

module _ (st : List Meaning) (c : ℕ) where
  pub least_none : (ss : List ℕ) → ((s : ℕ) → member s ss ≡ true → next_key (nth st s).pairs c ≡ None) → least ss st c ≡ None
  least_none [] e = refl
  least_none (s ∷ ss) e =
      let a : next_key (nth st s).pairs c ≡ None = e s (grind (arith, tells)) in
      let ih : least ss st c ≡ None = least_none ss (λ x m. e x (grind (arith, tells))) in
      rw (a, ih)

  least_above : (k : ℕ) (ss : List ℕ) → ((s : ℕ) → member s ss ≡ true → (i : ℕ) → next_key (nth st s).pairs c ≡ Some i → k ≤ i) → (j : ℕ) → least ss st c ≡ Some j → k ≤ j
  least_above k [] e j n = grind (arith, tells)
  least_above k (s ∷ ss) e j n =
      nearer_above k j (next_key (nth st s).pairs c) (least ss st c) (e s (grind (arith, tells))) (least_above k ss (λ x m. e x (grind (arith, tells)))) n

  pub least_some : (k : ℕ) (ss : List ℕ) → ((s : ℕ) → member s ss ≡ true → (i : ℕ) → next_key (nth st s).pairs c ≡ Some i → k ≤ i) →
      (x : ℕ) → member x ss ≡ true → next_key (nth st x).pairs c ≡ Some k → least ss st c ≡ Some k
  least_some k [] e x m n = grind (arith, tells)
  least_some k (s ∷ ss) e x m n = elim (eqb_tells s x) [
    | inl t ↦ nearer_left k (next_key (nth st s).pairs c) (least ss st c) (rw t.1 n) (least_above k ss (λ y i. e y (grind (arith, tells))))
    | inr t ↦ nearer_right k (next_key (nth st s).pairs c) (least ss st c) (e s (grind (arith, tells)))
        (least_some k ss (λ y i. e y (grind (arith, tells))) x (grind (arith, tells)) n)
  ]
