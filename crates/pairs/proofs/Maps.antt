-- The lemmas of maps. Those on order come first, then look-up, then extensionality: two ascending
-- lists with equal look-ups are equal, from which the equations below it follow pointwise.
use Rattle.std.proofs.Common.{◌≡◌, ℕ, ◌+◌, ◌<◌, ◌≤◌, min, Bool, true, false, cond, ◌&&◌, eqb, leb, ◌⊎◌, List, [], ◌∷◌, length, is_some, Some, None, Option, sym, refl, ap, ◌∙◌, subst, ⊎_elim, arith}
use Rattle.std.proofs.lemmas.Bool.{cases_Bool, cond-true, cond-false, eqb-true}
use Rattle.std.proofs.lemmas.Bool.Decides.{nat_tests}
use Rattle.pairs.specs.Pairs.{Pair, find, has, insert, erase, next_key, keep, nearer, Above, Ascending}

-- an answer isn't both none and some, and holds one value
pub none_some : {A : Type 0} (o : Option A) (x : A) → o ≡ None → o ≡ Some x → ⊥
none_some o x a b = let y : ◌≡◌ {A = ℕ} 0 1 = cc in omega arith

pub some_same : {A : Type 0} (o : Option A) (x y : A) → o ≡ Some x → o ≡ Some y → x ≡ y
some_same o x y a b = cc

module _ {V : Type 0} where
  pub above_weaker : (a b : ℕ) (m : List (Pair V)) → a ≤ b → Above b m → Above a m
  above_weaker a b [] l h = tt
  above_weaker a b (p ∷ m) l h = (omega (arith, h.0), h.1)

  pub above_ascends : (b : ℕ) (m : List (Pair V)) → Above b m → Ascending m
  above_ascends b [] h = tt
  above_ascends b (p ∷ m) h = h.1

  pub find_above : (b k : ℕ) (m : List (Pair V)) → Above b m → k ≤ b → find m k ≡ None
  find_above b k [] h l = refl
  find_above b k (p ∷ m) h l =
      let ih : find m k ≡ None = find_above p.key k m h.1 (omega (arith, h.0)) in
      let n : b < p.key = h.0 in
      grind (arith, nat_tests)

  pub has_none : (m : List (Pair V)) (k : ℕ) → has m k ≡ false → find m k ≡ None
  has_none m k h = by (find m k) h
    where
      by : (o : Option V) → is_some o ≡ false → o ≡ None
      by None e = refl
      by (Some v) e = grind (arith, nat_tests)

  pub find_insert : (m : List (Pair V)) (k : ℕ) (v : V) (q : ℕ) → find (insert m k v) q ≡ cond (eqb k q) (Some v) (find m q)
  find_insert [] k v q = refl
  find_insert (p ∷ m) k v q =
      let ih : find (insert m k v) q ≡ cond (eqb k q) (Some v) (find m q) = find_insert m k v q in
      grind (arith, nat_tests)

  pub insert_above : (b : ℕ) (m : List (Pair V)) (k : ℕ) (v : V) → b < k → Above b m → Above b (insert m k v)
  insert_above b [] k v l h = (l, tt)
  insert_above b (p ∷ m) k v l h =
      let ih : p.key < k → Above p.key (insert m k v) = λ e. insert_above p.key m k v e h.1 in
      grind (arith, nat_tests)

  pub insert_ascends : (m : List (Pair V)) (k : ℕ) (v : V) → Ascending m → Ascending (insert m k v)
  insert_ascends [] k v h = tt
  insert_ascends (p ∷ m) k v h =
      let ih : p.key < k → Above p.key (insert m k v) = λ e. insert_above p.key m k v e h in
      let w : p.key ≡ k → Above k m = λ e. rw e at h in
      grind (arith, nat_tests)

  pub erase_above : (b : ℕ) (m : List (Pair V)) (k : ℕ) → Above b m → Above b (erase m k)
  erase_above b [] k h = tt
  erase_above b (p ∷ m) k h =
      let ih : Above p.key (erase m k) = erase_above p.key m k h.1 in
      let w : Above b m = above_weaker b p.key m (omega (arith, h.0)) h.1 in
      grind (arith, nat_tests)

  pub erase_ascends : (m : List (Pair V)) (k : ℕ) → Ascending m → Ascending (erase m k)
  erase_ascends [] k h = tt
  erase_ascends (p ∷ m) k h =
      let ih : Above p.key (erase m k) = erase_above p.key m k h in
      let w : Ascending m = above_ascends p.key m h in
      grind (arith, nat_tests)

  pub keep_above : (f : ℕ → Bool) (b : ℕ) (m : List (Pair V)) → Above b m → Above b (keep f m)
  keep_above f b [] h = tt
  keep_above f b (p ∷ m) h =
      let ih : Above p.key (keep f m) = keep_above f p.key m h.1 in
      let w : Above b (keep f m) = keep_above f b m (above_weaker b p.key m (omega (arith, h.0)) h.1) in
      grind (arith, nat_tests)

  pub keep_ascends : (f : ℕ → Bool) (m : List (Pair V)) → Ascending m → Ascending (keep f m)
  keep_ascends f [] h = tt
  keep_ascends f (p ∷ m) h =
      let ih : Above p.key (keep f m) = keep_above f p.key m h in
      let w : Ascending (keep f m) = keep_ascends f m (above_ascends p.key m h) in
      grind (arith, nat_tests)

  pub find_erase : (m : List (Pair V)) (k q : ℕ) → Ascending m → find (erase m k) q ≡ cond (eqb k q) None (find m q)
  find_erase [] k q h = grind (arith, nat_tests)
  find_erase (p ∷ m) k q h =
      let ih : find (erase m k) q ≡ cond (eqb k q) None (find m q) = find_erase m k q (above_ascends p.key m h) in
      let w : q ≤ p.key → find m q ≡ None = λ l. find_above p.key q m h l in
      grind (arith, nat_tests)

  pub find_keep : (f : ℕ → Bool) (m : List (Pair V)) (q : ℕ) → find (keep f m) q ≡ cond (f q) (find m q) None
  find_keep f [] q = grind (arith, nat_tests)
  find_keep f (p ∷ m) q =
      let ih : find (keep f m) q ≡ cond (f q) (find m q) None = find_keep f m q in
      grind (arith, nat_tests)

  pub ext : (a b : List (Pair V)) → Ascending a → Ascending b → ((q : ℕ) → find a q ≡ find b q) → a ≡ b
  ext [] [] ha hb e = refl
  ext [] (p ∷ b) ha hb e = let w : find {V = V} [] p.key ≡ find (p ∷ b) p.key = e p.key in grind (arith, nat_tests)
  ext (p ∷ a) [] ha hb e = let w : find (p ∷ a) p.key ≡ find {V = V} [] p.key = e p.key in grind (arith, nat_tests)
  ext (p ∷ a) (r ∷ b) ha hb e =
      let ep : find (p ∷ a) p.key ≡ find (r ∷ b) p.key = e p.key in
      let er : find (p ∷ a) r.key ≡ find (r ∷ b) r.key = e r.key in
      let wa : r.key ≤ p.key → find a r.key ≡ None = λ l. find_above p.key r.key a ha l in
      let wb : p.key ≤ r.key → find b p.key ≡ None = λ l. find_above r.key p.key b hb l in
      let k : p.key ≡ r.key = grind (arith, nat_tests) in
      let v : p.value ≡ r.value = grind (arith, nat_tests) in
      let t : (q : ℕ) → find a q ≡ find b q = λ q.
      let eq : find (p ∷ a) q ≡ find (r ∷ b) q = e q in
      let za : q ≤ p.key → find a q ≡ None = λ l. find_above p.key q a ha l in
      let zb : q ≤ r.key → find b q ≡ None = λ l. find_above r.key q b hb l in
      grind (arith, nat_tests) in
      let tl : a ≡ b = ext a b (above_ascends p.key a ha) (above_ascends r.key b hb) t in
      λ i. record { key = k i; value = v i } ∷ tl i

  pub keep_insert_yes : (f : ℕ → Bool) (m : List (Pair V)) (k : ℕ) (v : V) → Ascending m → f k ≡ true → keep f (insert m k v) ≡ insert (keep f m) k v
  keep_insert_yes f m k v h y =
      ext (keep f (insert m k v)) (insert (keep f m) k v) (keep_ascends f (insert m k v) (insert_ascends m k v h)) (insert_ascends (keep f m) k v (keep_ascends f m h))
      (λ q. let a = find_keep f (insert m k v) q in let b = find_insert m k v q in
      let c = find_insert (keep f m) k v q in let d = find_keep f m q in
      let s : k ≡ q → f q ≡ true = λ e. rw e at y in grind (arith, nat_tests))

  pub keep_insert_no : (f : ℕ → Bool) (m : List (Pair V)) (k : ℕ) (v : V) → Ascending m → f k ≡ false → keep f (insert m k v) ≡ keep f m
  keep_insert_no f m k v h y =
      ext (keep f (insert m k v)) (keep f m) (keep_ascends f (insert m k v) (insert_ascends m k v h)) (keep_ascends f m h)
      (λ q. let a = find_keep f (insert m k v) q in let b = find_insert m k v q in
      let d = find_keep f m q in
      let s : k ≡ q → f q ≡ false = λ e. rw e at y in grind (arith, nat_tests))

  pub keep_insert : (f : ℕ → Bool) (m : List (Pair V)) (k : ℕ) (v : V) → Ascending m → keep f (insert m k v) ≡ cond (f k) (insert (keep f m) k v) (keep f m)
  keep_insert f m k v h =
      let y : f k ≡ true → keep f (insert m k v) ≡ insert (keep f m) k v = keep_insert_yes f m k v h in
      let n : f k ≡ false → keep f (insert m k v) ≡ keep f m = keep_insert_no f m k v h in
      grind (arith, nat_tests)

  pub keep_erase : (f : ℕ → Bool) (m : List (Pair V)) (k : ℕ) → Ascending m → keep f (erase m k) ≡ erase (keep f m) k
  keep_erase f m k h =
      ext (keep f (erase m k)) (erase (keep f m) k) (keep_ascends f (erase m k) (erase_ascends m k h)) (erase_ascends (keep f m) k (keep_ascends f m h))
      (λ q. let a = find_keep f (erase m k) q in let b = find_erase m k q h in
      let c = find_erase (keep f m) k q (keep_ascends f m h) in let d = find_keep f m q in
      grind (arith, nat_tests))

  pub erase_absent : (m : List (Pair V)) (k : ℕ) → find m k ≡ None → erase m k ≡ m
  erase_absent [] k n = refl
  erase_absent (p ∷ m) k n =
      let ih : find m k ≡ None → erase m k ≡ m = erase_absent m k in
      grind (arith, nat_tests)

  -- a filter of a filter is one by both tests
  pub keep_keep : (f g : ℕ → Bool) (m : List (Pair V)) → keep f (keep g m) ≡ keep (λ k. f k && g k) m
  keep_keep f g [] = refl
  keep_keep f g (p ∷ m) =
      let ih : keep f (keep g m) ≡ keep (λ k. f k && g k) m = keep_keep f g m in
      grind (arith, nat_tests)

  -- two tests that agree on the keys held keep the same
  pub keep_same : (f g : ℕ → Bool) (m : List (Pair V)) → Ascending m → ((q : ℕ) → (find m q ≡ None) ⊎ (f q ≡ g q)) → keep f m ≡ keep g m
  keep_same f g m h e =
      ext (keep f m) (keep g m) (keep_ascends f m h) (keep_ascends g m h)
      (λ q. let a = find_keep f m q in let b = find_keep g m q in let c = e q in grind (arith, nat_tests))

  pub length_insert_new : (m : List (Pair V)) (k : ℕ) (v : V) → find m k ≡ None → length (insert m k v) ≡ length m + 1
  length_insert_new [] k v n = refl
  length_insert_new (p ∷ m) k v n =
      let ih : find m k ≡ None → length (insert m k v) ≡ length m + 1 = length_insert_new m k v in
      grind (arith, nat_tests)

  pub length_insert_old : (m : List (Pair V)) (k : ℕ) (v : V) → Ascending m → has m k ≡ true → length (insert m k v) ≡ length m
  length_insert_old [] k v h n = grind (arith, nat_tests)
  length_insert_old (p ∷ m) k v h n =
      let ih : has m k ≡ true → length (insert m k v) ≡ length m = length_insert_old m k v (above_ascends p.key m h) in
      let w : k ≤ p.key → find m k ≡ None = λ l. find_above p.key k m h l in
      grind (arith, nat_tests)

  pub length_insert : (m : List (Pair V)) (k : ℕ) (v : V) → Ascending m → length (insert m k v) ≡ length m + cond (has m k) 0 1
  length_insert m k v h =
      let new : find m k ≡ None → length (insert m k v) ≡ length m + 1 = length_insert_new m k v in
      let old : has m k ≡ true → length (insert m k v) ≡ length m = length_insert_old m k v h in
      let none : has m k ≡ false → find m k ≡ None = has_none m k in
      grind (arith, nat_tests)

  pub length_erase : (m : List (Pair V)) (k : ℕ) → length (erase m k) + cond (has m k) 1 0 ≡ length m
  length_erase [] k = refl
  length_erase (p ∷ m) k =
      let ih : length (erase m k) + cond (has m k) 1 0 ≡ length m = length_erase m k in
      grind (arith, nat_tests)

  pub length_keep : (f : ℕ → Bool) (m : List (Pair V)) → length (keep f m) ≤ length m
  length_keep f [] = omega arith
  length_keep f (p ∷ m) = let ih : length (keep f m) ≤ length m = length_keep f m in grind (arith, nat_tests)

  pub next_none : (m : List (Pair V)) (c q : ℕ) → next_key m c ≡ None → c ≤ q → find m q ≡ None
  next_none [] c q n l = refl
  next_none (p ∷ m) c q n l =
      let ih : next_key m c ≡ None → find m q ≡ None = λ e. next_none m c q e l in
      grind (arith, nat_tests)

  pub next_present : (m : List (Pair V)) (c k : ℕ) → next_key m c ≡ Some k → has m k ≡ true
  next_present [] c k n = grind (arith, nat_tests)
  next_present (p ∷ m) c k n =
      let ih : next_key m c ≡ Some k → has m k ≡ true = next_present m c k in
      grind (arith, nat_tests)

  pub next_bound : (m : List (Pair V)) (c k : ℕ) → next_key m c ≡ Some k → c ≤ k
  next_bound [] c k n = grind (arith, nat_tests)
  next_bound (p ∷ m) c k n =
      let ih : next_key m c ≡ Some k → c ≤ k = next_bound m c k in
      grind (arith, nat_tests)

  pub next_least : (m : List (Pair V)) (c k q : ℕ) → Ascending m → next_key m c ≡ Some k → c ≤ q → q < k → find m q ≡ None
  next_least [] c k q h n l s = refl
  next_least (p ∷ m) c k q h n l s =
      let ih : next_key m c ≡ Some k → find m q ≡ None = λ e. next_least m c k q (above_ascends p.key m h) e l s in
      let w : q ≤ p.key → find m q ≡ None = λ l. find_above p.key q m h l in
      grind (arith, nat_tests)

  -- the way back: a key that is present, at or above c, and least so, is the next
  pub next_is : (m : List (Pair V)) (c k : ℕ) → Ascending m → has m k ≡ true → c ≤ k → ((q : ℕ) → c ≤ q → q < k → find m q ≡ None) → next_key m c ≡ Some k
  next_is [] c k h p l e = grind (arith, nat_tests)
  next_is (p ∷ m) c k h b l e =
      let ih : has m k ≡ true → ((q : ℕ) → c ≤ q → q < k → find m q ≡ None) → next_key m c ≡ Some k = λ i. next_is m c k (above_ascends p.key m h) i l in
      let w : k ≤ p.key → find m k ≡ None = λ l. find_above p.key k m h l in
      let t : (q : ℕ) → c ≤ q → q < k → find m q ≡ None = λ q x y.
      let eq : find (p ∷ m) q ≡ None = e q x y in
      let z : q ≤ p.key → find m q ≡ None = λ l. find_above p.key q m h l in
      grind (arith, nat_tests) in
      let here : c ≤ p.key → p.key < k → find (p ∷ m) p.key ≡ None = e p.key in
      let ih2 : has m k ≡ true → next_key m c ≡ Some k = λ i. ih i t in
      grind (arith, nat_tests)

  pub next_none_is : (m : List (Pair V)) (c : ℕ) → ((q : ℕ) → c ≤ q → find m q ≡ None) → next_key m c ≡ None
  next_none_is [] c e = refl
  next_none_is (p ∷ m) c e =
      let here : c ≤ p.key → find (p ∷ m) p.key ≡ None = e p.key in
      let ih : p.key < c → next_key m c ≡ None = λ b. next_none_is m c (λ q l. let eq : find (p ∷ m) q ≡ None = e q l in grind (arith, nat_tests)) in
      grind (arith, nat_tests)

  -- a test that differs at k alone, among the keys held, and takes k in
  pub keep_gain : (f g : ℕ → Bool) (m : List (Pair V)) (k : ℕ) (v : V) → Ascending m → find m k ≡ Some v → g k ≡ true →
      ((q : ℕ) → (q ≡ k) ⊎ ((find m q ≡ None) ⊎ (f q ≡ g q))) → insert (keep f m) k v ≡ keep g m
  keep_gain f g m k v h y t e =
      ext (insert (keep f m) k v) (keep g m) (insert_ascends (keep f m) k v (keep_ascends f m h)) (keep_ascends g m h)
      (λ q. let a = find_insert (keep f m) k v q in let b = find_keep f m q in let c = find_keep g m q in let d = e q in grind (arith, nat_tests))

  -- and that leaves k out
  pub keep_lose : (f g : ℕ → Bool) (m : List (Pair V)) (k : ℕ) → Ascending m → g k ≡ false →
      ((q : ℕ) → (q ≡ k) ⊎ ((find m q ≡ None) ⊎ (f q ≡ g q))) → erase (keep f m) k ≡ keep g m
  keep_lose f g m k h t e =
      ext (erase (keep f m) k) (keep g m) (erase_ascends (keep f m) k (keep_ascends f m h)) (keep_ascends g m h)
      (λ q. let a = find_erase (keep f m) k q (keep_ascends f m h) in let b = find_keep f m q in let c = find_keep g m q in let d = e q in grind (arith, nat_tests))

  pub keep_nothing : (f : ℕ → Bool) (m : List (Pair V)) → ((q : ℕ) → f q ≡ false) → keep f m ≡ []
  keep_nothing f [] e = refl
  keep_nothing f (p ∷ m) e = let a : f p.key ≡ false = e p.key in let ih : keep f m ≡ [] = keep_nothing f m e in rw (a, ih)

  -- what holds of each pair still does
  pub insert_each : (P : ℕ → V → Type 0) (m : List (Pair V)) (k : ℕ) (v : V) → ((q : ℕ) (w : V) → find m q ≡ Some w → P q w) → P k v → (q : ℕ) (w : V) → find (insert m k v) q ≡ Some w → P q w
  insert_each P m k v all here q w e =
      let f = sym (find_insert m k v q) ∙ e in
      ⊎_elim
      (λ (d : eqb k q ≡ true). subst (λ x. P q x) (some_same _ v w (cond-true (eqb k q) (Some v) (find m q) d) f) (subst (λ x. P x v) (eqb-true k q d) here))
      (λ (d : eqb k q ≡ false). all q w (sym (cond-false (eqb k q) (Some v) (find m q) d) ∙ f))
      (cases_Bool (eqb k q))

  pub erase_each : (P : ℕ → V → Type 0) (m : List (Pair V)) (k : ℕ) → Ascending m → ((q : ℕ) (w : V) → find m q ≡ Some w → P q w) → (q : ℕ) (w : V) → find (erase m k) q ≡ Some w → P q w
  erase_each P m k h all q w e =
      let f = sym (find_erase m k q h) ∙ e in
      ⊎_elim
      (λ (d : eqb k q ≡ true). absurd (none_some _ w (cond-true (eqb k q) None (find m q) d) f))
      (λ (d : eqb k q ≡ false). all q w (sym (cond-false (eqb k q) None (find m q) d) ∙ f))
      (cases_Bool (eqb k q))

  -- the next key after an insertion: the inserted one, where that is nearer
  pub next_insert : (m : List (Pair V)) (j : ℕ) (v : V) (k : ℕ) → next_key (insert m j v) k ≡ nearer (cond (leb k j) (Some j) None) (next_key m k)
  next_insert [] j v k = grind (arith, nat_tests)
  next_insert (p ∷ m) j v k = let ih = next_insert m j v k in grind (arith, nat_tests)

pub nearer_assoc : (a b c : Option ℕ) → nearer (nearer a b) c ≡ nearer a (nearer b c)
nearer_assoc None b c = refl
nearer_assoc (Some x) None c = refl
nearer_assoc (Some x) (Some y) None = refl
nearer_assoc (Some x) (Some y) (Some z) = let e : min (min x y) z ≡ min x (min y z) = omega arith in ap Some e
