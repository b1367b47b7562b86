-- The smallest key held that is not below another, found among the keys of the records.
use Rattle.std.proofs.Common.{◌≡◌, ℕ, ◌<◌, ◌≤◌, min, Bool, true, false, cond, ◌&&◌, eqb, leb, ◌⊎◌, List, [], ◌∷◌, map, is_some, None, sym, refl, ap, ◌∙◌, subst, inl, inr, ⊎_elim, arith}
use Rattle.std.proofs.lemmas.Bool.{false≢true, cond_both, cond-false, cases_Bool, cases_lt, eqb-true, and_parts, and_from, leb-true, le-leb}
use Rattle.std.specs.List.{filter, fold, reduce}
use Rattle.pairs.specs.Pairs.{Pair, find, has, next_key}
use Rattle.pairs.proofs.Maps.{has_none, next_is, next_none_is}
use Rattle.store.specs.declared.value.Value.{Value}
use Rattle.codec.specs.declared.Record.{Record}
use Rattle.log_theory.specs.Tape.{own, held}
use Rattle.log_theory.specs.Rows.{least_held}
use Rattle.log_theory.proofs.Holds.{held_ascends, find_held}

-- q is one of some keys
abbrev Among : ℕ → List ℕ → Type 0
Among q [] = ⊥
Among q (k ∷ ks) = (q ≡ k) ⊎ Among q ks

-- what passes a test is among the keys that pass, and what is among those passes
passing : (f : ℕ → Bool) (q : ℕ) (ks : List ℕ) → Among q ks → f q ≡ true → Among q (filter f ks)
passing f q [] m h = m
passing f q (k ∷ ks) m h = ⊎_elim
    (λ (e : q ≡ k). subst (λ b. Among q (cond b (k ∷ filter f ks) (filter f ks))) (sym (ap f (sym e) ∙ h)) (inl e))
    (λ (n : Among q ks). cond_both (f k) (k ∷ filter f ks) (filter f ks) (Among q) (λ _. inr (passing f q ks n h)) (λ _. passing f q ks n h))
    m

passed : (f : ℕ → Bool) (q : ℕ) (ks : List ℕ) → Among q (filter f ks) → f q ≡ true
passed f q [] m = absurd m
passed f q (k ∷ ks) m =
    cond_both (f k) (k ∷ filter f ks) (filter f ks) (λ z. Among q z → f q ≡ true)
    (λ t n. ⊎_elim (λ (e : q ≡ k). ap f e ∙ t) (λ (z : Among q (filter f ks)). passed f q ks z) n) (λ _ n. passed f q ks n) m

-- the least of some keys is one of them, and no other is below it
least_one : (x : ℕ) (ks : List ℕ) → Among (fold min x ks) (x ∷ ks)
least_one x [] = inl refl
least_one x (y ∷ ks) = ⊎_elim
    (λ (e : fold min (min x y) ks ≡ min x y). ⊎_elim (λ (l : x < y). inl (omega (arith, e))) (λ (l : y ≤ x). inr (inl (omega (arith, e)))) (cases_lt x y))
    (λ (n : Among (fold min (min x y) ks) ks). inr (inr n))
    (least_one (min x y) ks)

least_low : (q x : ℕ) (ks : List ℕ) → Among q (x ∷ ks) → fold min x ks ≤ q
least_low q x [] m = ⊎_elim (λ (e : q ≡ x). omega arith) (λ (n : ⊥). absurd n) m
least_low q x (y ∷ ks) m =
    let low = least_low (min x y) (min x y) ks (inl refl) in
    ⊎_elim (λ (e : q ≡ x). omega (arith, low)) (λ (n : (q ≡ y) ⊎ Among q ks). ⊎_elim (λ (e : q ≡ y). omega (arith, low)) (λ (z : Among q ks). least_low q (min x y) ks (inr z)) n) m

-- a key held is the key of a record
has_record : (rs : List Record) (q : ℕ) → has (held rs) q ≡ true → Among q (map (λ (r : Record). r.key) rs)
has_record [] q e = absurd (false≢true e)
has_record (r ∷ rs) q e = ⊎_elim
    (λ (d : eqb r.key q ≡ true). inl (sym (eqb-true r.key q d)))
    (λ (d : eqb r.key q ≡ false). inr (has_record rs q (ap is_some (sym (cond-false (eqb r.key q) (own r) (find (held rs) q) d) ∙ sym (find_held r rs q)) ∙ e)))
    (cases_Bool (eqb r.key q))

absent : (ps : List (Pair Value)) (q : ℕ) → (has ps q ≡ true → ⊥) → find ps q ≡ None
absent ps q h = ⊎_elim (λ (e : has ps q ≡ true). absurd (h e)) (λ (e : has ps q ≡ false). has_none ps q e) (cases_Bool (has ps q))

-- so the least of the keys that are held and not below k is the next key
least : (rs : List Record) (k : ℕ) (ks : List ℕ) → ((q : ℕ) → Among q ks → (leb k q && has (held rs) q) ≡ true) → ((q : ℕ) → k ≤ q → has (held rs) q ≡ true → Among q ks) → reduce min ks ≡ next_key (held rs) k
least rs k [] h g = sym (next_none_is (held rs) k (λ q l. absent (held rs) q (g q l)))
least rs k (x ∷ xs) h g =
    let m = fold min x xs in
    let p = and_parts (leb k m) _ (h m (least_one x xs)) in
    sym (next_is (held rs) k m (held_ascends rs) p.1 (leb-true k m p.0) (λ q l n. absent (held rs) q (λ e. let low = least_low q x xs (g q l e) in omega arith)))

pub least_is_next : (rs : List Record) (k : ℕ) → least_held (held rs) rs k ≡ next_key (held rs) k
least_is_next rs k =
    let ks = map (λ (r : Record). r.key) rs in
    let f : ℕ → Bool = λ q. leb k q && has (held rs) q in
    least rs k (filter f ks) (λ q m. passed f q ks m) (λ q l e. passing f q ks (has_record rs q e) (and_from _ _ (le-leb k q l) e))
