-- A walk over a map by its next keys lists its pairs in order.
use Rattle.std.proofs.Common.{◌≡◌, ℕ, ◌+◌, ◌<◌, ◌≤◌, true, false, eqb, leb, ◌⊎◌, List, [], ◌∷◌, Some, None, Option, sym, refl, ap, ◌∙◌, inl, inr, ⊎_elim, arith, ◌^◌, is_some}
use Rattle.std.specs.Option.{SomeIff}
use Rattle.std.proofs.lemmas.Bool.{false≢true, cond-true, cond-false, cases_Bool, leb-true, leb-false, le-leb, lt-leb, eq-eqb, ne_eqb}
use Rattle.std.proofs.lemmas.Bool.Decides.{nat_tests}
use Rattle.pairs.specs.Pairs.{Pair, find, next_key, Above, Ascending}
use Rattle.store.specs.declared.value.Value.{Value}
use Rattle.log_theory.specs.Tape.{Tape, pairs_of, Standing}
use Rattle.log_theory.proofs.Calls.{standing_lawful}
use Rattle.inspection.specs.Left.{from_on, left_from}
use Rattle.pairs.proofs.Maps.{above_ascends, keep_same, keep_nothing, next_bound, next_present, none_some, some_same}

module _ {V : Type 0} where
  pub from_zero : (ps : List (Pair V)) → from_on 0 ps ≡ ps
  from_zero [] = refl
  from_zero (p ∷ ps) = cond-true (leb 0 p.key) _ _ (le-leb 0 p.key (omega arith)) ∙ ap (λ z. p ∷ z) (from_zero ps)

  from_below : (b c : ℕ) (ps : List (Pair V)) → Above b ps → c ≤ b + 1 → from_on c ps ≡ ps
  from_below b c [] h l = refl
  from_below b c (p ∷ ps) h l =
      let k = h.0 in
      cond-true (leb c p.key) _ _ (le-leb c p.key (omega arith)) ∙ ap (λ z. p ∷ z) (from_below p.key c ps h.1 (omega arith))

  pub from_next : (ps : List (Pair V)) (c k : ℕ) (v : V) → Ascending ps → next_key ps c ≡ Some k → find ps k ≡ Some v → from_on c ps ≡ record { key = k; value = v } ∷ from_on (k + 1) ps
  from_next [] c k v a n f = absurd (none_some None k refl n)
  from_next (p ∷ ps) c k v a n f = ⊎_elim
      (λ (t : leb c p.key ≡ true).
      let e : p.key ≡ k = some_same (Some p.key) p.key k refl (sym (cond-true (leb c p.key) (Some p.key) (next_key ps c) t) ∙ n) in
      let w : p.value ≡ v = some_same (Some p.value) p.value v refl (sym (cond-true (eqb p.key k) (Some p.value) (find ps k) (eq-eqb p.key k e)) ∙ f) in
      let l = leb-true c p.key t in
      let q : p ≡ record { key = k; value = v } = λ i. record { key = e i; value = w i } in
      cond-true (leb c p.key) _ _ t ∙ ap (λ z. p ∷ z) (from_below p.key c ps a (omega arith)) ∙ ap (λ z. z ∷ ps) q
      ∙ ap (λ z. record { key = k; value = v } ∷ z) (sym (cond-false (leb (k + 1) p.key) (p ∷ from_on (k + 1) ps) (from_on (k + 1) ps) (lt-leb (k + 1) p.key (omega arith)) ∙ from_below p.key (k + 1) ps a (omega arith))))
      (λ (t : leb c p.key ≡ false).
      let l = leb-false c p.key t in
      let n' : next_key ps c ≡ Some k = sym (cond-false (leb c p.key) (Some p.key) (next_key ps c) t) ∙ n in
      let m : c ≤ k = next_bound ps c k n' in
      let f' : find ps k ≡ Some v = sym (cond-false (eqb p.key k) (Some p.value) (find ps k) (ne_eqb p.key k (λ e. omega arith))) ∙ f in
      cond-false (leb c p.key) _ _ t ∙ from_next ps c k v (above_ascends p.key ps a) n' f'
      ∙ ap (λ z. record { key = k; value = v } ∷ z) (sym (cond-false (leb (k + 1) p.key) (p ∷ from_on (k + 1) ps) (from_on (k + 1) ps) (lt-leb (k + 1) p.key (omega arith)))))
      (cases_Bool (leb c p.key))

  pub from_none : (ps : List (Pair V)) (c : ℕ) → next_key ps c ≡ None → from_on c ps ≡ []
  from_none [] c n = refl
  from_none (p ∷ ps) c n =
      let ih : next_key ps c ≡ None → from_on c ps ≡ [] = from_none ps c in
      grind (arith, nat_tests)

  -- past every key there is nothing
  pub from_past : (ps : List (Pair V)) (b : ℕ) → Ascending ps → ((q : ℕ) (v : V) → find ps q ≡ Some v → q < b) → from_on b ps ≡ []
  from_past ps b a h = keep_same (leb b) (λ _. false) ps a (λ q. beyond q (find ps q) refl) ∙ keep_nothing (λ _. false) ps (λ _. refl)
    where
      beyond : (q : ℕ) (o : Option V) → find ps q ≡ o → (find ps q ≡ None) ⊎ (leb b q ≡ false)
      beyond q None e = inl e
      beyond q (Some v) e = inr (lt-leb b q (h q v e))

-- where a log's next key is, and its value, the walk goes on behind the key, as long as there are keys
pub walk_on : (t : Tape) (cap c k : ℕ) (v : Value) (o : Option ℕ) → Standing t cap → next_key (pairs_of t) c ≡ Some k → find (pairs_of t) k ≡ Some v →
    SomeIff o (k + 1 < 2 ^ 64) (k + 1) → from_on c (pairs_of t) ≡ record { key = k; value = v } ∷ left_from o (pairs_of t)
walk_on t cap c k v o s n f m =
    let l = standing_lawful t cap s in
    let one = from_next (pairs_of t) c k v l.ordered n f in
    one ∙ ap (λ z. record { key = k; value = v } ∷ z) (rest o m)
  where
    rest : (o : Option ℕ) → SomeIff o (k + 1 < 2 ^ 64) (k + 1) → from_on (k + 1) (pairs_of t) ≡ left_from o (pairs_of t)
    rest None h = from_past (pairs_of t) (k + 1) (standing_lawful t cap s).ordered (λ q w e. let fit = ((standing_lawful t cap s).words q w e).key_fits in grind arith)
    rest (Some n) h = ap (λ u. from_on u (pairs_of t)) (sym h.1)

-- a next key has a value
pub next_has : {V : Type 0} (ps : List (Pair V)) (c k : ℕ) → next_key ps c ≡ Some k → find ps k ≡ None → ⊥
next_has ps c k n f = false≢true (ap is_some (sym f) ∙ next_present ps c k n)
