-- A key on the move: a full store takes nothing in; and the first store that holds a pair.
use Rattle.std.proofs.Common.{◌≡◌, ◌≢◌, ℕ, suc, ◌+◌, ◌<◌, ◌≤◌, true, eqb, List, [], ◌∷◌, length, set, Some, None, Err, Option, sym, refl, ap, ◌∙◌, inl, inr, arith}
use lib.Seq.{set-get_or}
use Rattle.std.specs.Option.{MatchOption}
use Rattle.std.proofs.lemmas.Bool.{cases_Bool, cond-true, cond-false, eqb-true, eqb-false}
use Rattle.std.proofs.lemmas.Option.{none-some}
use Rattle.pairs.specs.Pairs.{insert}
use Rattle.store.specs.Meaning.{Meaning, nothing}
use Rattle.store.specs.Outcomes.{put_meaning}
use Rattle.store.specs.Stores.{nth}
use Rattle.store.specs.declared.value.Value.{Value}
use Rattle.machine.specs.declared.answer.Moved.{Moved}
use Rattle.machine.specs.declared.fault.StoreRefusal.{StoreRefusal}
use Rattle.machine.specs.Lent.{full_for, first_holding, put_some}
use Rattle.walks.specs.Outcomes.{full_gained, carry_result, carry_result_in, carry_stores, carry_stores_in}

full_same : (x : Meaning) (k : ℕ) (v : Value) → full_for x k ≡ true → put_meaning x k v ≡ x
full_same x k v t = λ i. record { pairs = cond-true (full_for x k) x.pairs (insert x.pairs k v) t i; cap = x.cap }

full_stays : (g : Option ℕ) (s : ℕ) (st : List Meaning) (k : ℕ) (v : Value) → full_gained g st k ≡ Some s → put_some g st k v ≡ st
full_stays None s st k v e = refl
full_stays (Some x) s st k v e = elim (cases_Bool (full_for (nth st x) k)) [
  | inl t ↦ ap (λ (y : Meaning). set st x y) (full_same (nth st x) k v t) ∙ set-get_or st x nothing
  | inr t ↦ absurd (none-some s (sym (cond-false (full_for (nth st x) k) (Some x) None t) ∙ e))
]

-- a refused move changes nothing
pub refused_stays : (m : Moved) (st : List Meaning) (v : Value) (f : StoreRefusal) → Err f ≡ carry_result m st → put_some m.gained st m.key v ≡ carry_stores m st v
refused_stays m st v f e = go (full_gained m.gained st m.key) refl e
  where
    go : (o : Option ℕ) → full_gained m.gained st m.key ≡ o → Err f ≡ carry_result_in o m → put_some m.gained st m.key v ≡ carry_stores_in o m st v
    go None q h = absurd (let z : ◌≡◌ {A = ℕ} 0 1 = cc in omega arith)
    go (Some s) q h = full_stays m.gained s st m.key v q

-- r is the first number from i up to n at which f is not 0
abbrev FirstNot0 : (ℕ → ℕ) → ℕ → ℕ → Option ℕ → Type 0
FirstNot0 f i n r = MatchOption r ((k : ℕ) → i ≤ k → k < n → f k ≡ 0) (λ j. (i ≤ j) × (j < n) × (f j ≢ 0) × ((k : ℕ) → i ≤ k → k < j → f k ≡ 0))

not_here : (f : ℕ → ℕ) (i n : ℕ) (r : Option ℕ) → f i ≡ 0 → FirstNot0 f i n r → FirstNot0 f (i + 1) n r
not_here f i n None z m = λ k a b. m k (omega arith) b
not_here f i n (Some j) z (a, b, m, y) =
    let p : j ≢ i = λ q. m (ap f q ∙ z) in
    (omega arith, b, m, λ k c d. y k (omega arith) d)

here : (f : ℕ → ℕ) (i n : ℕ) (r : Option ℕ) → i < n → f i ≢ 0 → FirstNot0 f i n r → r ≡ Some i
here f i n None l p m = absurd (p (m i (omega arith) l))
here f i n (Some j) l p (a, b, m, y) =
    let q : i < j → ⊥ = λ c. p (y i (omega arith) c) in
    ap Some (omega arith)

-- the first store that holds a pair, f being how many pairs each store holds
held_from : (f : ℕ → ℕ) (i n : ℕ) (st : List Meaning) (r : Option ℕ) → n ≡ i + length st → ((k : ℕ) → f (i + k) ≡ length (nth st k).pairs)
    → FirstNot0 f i n r → r ≡ first_holding i st
held_from f i n [] None e h m = refl
held_from f i n [] (Some j) e h (a, b, m, y) = absurd (omega arith)
held_from f i n (x ∷ st) r e h m =
    let at : f i ≡ length x.pairs = ap f (omega arith) ∙ h 0 in
    elim (cases_Bool (eqb (length x.pairs) 0)) [
      | inl t ↦ held_from f (i + 1) n st r (omega arith) (λ k. ap f (omega arith) ∙ h (suc k)) (not_here f i n r (at ∙ eqb-true (length x.pairs) 0 t) m)
          ∙ sym (cond-true (eqb (length x.pairs) 0) _ _ t)
      | inr t ↦ here f i n r (omega arith) (λ z. eqb-false (length x.pairs) 0 t (sym at ∙ z)) m ∙ sym (cond-false (eqb (length x.pairs) 0) _ _ t)
    ]

pub held_first : (n : ℕ) (st : List Meaning) (r : Option ℕ) → n ≡ length st → FirstNot0 (λ k. length (nth st k).pairs) 0 n r → r ≡ first_holding 0 st
held_first n st r e m = held_from (λ k. length (nth st k).pairs) 0 n st r (omega (arith, e)) (λ k. ap (λ j. length (nth st j).pairs) (omega arith)) m
