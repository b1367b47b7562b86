-- What records hold: the newest record of a key decides.
use Rattle.std.proofs.Common.{◌≡◌, ℕ, zero, suc, ◌+◌, ◌<◌, ◌≤◌, true, false, cond, eqb, List, [], ◌∷◌, Some, None, sym, refl, ap, ◌∙◌, subst, ⊎_elim, arith}
use Rattle.std.proofs.lemmas.Bool.{cond_both, cond-true, cond-false, cases_Bool, cases_lt, eq-eqb, ne_eqb, eqb-true}
use Rattle.pairs.specs.Pairs.{find, Ascending}
use Rattle.pairs.proofs.Maps.{find_insert, find_erase, insert_ascends, erase_ascends, none_some, some_same}
use Rattle.store.specs.declared.value.Value.{Value}
use Rattle.store.specs.Meaning.{FitsWords}
use Rattle.codec.specs.declared.Record.{Record}
use Rattle.codec.specs.Records.{FitsRecord}
use Rattle.log_theory.specs.Tape.{record_at, records, is_put, value_of, own, held, AllFit}
use Rattle.log_theory.specs.Laws.{NoneLater}

pub held_ascends : (rs : List Record) → Ascending (held rs)
held_ascends [] = tt
held_ascends (r ∷ rs) =
    cond_both (is_put r) _ _ Ascending (λ _. insert_ascends (held rs) r.key (value_of r) (held_ascends rs)) (λ _. erase_ascends (held rs) r.key (held_ascends rs))

pub find_held : (r : Record) (rs : List Record) (j : ℕ) → find (held (r ∷ rs)) j ≡ cond (eqb r.key j) (own r) (find (held rs) j)
find_held r rs j =
    ⊎_elim
    (λ (e : is_put r ≡ true).
    ap (λ z. find z j) (cond-true (is_put r) _ _ e) ∙ find_insert (held rs) r.key (value_of r) j
    ∙ ap (λ z. cond (eqb r.key j) z (find (held rs) j)) (sym (cond-true (is_put r) (Some (value_of r)) None e)))
    (λ (e : is_put r ≡ false).
    ap (λ z. find z j) (cond-false (is_put r) _ _ e) ∙ find_erase (held rs) r.key j (held_ascends rs)
    ∙ ap (λ z. cond (eqb r.key j) z (find (held rs) j)) (sym (cond-false (is_put r) (Some (value_of r)) None e)))
    (cases_Bool (is_put r))

pub last_decides : (bs : List ℕ) (n i : ℕ) → i < n → NoneLater bs n (i + 1) (record_at bs i).key → find (held (records bs n)) (record_at bs i).key ≡ own (record_at bs i)
last_decides bs zero i l h = absurd (omega arith)
last_decides bs (suc n) i l h =
    find_held (record_at bs n) (records bs n) (record_at bs i).key
    ∙ ⊎_elim
    (λ (m : i < n). cond-false (eqb (record_at bs n).key (record_at bs i).key) (own (record_at bs n)) _ (ne_eqb _ _ (h n (omega arith) (omega arith))) ∙ last_decides bs n i m (λ j a b. h j a (omega arith)))
    (λ (m : n ≤ i). let e : i ≡ n = omega arith in
    cond-true (eqb (record_at bs n).key (record_at bs i).key) (own (record_at bs n)) _ (eq-eqb _ _ (ap (λ z. (record_at bs z).key) (sym e))) ∙ ap (λ z. own (record_at bs z)) (sym e))
    (cases_lt i n)

pub unwritten_absent : (bs : List ℕ) (n k : ℕ) → NoneLater bs n 0 k → find (held (records bs n)) k ≡ None
unwritten_absent bs zero k h = refl
unwritten_absent bs (suc n) k h =
    find_held (record_at bs n) (records bs n) k ∙ cond-false (eqb (record_at bs n).key k) (own (record_at bs n)) _ (ne_eqb _ k (h n (omega arith) (omega arith)))
    ∙ unwritten_absent bs n k (λ j a l. h j a (omega arith))

-- what is found fits 64 bits
own_fits : (r : Record) (k : ℕ) (v : Value) → FitsRecord r → r.key ≡ k → own r ≡ Some v → FitsWords k v
own_fits r k v f e g = ⊎_elim
    (λ (p : is_put r ≡ true).
    let w : value_of r ≡ v = some_same (Some (value_of r)) (value_of r) v refl (sym (cond-true (is_put r) (Some (value_of r)) None p) ∙ g) in
    subst (λ z. FitsWords z v) e (subst (FitsWords r.key) w (record { key_fits = f.key_fits; a_fits = f.a_fits; b_fits = f.b_fits })))
    (λ (p : is_put r ≡ false). absurd (none_some (own r) v (cond-false (is_put r) (Some (value_of r)) None p) g))
    (cases_Bool (is_put r))

pub found_fits : (rs : List Record) (k : ℕ) (v : Value) → AllFit rs → find (held rs) k ≡ Some v → FitsWords k v
found_fits [] k v h e = absurd (none_some None v refl e)
found_fits (r ∷ rs) k v h e =
    let s = sym (find_held r rs k) ∙ e in
    ⊎_elim
    (λ (q : eqb r.key k ≡ true). own_fits r k v h.0 (eqb-true r.key k q) (sym (cond-true _ _ _ q) ∙ s))
    (λ (q : eqb r.key k ≡ false). found_fits rs k v h.1 (sym (cond-false _ _ _ q) ∙ s))
    (cases_Bool (eqb r.key k))
