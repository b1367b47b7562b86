-- How many keys are live, record by record: from the oldest on, and from the newest back.
use Rattle.std.proofs.Common.{◌≡◌, ℕ, ◌+◌, Bool, true, false, cond, not, ◌&&◌, ◌||◌, eqb, List, [], ◌∷◌, ◌++◌, length, None, Option, sym, refl, ap, ◌∙◌, ⊎_elim, add-zero, arith}
use Rattle.std.proofs.lemmas.Bool.{cond-true, cond-false, cases_Bool}
use Rattle.std.proofs.lemmas.Bool.Decides.{nat_tests}
use Rattle.pairs.specs.Pairs.{find, has, insert}
use Rattle.pairs.proofs.Maps.{ext, find_insert, insert_ascends, length_insert, length_insert_new, length_erase}
use Rattle.store.specs.declared.value.Value.{Value}
use Rattle.codec.specs.declared.Record.{Record}
use Rattle.log_theory.specs.Tape.{is_put, value_of, own, held}
use Rattle.log_theory.specs.Rows.{any_has}
use Rattle.log_theory.proofs.Holds.{held_ascends, find_held}

-- a put adds a key that is absent, any other record takes one away that is there
pub count_step : (r : Record) (rs : List Record) → length (held (r ∷ rs)) + cond (is_put r) 0 (cond (has (held rs) r.key) 1 0) ≡ length (held rs) + cond (is_put r) (cond (has (held rs) r.key) 0 1) 0
count_step r rs =
    let i = length_insert (held rs) r.key (value_of r) (held_ascends rs) in
    let e = length_erase (held rs) r.key in
    grind (arith, nat_tests)

-- a record behind the others decides where none of them has the key
find_oldest : (rs : List Record) (r : Record) (j : ℕ) → find (held (rs ++ r ∷ [])) j ≡ cond (any_has rs j) (find (held rs) j) (cond (eqb r.key j) (own r) None)
find_oldest [] r j = find_held r [] j
find_oldest (x ∷ rs) r j =
    find_held x (rs ++ r ∷ []) j ∙ ap (cond (eqb x.key j) (own x)) (find_oldest rs r j)
    ∙ either (eqb x.key j) (any_has rs j) (own x) (find (held rs) j) (cond (eqb r.key j) (own r) None)
    ∙ ap (λ z. cond (eqb x.key j || any_has rs j) z (cond (eqb r.key j) (own r) None)) (sym (find_held x rs j))
  where
    either : (e a : Bool) (o f c : Option Value) → cond e o (cond a f c) ≡ cond (e || a) (cond e o f) c
    either true a o f c = refl
    either false a o f c = refl

none_has : (rs : List Record) (j : ℕ) → any_has rs j ≡ false → find (held rs) j ≡ None
none_has [] j h = refl
none_has (x ∷ rs) j h =
    let f = find_held x rs j in
    let ih : any_has rs j ≡ false → find (held rs) j ≡ None = none_has rs j in
    grind (arith, nat_tests)

-- so it adds a pair where it is a put and none of them has its key
pub count_oldest : (rs : List Record) (r : Record) → length (held (rs ++ r ∷ [])) ≡ length (held rs) + cond (is_put r && not (any_has rs r.key)) 1 0
count_oldest rs r = ⊎_elim
    (λ (s : (is_put r && not (any_has rs r.key)) ≡ true).
    let same : held (rs ++ r ∷ []) ≡ insert (held rs) r.key (value_of r) =
    ext _ _ (held_ascends (rs ++ r ∷ [])) (insert_ascends (held rs) r.key (value_of r) (held_ascends rs))
    (λ j. let a = find_oldest rs r j in let b = find_insert (held rs) r.key (value_of r) j in
    let n : any_has rs j ≡ false → find (held rs) j ≡ None = none_has rs j in grind (arith, nat_tests)) in
    let none : any_has rs r.key ≡ false = grind (arith, nat_tests) in
    ap length same ∙ length_insert_new (held rs) r.key (value_of r) (none_has rs r.key none) ∙ ap (λ z. length (held rs) + z) (sym (cond-true _ 1 0 s)))
    (λ (s : (is_put r && not (any_has rs r.key)) ≡ false).
    let same : held (rs ++ r ∷ []) ≡ held rs =
    ext _ _ (held_ascends (rs ++ r ∷ [])) (held_ascends rs)
    (λ j. let a = find_oldest rs r j in
    let n : any_has rs j ≡ false → find (held rs) j ≡ None = none_has rs j in grind (arith, nat_tests)) in
    ap length same ∙ sym (add-zero _) ∙ ap (λ z. length (held rs) + z) (sym (cond-false _ 1 0 s)))
    (cases_Bool (is_put r && not (any_has rs r.key)))
