-- What cells hold: look-up by cell, how many pairs, and what a write does to both.
use Rattle.std.proofs.Common.{◌≡◌, ℕ, zero, suc, ◌+◌, ◌-◌, ◌%◌, ◌<◌, ◌≤◌, true, false, cond, eqb, List, [], ◌∷◌, length, set, Some, None, sym, refl, ap, ◌∙◌, subst, ⊎_elim, mod-lt, mod-eq_of_lt, arith}
use native.Mathlib.Nat.{add-mod_right}
use Rattle.std.proofs.lemmas.Bool.{eq-eqb, ne_eqb, cases_eq, cases_lt, cases_Bool, cond-true, cond-false}
use Rattle.store.specs.declared.value.Value.{Value}
use Rattle.store.specs.Meaning.{FitsWords}
use Rattle.pairs.specs.Pairs.{Pair, find, Ascending}
use Rattle.pairs.proofs.Maps.{find_insert, insert_ascends, length_insert_new, insert_each, none_some, some_same}
use Rattle.cells.specs.declared.Cell.{Cell}
use Rattle.cells.specs.declared.Cell.TheVariants.{Empty, Live, Gone}
use Rattle.cells.specs.declared.Walked.{Walked}
use Rattle.cells.specs.Walk.{cell_at, seat, walk_step, walk_from, sought, vacancy}
use Rattle.cells.specs.Held.{held, held_with, live_one, live_count, Distinct, Worded}
use Rattle.cells.proofs.Steps.{Found, Other, Idle, free_some}

pub found_distinct : (cs : List Cell) → Found cs → Distinct cs
found_distinct cs h p q k v w a b = some_same (sought cs k) p q (h p k v a) (h q k w b)

distinct_tail : (c : Cell) (cs : List Cell) → Distinct (c ∷ cs) → Distinct cs
distinct_tail c cs h p q k v w a b = let e : suc p ≡ suc q = h (suc p) (suc q) k v w a b in omega arith

-- no cell holds k
abbrev pub Without : List Cell → ℕ → Type 0
Without cs k = (p : ℕ) (v : Value) → cell_at cs p ≡ Live k v → ⊥

pub held_ascending : (cs : List Cell) → Ascending (held cs)
held_ascending [] = tt
held_ascending (Empty ∷ cs) = held_ascending cs
held_ascending (Live k v ∷ cs) = insert_ascends (held cs) k v (held_ascending cs)
held_ascending (Gone ∷ cs) = held_ascending cs

find_other : (k : ℕ) (c : Cell) (ps : List (Pair Value)) → Other k c → find (held_with c ps) k ≡ find ps k
find_other k Empty ps h = refl
find_other k (Live j v) ps h = find_insert ps j v k ∙ cond-false (eqb j k) (Some v) (find ps k) h
find_other k Gone ps h = refl

without_other : (k : ℕ) (c : Cell) → ((v : Value) → c ≡ Live k v → ⊥) → Other k c
without_other k Empty h = tt
without_other k (Live j v) h = ne_eqb j k (λ e. h v (ap (λ x. Live x v) e))
without_other k Gone h = tt

pub held_none : (cs : List Cell) (k : ℕ) → Without cs k → find (held cs) k ≡ None
held_none [] k h = refl
held_none (c ∷ cs) k h = find_other k c (held cs) (without_other k c (h 0)) ∙ held_none cs k (λ p v e. h (suc p) v e)

pub held_at : (cs : List Cell) → Distinct cs → (p k : ℕ) (v : Value) → cell_at cs p ≡ Live k v → find (held cs) k ≡ Some v
held_at [] a p k v e = absurd (let y : ◌≡◌ {A = ℕ} 0 1 = cc in omega arith)
held_at (c ∷ cs) a zero k v e =
    ap (λ x. find (held_with x (held cs)) k) e ∙ find_insert (held cs) k v k ∙ cond-true (eqb k k) (Some v) (find (held cs) k) (eq-eqb k k refl)
held_at (c ∷ cs) a (suc p) k v e =
    find_other k c (held cs) (without_other k c (λ w d. let z : zero ≡ suc p = a zero (suc p) k w v d e in omega arith))
    ∙ held_at cs (distinct_tail c cs a) p k v e

-- what is held fits its words
pub held_words : (cs : List Cell) → Worded cs → (k : ℕ) (v : Value) → find (held cs) k ≡ Some v → FitsWords k v
held_words [] h k v e = absurd (none_some None v refl e)
held_words (Empty ∷ cs) h k v e = held_words cs (λ p. h (suc p)) k v e
held_words (Live j w ∷ cs) h k v e = insert_each FitsWords (held cs) j w (held_words cs (λ p. h (suc p))) (h 0 j w refl) k v e
held_words (Gone ∷ cs) h k v e = held_words cs (λ p. h (suc p)) k v e

-- a write leaves what another key has
pub find_set : (cs : List Cell) (p : ℕ) (c : Cell) (k : ℕ) → Other k c → Other k (cell_at cs p) → find (held (set cs p c)) k ≡ find (held cs) k
find_set [] p c k h o = refl
find_set (d ∷ cs) zero c k h o = find_other k c (held cs) h ∙ sym (find_other k d (held cs) o)
find_set (Empty ∷ cs) (suc p) c k h o = find_set cs p c k h o
find_set (Live j v ∷ cs) (suc p) c k h o =
    find_insert (held (set cs p c)) j v k ∙ ap (cond (eqb j k) (Some v)) (find_set cs p c k h o) ∙ sym (find_insert (held cs) j v k)
find_set (Gone ∷ cs) (suc p) c k h o = find_set cs p c k h o

-- how many

pub count_held : (cs : List Cell) → Distinct cs → live_count cs ≡ length (held cs)
count_held [] a = refl
count_held (Empty ∷ cs) a = let ih = count_held cs (distinct_tail Empty cs a) in omega arith
count_held (Live k v ∷ cs) a =
    let ih = count_held cs (distinct_tail (Live k v) cs a) in
    let w : Without cs k = λ p u e. let z : zero ≡ suc p = a zero (suc p) k v u refl e in omega arith in
    let s = length_insert_new (held cs) k v (held_none cs k w) in omega arith
count_held (Gone ∷ cs) a = let ih = count_held cs (distinct_tail Gone cs a) in omega arith

pub count_set : (cs : List Cell) (p : ℕ) (c : Cell) → p < length cs → live_count (set cs p c) + live_one (cell_at cs p) ≡ live_count cs + live_one c
count_set [] p c l = omega arith
count_set (d ∷ cs) zero c l = omega arith
count_set (d ∷ cs) (suc p) c l = let ih = count_set cs p c (omega arith) in omega arith

count_full : (cs : List Cell) → ((p : ℕ) → p < length cs → live_one (cell_at cs p) ≡ 1) → live_count cs ≡ length cs
count_full [] h = refl
count_full (c ∷ cs) h =
    let e = h zero (omega arith) in
    let ih = count_full cs (λ p l. h (suc p) (omega arith)) in omega arith

-- the walk passes every cell
pub seat_onto : (n k p : ℕ) → p < n → (i : ℕ) × (i < n) × (seat n k i ≡ p)
seat_onto n k p l =
    let h : k % n < n = mod-lt k (omega arith) in
    ⊎_elim
    (λ (b : p < k % n).
    let e : k % n + (p + n - k % n) ≡ p + n = omega arith in
    (p + n - k % n, omega arith, ap (λ x. x % n) e ∙ add-mod_right p n ∙ mod-eq_of_lt l))
    (λ (b : k % n ≤ p).
    let e : k % n + (p - k % n) ≡ p = omega arith in
    (p - k % n, omega arith, ap (λ x. x % n) e ∙ mod-eq_of_lt l))
    (cases_lt p (k % n))

-- a walk that met neither its key nor a cell that is not live has passed live cells only
step_nothing : (k : ℕ) (c : Cell) (s : ℕ) (rest : Walked) → (walk_step k c s rest).found ≡ None → (walk_step k c s rest).free ≡ None → (live_one c ≡ 1) × ((rest.found ≡ None) × (rest.free ≡ None))
step_nothing k Empty s rest f h = absurd (none_some _ s h refl)
step_nothing k (Live j v) s rest f h =
    ⊎_elim
    (λ (e : eqb j k ≡ true). absurd (none_some _ s f (cond-true (eqb j k) (Some s) rest.found e)))
    (λ (e : eqb j k ≡ false). (refl, (sym (cond-false (eqb j k) (Some s) rest.found e) ∙ f, sym (cond-false (eqb j k) None rest.free e) ∙ h)))
    (cases_Bool (eqb j k))
step_nothing k Gone s rest f h = absurd (none_some _ s h refl)

nothing_passed : (n : ℕ) (cs : List Cell) (k f i : ℕ) → (walk_from n cs k f i).found ≡ None → (walk_from n cs k f i).free ≡ None → (d : ℕ) → d < f → live_one (cell_at cs (seat n k (i + d))) ≡ 1
nothing_passed n cs k zero i g h d l = omega arith
nothing_passed n cs k (suc f) i g h d l =
    let r = step_nothing k (cell_at cs (seat n k i)) (seat n k i) (walk_from n cs k f (i + 1)) g h in
    ⊎_elim
    (λ (e : d ≡ 0). let e' : i ≡ i + d = omega arith in subst (λ x. live_one (cell_at cs (seat n k x)) ≡ 1) e' r.0)
    (λ (ne : d ≡ 0 → ⊥). let e' : (i + 1) + (d - 1) ≡ i + d = omega arith in
    subst (λ x. live_one (cell_at cs (seat n k x)) ≡ 1) e' (nothing_passed n cs k f (i + 1) r.1.0 r.1.1 (d - 1) (omega arith)))
    (cases_eq d 0)

pub vacancy_none : (cs : List Cell) (k : ℕ) → sought cs k ≡ None → vacancy cs k ≡ None → live_count cs ≡ length cs
vacancy_none cs k g h =
    count_full cs (λ p l.
    let o = seat_onto (length cs) k p l in
    let e : 0 + o.0 ≡ o.0 = omega arith in
    subst (λ x. live_one (cell_at cs x) ≡ 1) (ap (seat (length cs) k) e ∙ o.2)
    (nothing_passed (length cs) cs k (length cs) 0 g h o.0 o.1))

pub free_sound : (n : ℕ) (cs : List Cell) (k : ℕ) → 0 < n → (f i p : ℕ) → (walk_from n cs k f i).free ≡ Some p → (p < n) × Idle (cell_at cs p)
free_sound n cs k z zero i p h = absurd (none_some None p refl h)
free_sound n cs k z (suc f) i p h =
    ⊎_elim
    (λ w. (subst (λ x. x < n) w.0 (mod-lt (k % n + i) z), subst (λ x. Idle (cell_at cs x)) w.0 w.1))
    (λ w. free_sound n cs k z f (i + 1) p w.3)
    (free_some k (cell_at cs (seat n k i)) (seat n k i) (walk_from n cs k f (i + 1)) p h)
