-- A row of slots is what the bytes have at the places of its slots.
use Rattle.std.proofs.Common.{◌≡◌, ℕ, zero, suc, ◌+◌, ◌-◌, ◌*◌, ◌<◌, ◌≤◌, Bool, true, false, cond, not, ◌&&◌, ◌||◌, eqb, Some, List, [], ◌∷◌, ◌++◌, length, get_or, take, drop, map, reverse, sym, refl, ap, ◌∙◌, add-one, zero-add, arith, drop-cons, take-suc}
use Rattle.std.proofs.lemmas.List.{drop-drop, reverse-append, map_push}
use Rattle.std.proofs.lemmas.List.Folds.{list_any-append}
use Rattle.std.proofs.Math.Seq.{take-length}
use Rattle.std.proofs.Math.ListN.{drop_of_length-le}
use Rattle.std.proofs.lemmas.Bool.{cond_both, cond-true, cond-false}
use Rattle.std.proofs.lemmas.Bool.Decides.{nat_tests}
use Rattle.std.specs.Prelude.{count_by}
use Rattle.std.specs.Option.{option_and_then}
use Rattle.std.specs.List.{find as first, fold, range_with_len}
use Rattle.pairs.specs.Pairs.{find, has}
use Rattle.codec.specs.declared.Record.{Record}
use Rattle.codec.specs.Records.{decoded}
use Rattle.log_theory.specs.Tape.{slot_bytes, record_at, records, is_put, own, held}
use Rattle.log_theory.specs.Moves.{recurs, superseded, stays, superseded_count}
use Rattle.log_theory.specs.Rows.{row, in_row, newest_first, any_has, superseded_in, stays_in, superseded_total, staying_total}
use Rattle.log_theory.proofs.Holds.{find_held}
use Rattle.log_theory.proofs.Counts.{count_step, count_oldest}

pub length_row : (bs : List ℕ) (n : ℕ) → length (row bs n) ≡ n
length_row bs zero = refl
length_row bs (suc n) = ap suc (length_row (drop 32 bs) n)

-- the first slots of a row
pub take_row : (bs : List ℕ) (m n : ℕ) → m ≤ n → take m (row bs n) ≡ row bs m
take_row bs zero n l = refl
take_row bs (suc m) zero l = absurd (omega arith)
take_row bs (suc m) (suc n) l = ap (λ z. take 32 bs ∷ z) (take_row (drop 32 bs) m n (omega arith))

pub slot_in_row : (bs : List ℕ) (n i : ℕ) → i < n → get_or (row bs n) i [] ≡ slot_bytes bs i
slot_in_row bs zero i l = absurd (omega arith)
slot_in_row bs (suc n) zero l = refl
slot_in_row bs (suc n) (suc i) l =
    slot_in_row (drop 32 bs) n i (omega arith) ∙ ap (take 32) (drop-drop (32 * i) 32 bs ∙ ap (λ m. drop m bs) (let z : 32 + 32 * i ≡ 32 * suc i = omega arith in z))

row_more : (bs : List ℕ) (n : ℕ) → row bs (suc n) ≡ row bs n ++ slot_bytes bs n ∷ []
row_more bs zero = refl
row_more bs (suc n) =
    ap (λ z. take 32 bs ∷ z) (row_more (drop 32 bs) n)
    ∙ ap (λ z. take 32 bs ∷ (row (drop 32 bs) n ++ take 32 z ∷ [])) (drop-drop (32 * n) 32 bs ∙ ap (λ m. drop m bs) (let z : 32 + 32 * n ≡ 32 * suc n = omega arith in z))

pub newest_is_records : (bs : List ℕ) (n : ℕ) → newest_first (row bs n) ≡ records bs n
newest_is_records bs zero = refl
newest_is_records bs (suc n) =
    ap newest_first (row_more bs n) ∙ ap (map decoded) (reverse-append (row bs n) (slot_bytes bs n ∷ []))
    ∙ ap (λ z. record_at bs n ∷ z) (newest_is_records bs n)

-- a walk over the later slots
any_recurs : (bs : List ℕ) (d n i k : ℕ) → n ≡ i + d → any_has (in_row (drop i (row bs n))) k ≡ recurs bs i d k
any_recurs bs zero n i k e = ap (λ z. any_has (in_row z) k) (drop_of_length-le (row bs n) (let l = length_row bs n in omega arith))
any_recurs bs (suc d) n i k e =
    ap (λ z. any_has (in_row z) k) (drop-cons (row bs n) i [] (let l = length_row bs n in omega arith))
    ∙ ap (λ z. eqb (decoded z).key k || any_has (in_row (drop (suc i) (row bs n))) k) (slot_in_row bs n i (omega arith))
    ∙ ap (λ z. eqb (record_at bs i).key k || any_has (in_row (drop z (row bs n))) k) (sym (add-one i))
    ∙ ap (λ z. eqb (record_at bs i).key k || z) (any_recurs bs d n (i + 1) k (omega arith))

pub superseded_row : (bs : List ℕ) (n i : ℕ) → i < n → superseded_in (row bs n) i ≡ superseded bs n i
superseded_row bs n i l =
    ap (λ z. any_has (in_row (drop (i + 1) (row bs n))) (decoded z).key) (slot_in_row bs n i l)
    ∙ any_recurs bs (n - (i + 1)) n (i + 1) (record_at bs i).key (omega arith)

pub stays_row : (bs : List ℕ) (n i : ℕ) → i < n → stays_in (row bs n) i ≡ stays bs n i
stays_row bs n i l =
    ap (λ z. is_put (decoded z) && not (superseded_in (row bs n) i)) (slot_in_row bs n i l)
    ∙ ap (λ z. is_put (record_at bs i) && not z) (superseded_row bs n i l)

-- the newest record that has a key decides
pub found : (rs : List Record) (k : ℕ) → find (held rs) k ≡ option_and_then own (first (λ (r : Record). eqb r.key k) rs)
found [] k = refl
found (r ∷ rs) k =
    find_held r rs k ∙ ap (cond (eqb r.key k) (own r)) (found rs k)
    ∙ cond_both (eqb r.key k) (Some r) (first (λ (x : Record). eqb x.key k) rs) (λ o. cond (eqb r.key k) (own r) (option_and_then own (first (λ (x : Record). eqb x.key k) rs)) ≡ option_and_then own o) (λ e. cond-true _ _ _ e) (λ e. cond-false _ _ _ e)

-- a count over the first numbers, by a function that counts one at a time
counted : (p : ℕ → Bool) (f : ℕ → ℕ) (n a d : ℕ) → n ≡ a + d → ((m : ℕ) → m < n → f (suc m) ≡ cond (p m) (f m + 1) (f m)) → fold (λ t x. t + cond (p x) 1 0) (f a) (range_with_len a d) ≡ f n
counted p f n a zero l h = ap f (omega arith)
counted p f n a (suc d) l h =
    let e : f a + cond (p a) 1 0 ≡ f (a + 1) = grind (arith, nat_tests, h a (omega arith), add-one a) in
    ap (λ z. fold (λ t x. t + cond (p x) 1 0) z (range_with_len (a + 1) d)) e ∙ counted p f n (a + 1) d (omega arith) h

pub superseded_row_total : (bs : List ℕ) (n : ℕ) → superseded_total (row bs n) ≡ superseded_count bs n n
superseded_row_total bs n =
    ap (λ z. count_by (superseded_in (row bs n)) (range_with_len 0 z)) (length_row bs n)
    ∙ counted (superseded_in (row bs n)) (superseded_count bs n) n 0 n (omega arith) (λ m l. ap (λ b. cond b (superseded_count bs n m + 1) (superseded_count bs n m)) (sym (superseded_row bs n m l)))

any_newest : (ss : List (List ℕ)) (k : ℕ) → any_has (newest_first ss) k ≡ any_has (in_row ss) k
any_newest [] k = refl
any_newest (x ∷ ss) k =
    ap (λ z. any_has (map decoded z) k) (reverse-append (x ∷ []) ss) ∙ ap (λ z. any_has z k) (map_push decoded (reverse ss) x)
    ∙ list_any-append (λ (r : Record). eqb r.key k) (newest_first ss) (decoded x ∷ []) ∙ ap (λ z. z || (eqb (decoded x).key k || false)) (any_newest ss k)
    ∙ turned (any_has (in_row ss) k) (eqb (decoded x).key k)
  where
    turned : (a b : Bool) → (a || (b || false)) ≡ (b || a)
    turned true true = refl
    turned true false = refl
    turned false true = refl
    turned false false = refl

-- as many slots stay as there are pairs: from the last slot back, each that stays adds one
stays_more : (ss : List (List ℕ)) (i : ℕ) → i < length ss → length (held (newest_first (drop i ss))) ≡ length (held (newest_first (drop (i + 1) ss))) + cond (stays_in ss i) 1 0
stays_more ss i l =
    let x = get_or ss i [] in
    let later = drop (i + 1) ss in
    ap (λ z. length (held (newest_first z))) (drop-cons ss i [] l ∙ ap (λ m. x ∷ drop m ss) (sym (add-one i)))
    ∙ ap (λ z. length (held (map decoded z))) (reverse-append (x ∷ []) later) ∙ ap (λ z. length (held z)) (map_push decoded (reverse later) x)
    ∙ count_oldest (newest_first later) (decoded x)
    ∙ ap (λ b. length (held (newest_first later)) + cond (is_put (decoded x) && not b) 1 0) (any_newest later (decoded x).key)

stays_from : (ss : List (List ℕ)) (t a d : ℕ) → length ss ≡ a + d → fold (λ t x. t + cond (stays_in ss x) 1 0) t (range_with_len a d) ≡ t + length (held (newest_first (drop a ss)))
stays_from ss t a zero e =
    let none : length (held (newest_first (drop a ss))) ≡ 0 = ap (λ z. length (held (newest_first z))) (drop_of_length-le ss (omega arith)) in omega arith
stays_from ss t a (suc d) e = let m = stays_more ss a (omega arith) in stays_from ss (t + cond (stays_in ss a) 1 0) (a + 1) d (omega arith) ∙ omega arith

live_total : (ss : List (List ℕ)) → staying_total ss ≡ length (held (newest_first ss))
live_total ss = stays_from ss 0 0 (length ss) (omega arith) ∙ zero-add _

pub live_row_total : (bs : List ℕ) (n : ℕ) → staying_total (row bs n) ≡ length (held (records bs n))
live_row_total bs n = live_total (row bs n) ∙ ap (λ z. length (held z)) (newest_is_records bs n)

-- how many pairs the first slots of a row leave
abbrev pub live_before : List (List ℕ) → ℕ → ℕ
live_before ss i = length (held (newest_first (take i ss)))

-- one slot more: a put adds its pair, and its key's pair before, if there is one, is gone
pub live_more : (ss : List (List ℕ)) (i : ℕ) (r : Record) → i < length ss → r ≡ decoded (get_or ss i []) → live_before ss (i + 1) + cond (has (held (newest_first (take i ss))) r.key) 1 0 ≡ live_before ss i + cond (is_put r) 1 0
live_more ss i r l e =
    let x = get_or ss i [] in
    let older = newest_first (take i ss) in
    let step : length (held (r ∷ older)) + cond (has (held older) r.key) 1 0 ≡ length (held older) + cond (is_put r) 1 0 =
    one_more (is_put r) (has (held older) r.key) _ _ (count_step r older) in
    ap (λ z. length (held (newest_first z)) + cond (has (held older) r.key) 1 0) (ap (λ m. take m ss) (add-one i) ∙ take-suc ss i [] l)
    ∙ ap (λ z. length (held (map decoded z)) + cond (has (held older) r.key) 1 0) (reverse-append (take i ss) (x ∷ []))
    ∙ ap (λ z. length (held (z ∷ older)) + cond (has (held older) r.key) 1 0) (sym e) ∙ step
  where
    one_more : (t b : Bool) (l l' : ℕ) → l' + cond t 0 (cond b 1 0) ≡ l + cond t (cond b 0 1) 0 → l' + cond b 1 0 ≡ l + cond t 1 0
    one_more true true l l' e = omega arith
    one_more true false l l' e = omega arith
    one_more false true l l' e = omega arith
    one_more false false l l' e = omega arith

pub live_most : (ss : List (List ℕ)) (i : ℕ) → i ≤ length ss → live_before ss i ≤ i
live_most ss zero l = omega arith
live_most ss (suc i) l =
    let ih = live_most ss i (omega arith) in
    let m = live_more ss i (decoded (get_or ss i [])) (omega arith) refl in
    let p : cond (is_put (decoded (get_or ss i []))) 1 0 ≤ 1 = cond_both (is_put (decoded (get_or ss i []))) 1 0 (λ z. z ≤ 1) (λ _. omega arith) (λ _. omega arith) in
    let s : live_before ss (suc i) ≡ live_before ss (i + 1) = ap (live_before ss) (sym (add-one i)) in
    omega arith

pub live_whole : (ss : List (List ℕ)) → live_before ss (length ss) ≡ staying_total ss
live_whole ss = ap (λ z. length (held (newest_first z))) (take-length ss) ∙ sym (live_total ss)
