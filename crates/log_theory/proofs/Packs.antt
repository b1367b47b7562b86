-- Compaction keeps what the records hold, and leaves one record for each pair.
use Rattle.std.proofs.Common.{◌≡◌, ℕ, zero, suc, ◌+◌, ◌-◌, ◌*◌, ◌<◌, ◌≤◌, Bool, true, false, cond, not, ◌&&◌, ◌||◌, eqb, List, ◌∷◌, ◌++◌, length, Some, None, Option, sym, refl, ap, ◌∙◌, ⊎_elim, add-one, arith}
use Rattle.std.proofs.lemmas.List.{length-append}
use Rattle.std.proofs.lemmas.Bool.{true≢false, false≢true, cond_both, cond-true, cond-false, cases_Bool, cases_eq, eq-eqb, eqb-true, eqb-false, ne_eqb, and_parts}
use Rattle.pairs.specs.Pairs.{find, insert}
use Rattle.pairs.proofs.Maps.{ext, length_insert_new}
use Rattle.store.specs.declared.value.Value.{Value}
use Rattle.codec.specs.declared.Record.{Record}
use Rattle.codec.specs.Words.{over}
use Rattle.codec.specs.Records.{decoded}
use Rattle.codec.proofs.Overs.{length_over, over_over}
use Rattle.log_theory.specs.Tape.{Tape, slot_bytes, record_at, records, is_put, value_of, own, held, pairs_of}
use Rattle.log_theory.specs.Moves.{recurs, superseded, stays, packed, stay_count, stayers, compacted}
use Rattle.log_theory.specs.Laws.{NoneLater}
use Rattle.log_theory.proofs.Slots.{records_front, slot_behind, slot_in, length_slot}
use Rattle.log_theory.proofs.Holds.{held_ascends, find_held}

-- one slot more looked at: t, whether it is a put; e, whether it has the key; x, whether its own
-- key comes again; y, whether the key does
stay_step : (t e x y : Bool) (v F : Option Value) → (e ≡ true → x ≡ y)
    → cond (t && not x) (cond e (cond t v None) (cond (e || y) None F)) (cond (e || y) None F) ≡ cond y None (cond e (cond t v None) F)
stay_step true true true true v F h = refl
stay_step true true true false v F h = absurd (true≢false (h refl))
stay_step true true false true v F h = absurd (false≢true (h refl))
stay_step true true false false v F h = refl
stay_step true false true true v F h = refl
stay_step true false true false v F h = refl
stay_step true false false true v F h = refl
stay_step true false false false v F h = refl
stay_step false true x true v F h = refl
stay_step false true x false v F h = refl
stay_step false false x true v F h = refl
stay_step false false x false v F h = refl

cond_find : (b : Bool) (xs ys : List Record) (j : ℕ) → find (held (cond b xs ys)) j ≡ cond b (find (held xs) j) (find (held ys) j)
cond_find true xs ys j = refl
cond_find false xs ys j = refl

recurs_here : (bs : List ℕ) (n m j : ℕ) → m < n → recurs bs m (n - m) j ≡ (eqb (record_at bs m).key j || recurs bs (m + 1) (n - (m + 1)) j)
recurs_here bs n m j l = ap (λ d. recurs bs m d j) (let e : n - m ≡ suc (n - (m + 1)) = omega arith in e)

find_stayers : (bs : List ℕ) (n m j : ℕ) → m ≤ n → find (held (stayers bs n m)) j ≡ cond (recurs bs m (n - m) j) None (find (held (records bs m)) j)
find_stayers bs n zero j l = sym (cond_both (recurs bs 0 (n - 0) j) _ _ (λ x. x ≡ None) (λ _. refl) (λ _. refl))
find_stayers bs n (suc m) j l =
    let r = record_at bs m in
    let R = recurs bs (m + 1) (n - (m + 1)) in
    let F = find (held (records bs m)) j in
    let ih : find (held (stayers bs n m)) j ≡ cond (eqb r.key j || R j) None F =
    find_stayers bs n m j (omega arith) ∙ ap (λ b. cond b None F) (recurs_here bs n m j (omega arith)) in
    cond_find (stays bs n m) (r ∷ stayers bs n m) (stayers bs n m) j
    ∙ ap (λ z. cond (stays bs n m) z (find (held (stayers bs n m)) j)) (find_held r (stayers bs n m) j)
    ∙ ap (λ z. cond (stays bs n m) (cond (eqb r.key j) (own r) z) z) ih
    ∙ stay_step (is_put r) (eqb r.key j) (R r.key) (R j) (Some (value_of r)) F (λ e. ap R (eqb-true r.key j e))
    ∙ ap (λ z. cond (R j) None z) (sym (find_held r (records bs m) j)) ∙ ap (λ z. cond (recurs bs z (n - z) j) None (find (held (records bs (suc m))) j)) (add-one m)

pub held_stayers : (bs : List ℕ) (n : ℕ) → held (stayers bs n n) ≡ held (records bs n)
held_stayers bs n =
    ext _ _ (held_ascends (stayers bs n n)) (held_ascends (records bs n))
    (λ j. find_stayers bs n n j (omega arith) ∙ ap (λ d. cond (recurs bs n d j) None (find (held (records bs n)) j)) (let e : n - n ≡ 0 = omega arith in e))

-- no two of them have one key
length_stayers : (bs : List ℕ) (n m : ℕ) → m ≤ n → length (held (stayers bs n m)) ≡ stay_count bs n m
length_stayers bs n zero l = refl
length_stayers bs n (suc m) l =
    let r = record_at bs m in
    let ih = length_stayers bs n m (omega arith) in
    ⊎_elim
    (λ (s : stays bs n m ≡ true).
    let t : is_put r ≡ true = (and_parts (is_put r) _ s).0 in
    let none : find (held (stayers bs n m)) r.key ≡ None =
    find_stayers bs n m r.key (omega arith) ∙ ap (λ b. cond b None (find (held (records bs m)) r.key)) (recurs_here bs n m r.key (omega arith))
    ∙ ap (λ b. cond (b || recurs bs (m + 1) (n - (m + 1)) r.key) None (find (held (records bs m)) r.key)) (eq-eqb r.key r.key refl) in
    ap (λ z. length (held z)) (cond-true (stays bs n m) (r ∷ stayers bs n m) (stayers bs n m) s)
    ∙ ap length (cond-true (is_put r) (insert (held (stayers bs n m)) r.key (value_of r)) _ t)
    ∙ length_insert_new (held (stayers bs n m)) r.key (value_of r) none ∙ ap (λ z. z + 1) ih
    ∙ sym (cond-true (stays bs n m) (stay_count bs n m + 1) (stay_count bs n m) s))
    (λ (s : stays bs n m ≡ false).
    ap (λ z. length (held z)) (cond-false (stays bs n m) (r ∷ stayers bs n m) (stayers bs n m) s) ∙ ih
    ∙ sym (cond-false (stays bs n m) (stay_count bs n m + 1) (stay_count bs n m) s))
    (cases_Bool (stays bs n m))

pub stay_count_most : (bs : List ℕ) (n m : ℕ) → stay_count bs n m ≤ m
stay_count_most bs n zero = omega arith
stay_count_most bs n (suc m) = let ih = stay_count_most bs n m in cond_both (stays bs n m) _ _ (λ z. z ≤ suc m) (λ _. omega arith) (λ _. omega arith)

pub length_packed : (bs : List ℕ) (n m : ℕ) → 32 * m ≤ length bs → length (packed bs n m) ≡ 32 * stay_count bs n m
length_packed bs n zero h = refl
length_packed bs n (suc m) h =
    let ih = length_packed bs n m (omega arith) in
    let s = length_slot bs m (omega arith) in
    ⊎_elim
    (λ (e : stays bs n m ≡ true).
    ap length (cond-true (stays bs n m) (packed bs n m ++ slot_bytes bs m) (packed bs n m) e) ∙ length-append (packed bs n m) (slot_bytes bs m)
    ∙ (let z : length (packed bs n m) + length (slot_bytes bs m) ≡ 32 * (stay_count bs n m + 1) = omega arith in z)
    ∙ ap (λ w. 32 * w) (sym (cond-true (stays bs n m) (stay_count bs n m + 1) (stay_count bs n m) e)))
    (λ (e : stays bs n m ≡ false).
    ap length (cond-false (stays bs n m) (packed bs n m ++ slot_bytes bs m) (packed bs n m) e) ∙ ih
    ∙ ap (λ w. 32 * w) (sym (cond-false (stays bs n m) (stay_count bs n m + 1) (stay_count bs n m) e)))
    (cases_Bool (stays bs n m))

-- one slot moved behind those packed
packs_more : (bs : List ℕ) (n m : ℕ) → 32 * m + 32 ≤ length bs → over (over bs 0 (packed bs n m)) (32 * stay_count bs n m) (slot_bytes bs m) ≡ over bs 0 (packed bs n m ++ slot_bytes bs m)
packs_more bs n m h =
    let l = length_packed bs n m (omega arith) in
    let c = stay_count_most bs n m in
    over_over bs 0 (packed bs n m) (slot_bytes bs m) (32 * stay_count bs n m) (omega arith) (omega arith)

pub records_packed : (bs : List ℕ) (n m : ℕ) → 32 * m ≤ length bs → records (over bs 0 (packed bs n m)) (stay_count bs n m) ≡ stayers bs n m
records_packed bs n zero h = refl
records_packed bs n (suc m) h =
    let ih = records_packed bs n m (omega arith) in
    let w = stay_count bs n m in
    let c = stay_count_most bs n m in
    let s = length_slot bs m (omega arith) in
    let cur = over bs 0 (packed bs n m) in
    let lc : length cur ≡ length bs = length_over bs 0 (packed bs n m) (let l = length_packed bs n m (omega arith) in omega arith) in
    ⊎_elim
    (λ (e : stays bs n m ≡ true).
    let step : records (over cur (32 * w) (slot_bytes bs m)) (w + 1) ≡ record_at bs m ∷ stayers bs n m =
    ap (records (over cur (32 * w) (slot_bytes bs m))) (add-one w)
    ∙ ap (λ z. decoded z ∷ records (over cur (32 * w) (slot_bytes bs m)) w) (slot_in cur w (slot_bytes bs m) (omega arith) s)
    ∙ ap (λ z. record_at bs m ∷ z) (records_front cur (32 * w) (slot_bytes bs m) w (omega arith) (omega arith) ∙ ih) in
    ap (λ z. records (over bs 0 z) (stay_count bs n (suc m))) (cond-true (stays bs n m) (packed bs n m ++ slot_bytes bs m) (packed bs n m) e)
    ∙ ap (records (over bs 0 (packed bs n m ++ slot_bytes bs m))) (cond-true (stays bs n m) (w + 1) w e)
    ∙ ap (λ z. records z (w + 1)) (sym (packs_more bs n m (omega arith)))
    ∙ step ∙ sym (cond-true (stays bs n m) (record_at bs m ∷ stayers bs n m) (stayers bs n m) e))
    (λ (e : stays bs n m ≡ false).
    ap (λ z. records (over bs 0 z) (stay_count bs n (suc m))) (cond-false (stays bs n m) (packed bs n m ++ slot_bytes bs m) (packed bs n m) e)
    ∙ ap (records (over bs 0 (packed bs n m))) (cond-false (stays bs n m) (w + 1) w e)
    ∙ ih ∙ sym (cond-false (stays bs n m) (record_at bs m ∷ stayers bs n m) (stayers bs n m) e))
    (cases_Bool (stays bs n m))

-- compaction changes no pair, and leaves as many records as pairs
pub pairs_compacted : (t : Tape) → 32 * t.used ≤ length t.bytes → pairs_of (compacted t) ≡ pairs_of t
pairs_compacted t h = ap held (records_packed t.bytes t.used t.used h) ∙ held_stayers t.bytes t.used

pub used_compacted : (t : Tape) → (compacted t).used ≡ length (pairs_of t)
used_compacted t = sym (length_stayers t.bytes t.used t.used (omega arith)) ∙ ap length (held_stayers t.bytes t.used)

-- in plain words: a key does not come again when no later slot has it
recurs_none : (bs : List ℕ) (i d k : ℕ) → ((j : ℕ) → i ≤ j → j < i + d → (record_at bs j).key ≡ k → ⊥) → recurs bs i d k ≡ false
recurs_none bs i zero k h = refl
recurs_none bs i (suc d) k h =
    ap (λ b. b || recurs bs (i + 1) d k) (ne_eqb (record_at bs i).key k (h i (omega arith) (omega arith))) ∙ recurs_none bs (i + 1) d k (λ j a b. h j (omega arith) (omega arith))

none_recurs : (bs : List ℕ) (i d k : ℕ) → recurs bs i d k ≡ false → (j : ℕ) → i ≤ j → j < i + d → (record_at bs j).key ≡ k → ⊥
none_recurs bs i zero k h j a b e = omega arith
none_recurs bs i (suc d) k h j a b e =
    let p = or_parts (eqb (record_at bs i).key k) (recurs bs (i + 1) d k) h in
    ⊎_elim
    (λ (z : j ≡ i). eqb-false (record_at bs i).key k p.0 (ap (λ x. (record_at bs x).key) (sym z) ∙ e))
    (λ (z : j ≡ i → ⊥). none_recurs bs (i + 1) d k p.1 j (omega arith) (omega arith) e)
    (cases_eq j i)
  where
    or_parts : (x y : Bool) → (x || y) ≡ false → (x ≡ false) × (y ≡ false)
    or_parts true y e = absurd (true≢false e)
    or_parts false y e = (refl, e)

pub stays_put : (bs : List ℕ) (n i : ℕ) → stays bs n i ≡ true → (record_at bs i).kind ≡ 1
stays_put bs n i e = eqb-true (record_at bs i).kind 1 (and_parts (is_put (record_at bs i)) _ e).0

pub stays_last : (bs : List ℕ) (n i : ℕ) → i < n → stays bs n i ≡ true → NoneLater bs n (i + 1) (record_at bs i).key
stays_last bs n i l e j a b =
    none_recurs bs (i + 1) (n - (i + 1)) (record_at bs i).key (not_true (superseded bs n i) (and_parts (is_put (record_at bs i)) _ e).1) j (omega arith) (omega arith)
  where
    not_true : (x : Bool) → not x ≡ true → x ≡ false
    not_true true h = absurd (false≢true h)
    not_true false h = refl

pub last_put_stays : (bs : List ℕ) (n i : ℕ) → i < n → (record_at bs i).kind ≡ 1 → NoneLater bs n (i + 1) (record_at bs i).key → stays bs n i ≡ true
last_put_stays bs n i l e h =
    ap (λ b. b && not (superseded bs n i)) (eq-eqb (record_at bs i).kind 1 e)
    ∙ ap not (recurs_none bs (i + 1) (n - (i + 1)) (record_at bs i).key (λ j a b. h j (omega arith) (omega arith)))

-- what a loop that packs reads behind the packed slots is as it was
recurs_behind : (bs ws : List ℕ) (i d k : ℕ) → length ws ≤ 32 * i → recurs (over bs 0 ws) i d k ≡ recurs bs i d k
recurs_behind bs ws i zero k l = refl
recurs_behind bs ws i (suc d) k l =
    let e : (record_at (over bs 0 ws) i).key ≡ (record_at bs i).key = ap (λ z. (decoded z).key) (slot_behind bs 0 ws i (omega arith) (omega arith)) in
    ap (λ x. eqb x k || recurs (over bs 0 ws) (i + 1) d k) e ∙ ap (λ x. eqb (record_at bs i).key k || x) (recurs_behind bs ws (i + 1) d k (omega arith))

module _ (bs : List ℕ) (n i : ℕ) (h : 32 * n ≤ length bs) (l : i < n) (cur : List ℕ) (e : cur ≡ over bs 0 (packed bs n i)) where
  packed_most : length (packed bs n i) ≤ 32 * i
  packed_most = let p = length_packed bs n i (omega arith) in let c = stay_count_most bs n i in omega arith

  cur_slot : slot_bytes cur i ≡ slot_bytes bs i
  cur_slot = ap (λ z. slot_bytes z i) e ∙ slot_behind bs 0 (packed bs n i) i (omega arith) (let z = packed_most in omega arith)

  -- so whether the next slot stays can be read off the bytes as they are
  pub stays_still : stays cur n i ≡ stays bs n i
  stays_still =
      let r : record_at cur i ≡ record_at bs i = ap decoded cur_slot in
      let again : (k : ℕ) → recurs cur (i + 1) (n - (i + 1)) k ≡ recurs bs (i + 1) (n - (i + 1)) k =
      λ k. ap (λ z. recurs z (i + 1) (n - (i + 1)) k) e ∙ recurs_behind bs (packed bs n i) (i + 1) (n - (i + 1)) k (let z = packed_most in omega arith) in
      ap (λ (z : Record). is_put z && not (recurs cur (i + 1) (n - (i + 1)) z.key)) r ∙ ap (λ z. is_put (record_at bs i) && not z) (again (record_at bs i).key)

  pub pack_one : (new : List ℕ) (w : ℕ) → stays bs n i ≡ true → w ≡ stay_count bs n i → new ≡ over cur (32 * w) (slot_bytes cur i) → (new ≡ over bs 0 (packed bs n (i + 1))) × (w + 1 ≡ stay_count bs n (i + 1))
  pack_one new w s c f = (
    f ∙ ap (λ z. over cur (32 * w) z) cur_slot ∙ ap (λ z. over z (32 * w) (slot_bytes bs i)) e ∙ ap (λ z. over (over bs 0 (packed bs n i)) (32 * z) (slot_bytes bs i)) c
        ∙ packs_more bs n i (omega arith) ∙ ap (over bs 0) (sym (cond-true (stays bs n i) (packed bs n i ++ slot_bytes bs i) (packed bs n i) s)) ∙ ap (λ m. over bs 0 (packed bs n m)) (sym (add-one i)),
    ap (λ z. z + 1) c ∙ sym (cond-true (stays bs n i) (stay_count bs n i + 1) (stay_count bs n i) s) ∙ ap (stay_count bs n) (sym (add-one i)),
  )

  pub pack_none : (w : ℕ) → stays bs n i ≡ false → w ≡ stay_count bs n i → (cur ≡ over bs 0 (packed bs n (i + 1))) × (w ≡ stay_count bs n (i + 1))
  pack_none w s c = (
    e ∙ ap (over bs 0) (sym (cond-false (stays bs n i) (packed bs n i ++ slot_bytes bs i) (packed bs n i) s)) ∙ ap (λ m. over bs 0 (packed bs n m)) (sym (add-one i)),
    c ∙ sym (cond-false (stays bs n i) (stay_count bs n i + 1) (stay_count bs n i) s) ∙ ap (stay_count bs n) (sym (add-one i)),
  )
