-- What a put and a removal leave: a standing log, and the pairs that the store's meaning asks for.
use Rattle.std.proofs.Common.{◌≡◌, ℕ, zero, suc, ◌+◌, ◌*◌, ◌^◌, ◌<◌, ◌≤◌, Bool, true, false, cond, ◌&&◌, ◌||◌, ltb, leb, List, ◌∷◌, length, drop, sym, refl, ap, ◌∙◌, subst, ⊎_elim, arith}
use Rattle.std.proofs.lemmas.Bool.{cond-true, cond-false, cond_both, cases_Bool, and_parts, leb-true, ltb-true}
use Rattle.std.proofs.lemmas.Bool.Decides.{nat_tests}
use Rattle.pairs.specs.Pairs.{has, insert, erase}
use Rattle.pairs.proofs.Maps.{has_none, erase_absent}
use Rattle.store.specs.declared.value.Value.{Value}
use Rattle.store.specs.Meaning.{FitsWords, Lawful}
use Rattle.store.specs.Outcomes.{refuses, put_pairs}
use Rattle.codec.specs.declared.Record.{Record}
use Rattle.codec.specs.Records.{encoded, FitsRecord}
use Rattle.codec.proofs.Overs.{length_over, drop_over}
use Rattle.codec.proofs.Digits.{length_encoded}
use Rattle.log_theory.specs.Tape.{Tape, tape, record_at, records, is_put, value_of, put_record, removal, held, pairs_of, legal, all_legal, slots, greatest_cap, allowed, AllFit, Standing}
use Rattle.log_theory.specs.Moves.{stays, packed, stay_count, stayers, compacted, roomed, appended, put_tape, remove_tape}
use Rattle.log_theory.proofs.Slots.{records_more, records_front, record_over}
use Rattle.log_theory.proofs.Holds.{held_ascends, found_fits}
use Rattle.log_theory.proofs.Counts.{count_step}
use Rattle.log_theory.proofs.Packs.{records_packed, pairs_compacted, used_compacted, length_packed, stay_count_most}

pub slots_end : (n : ℕ) → 0 < slots n → 32 * slots n + 16 ≤ n
slots_end n h = omega arith

pub slots_within : (n u : ℕ) → u ≤ slots n → 32 * u ≤ n
slots_within n u h = omega arith

pub cap_most : (n c : ℕ) → allowed n c ≡ true → c ≤ greatest_cap
cap_most n c h = leb-true c greatest_cap (and_parts (leb c greatest_cap) _ (and_parts (leb 1 c) _ h).1).0

pub cap_below : (n c : ℕ) → allowed n c ≡ true → c < slots n
cap_below n c h =
    let p = (and_parts (leb 1 c) _ h).1 in
    let q = leb-true (c + 1) (slots n) (and_parts (leb c greatest_cap) _ p).1 in omega arith

-- a standing log obeys the laws of stores
pub standing_lawful : (t : Tape) (c : ℕ) → Standing t c → Lawful (pairs_of t) c
standing_lawful t c s =
    let m = cap_most (length t.bytes) c s.limits in
    let r = s.room in
    record {
      ordered = held_ascends (records t.bytes t.used);
      words = λ k v e. found_fits (records t.bytes t.used) k v s.words_fit e;
      few = omega arith;
      cap_few = omega arith;
    }

-- a compaction leaves a slot free: each pair has one record, and there are more slots than pairs
pub slot_is_free : (t : Tape) (c : ℕ) → Standing t c → (compacted t).used < slots (length t.bytes)
slot_is_free t c s = let e = used_compacted t in let l = cap_below (length t.bytes) c s.limits in let r = s.room in omega arith

-- what stays is legal, and fits
stayers_legal : (bs : List ℕ) (n m : ℕ) → all_legal (stayers bs n m) ≡ true
stayers_legal bs n zero = refl
stayers_legal bs n (suc m) =
    cond_both (stays bs n m) (record_at bs m ∷ stayers bs n m) (stayers bs n m) (λ z. all_legal z ≡ true)
    (λ e. both (all_legal (stayers bs n m)) (is_put (record_at bs m)) _ (stayers_legal bs n m) (and_parts (is_put (record_at bs m)) _ e).0)
    (λ _. stayers_legal bs n m)
  where
    both : (x y z : Bool) → x ≡ true → y ≡ true → ((y || z) && x) ≡ true
    both x y z e f = ap (λ a. (a || z) && x) f ∙ e

stayers_fit : (bs : List ℕ) (n m : ℕ) → AllFit (records bs m) → AllFit (stayers bs n m)
stayers_fit bs n zero h = tt
stayers_fit bs n (suc m) h =
    cond_both (stays bs n m) (record_at bs m ∷ stayers bs n m) (stayers bs n m) AllFit
    (λ _. (h.0, stayers_fit bs n m h.1)) (λ _. stayers_fit bs n m h.1)

-- the same log with a free slot
pub record Roomy (t u : Tape) : Type 0 where
  pub long : length u.bytes ≡ length t.bytes
  pub free : u.used < slots (length t.bytes)
  pub same : pairs_of u ≡ pairs_of t
  pub lawful : all_legal (records u.bytes u.used) ≡ true
  pub words_fit : AllFit (records u.bytes u.used)

pub roomy : (t : Tape) (c : ℕ) → Standing t c → Roomy t (roomed t)
roomy t c s =
    let bs = t.bytes in
    let n = t.used in
    cond_both (ltb n (slots (length bs))) t (compacted t) (Roomy t)
    (λ e. record { long = refl; free = ltb-true _ _ e; same = refl; lawful = s.lawful; words_fit = s.words_fit })
    (λ e.
    let h : 32 * n ≤ length bs = slots_within (length bs) n s.in_slots in
    let l = length_packed bs n n h in
    let m = stay_count_most bs n n in
    record {
      long = length_over bs 0 (packed bs n n) (omega arith);
      free = slot_is_free t c s;
      same = pairs_compacted t h;
      lawful = ap all_legal (records_packed bs n n h) ∙ stayers_legal bs n n;
      words_fit = subst AllFit (sym (records_packed bs n n h)) (stayers_fit bs n n s.words_fit);
    })

-- there is room for a record in the first free slot
pub room_enough : (t : Tape) (c : ℕ) (bs : List ℕ) (n : ℕ) → Standing t c → tape bs n ≡ roomed t → 32 * n + 32 ≤ length bs
room_enough t c bs n s e =
    let r = subst (Roomy t) (sym e) (roomy t c s) in
    let f = r.free in
    let l = r.long in
    let w = slots_end (length t.bytes) (omega arith) in
    omega arith

-- an appended record decides its key
pub appended_stands : (t : Tape) (c : ℕ) (r : Record) → Standing t c → FitsRecord r → legal r ≡ true → length (held (r ∷ records t.bytes t.used)) ≤ c
    → Standing (appended t r) c × (pairs_of (appended t r) ≡ held (r ∷ records t.bytes t.used))
appended_stands t c r s f g l =
    let q = roomy t c s in
    let bs = t.bytes in
    let cs = (roomed t).bytes in
    let u = (roomed t).used in
    let lq = q.long in
    let fq = q.free in
    let w = slots_end (length bs) (omega arith) in
    let le = length_encoded r in
    let new = (appended t r).bytes in
    let ln : length new ≡ length bs = length_over cs (32 * u) (encoded r) (omega arith) ∙ lq in
    let rs : records new (u + 1) ≡ r ∷ records cs u =
    records_more new u ∙ ap (λ z. z ∷ records new u) (record_over cs u r (omega arith) f) ∙ ap (λ z. r ∷ z) (records_front cs (32 * u) (encoded r) u (omega arith) (omega arith)) in
    let hs : held (records new (u + 1)) ≡ held (r ∷ records bs t.used) =
    ap held rs ∙ ap (λ ps. cond (is_put r) (insert ps r.key (value_of r)) (erase ps r.key)) q.same in (
      record {
        limits = ap (λ m. allowed m c) ln ∙ s.limits;
        in_slots = subst (λ m. u + 1 ≤ slots m) (sym ln) (omega arith);
        lawful = ap all_legal rs ∙ ap (λ b. b && all_legal (records cs u)) g ∙ q.lawful;
        room = subst (λ ps. length ps ≤ c) (sym hs) l;
        words_fit = subst AllFit (sym rs) (f, q.words_fit);
      },
      hs,
    )

-- a put that is not refused leaves no more pairs than the cap
put_room : (rs : List Record) (c k : ℕ) (v : Value) → length (held rs) ≤ c → refuses (held rs) c k ≡ false → length (held (put_record k v ∷ rs)) ≤ c
put_room rs c k v h e = let s = count_step (put_record k v) rs in grind (arith, nat_tests)

pub put_stands : (t : Tape) (c k : ℕ) (v : Value) → Standing t c → FitsWords k v → Standing (put_tape t c k v) c × (pairs_of (put_tape t c k v) ≡ put_pairs (pairs_of t) c k v)
put_stands t c k v s f = ⊎_elim
    (λ (e : refuses (pairs_of t) c k ≡ true).
    subst (λ u. Standing u c × (pairs_of u ≡ put_pairs (pairs_of t) c k v)) (sym (cond-true _ _ _ e)) (s, sym (cond-true _ _ _ e)))
    (λ (e : refuses (pairs_of t) c k ≡ false).
    let a = appended_stands t c (put_record k v) s (record { key_fits = f.key_fits; a_fits = f.a_fits; b_fits = f.b_fits; kind_fits = omega arith }) refl (put_room (records t.bytes t.used) c k v s.room e) in
    subst (λ u. Standing u c × (pairs_of u ≡ put_pairs (pairs_of t) c k v)) (sym (cond-false _ _ _ e)) (a.0, a.1 ∙ sym (cond-false _ _ _ e)))
    (cases_Bool (refuses (pairs_of t) c k))

pub remove_stands : (t : Tape) (c k : ℕ) → Standing t c → k < 2 ^ 64 → Standing (remove_tape t k) c × (pairs_of (remove_tape t k) ≡ erase (pairs_of t) k)
remove_stands t c k s f = ⊎_elim
    (λ (e : has (pairs_of t) k ≡ true).
    let z = count_step (removal k) (records t.bytes t.used) in
    let r = s.room in
    subst (λ u. Standing u c × (pairs_of u ≡ erase (pairs_of t) k)) (sym (cond-true _ _ _ e))
    (appended_stands t c (removal k) s (record { key_fits = f; a_fits = omega arith; b_fits = omega arith; kind_fits = omega arith }) refl (omega arith)))
    (λ (e : has (pairs_of t) k ≡ false).
    subst (λ u. Standing u c × (pairs_of u ≡ erase (pairs_of t) k)) (sym (cond-false _ _ _ e)) (s, sym (erase_absent (pairs_of t) k (has_none (pairs_of t) k e))))
    (cases_Bool (has (pairs_of t) k))

-- nothing is written behind the records in use
appended_behind : (t : Tape) (c : ℕ) (r : Record) → Standing t c → drop (32 * (appended t r).used) (appended t r).bytes ≡ drop (32 * (appended t r).used) t.bytes
appended_behind t c r s =
    let q = roomy t c s in
    let lq = q.long in
    let fq = q.free in
    let bs = t.bytes in
    let u = (roomed t).used in
    let w = slots_end (length bs) (omega arith) in
    let le = length_encoded r in
    drop_over (roomed t).bytes (32 * u) (encoded r) (32 * (u + 1)) (omega arith) (omega arith)
    ∙ cond_both (ltb t.used (slots (length bs))) t (compacted t) (λ z. drop (32 * (z.used + 1)) z.bytes ≡ drop (32 * (z.used + 1)) bs) (λ _. refl)
    (λ e. let l = length_packed bs t.used t.used (slots_within (length bs) t.used s.in_slots) in
    drop_over bs 0 (packed bs t.used t.used) (32 * (stay_count bs t.used t.used + 1)) (omega arith) (omega arith))

pub put_behind : (t : Tape) (c k : ℕ) (v : Value) → Standing t c → drop (32 * (put_tape t c k v).used) (put_tape t c k v).bytes ≡ drop (32 * (put_tape t c k v).used) t.bytes
put_behind t c k v s =
    cond_both (refuses (pairs_of t) c k) t (appended t (put_record k v)) (λ z. drop (32 * z.used) z.bytes ≡ drop (32 * z.used) t.bytes) (λ _. refl) (λ _. appended_behind t c (put_record k v) s)

pub remove_behind : (t : Tape) (c k : ℕ) → Standing t c → drop (32 * (remove_tape t k).used) (remove_tape t k).bytes ≡ drop (32 * (remove_tape t k).used) t.bytes
remove_behind t c k s =
    cond_both (has (pairs_of t) k) (appended t (removal k)) t (λ z. drop (32 * z.used) z.bytes ≡ drop (32 * z.used) t.bytes) (λ _. appended_behind t c (removal k) s) (λ _. refl)
