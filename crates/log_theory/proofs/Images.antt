-- What an image is, in tests and in words; a closed log's image opens as the log that it was.
use Rattle.std.proofs.Common.{◌≡◌, ℕ, zero, suc, ◌+◌, ◌-◌, ◌*◌, ◌%◌, ◌^◌, ◌<◌, ◌≤◌, Bool, true, false, ◌&&◌, ◌||◌, eqb, leb, ◌⊎◌, List, length, take, drop, Ok, Err, Result, sym, refl, ap, ◌∙◌, subst, inl, inr, ⊎_elim, arith}
use Rattle.std.proofs.lemmas.List.{drop-take}
use Rattle.std.proofs.lemmas.Bool.{false≢true, cases_Bool, cases_eq, cond-true, cond-false, and_parts, and_from, leb-true, le-leb, eq-eqb, eqb-true}
use Rattle.store.specs.declared.fault.StoreFault.{StoreFault}
use Rattle.store.specs.declared.fault.StoreFault.TheVariants.{BadImage}
use Rattle.codec.specs.declared.Record.{Record}
use Rattle.codec.specs.declared.Trailer.{Trailer}
use Rattle.codec.specs.Words.{Bytes}
use Rattle.codec.specs.Records.{trailer_encoded, trailer_decoded, FitsTrailer}
use Rattle.codec.proofs.Overs.{length_over, over_in, take_over}
use Rattle.codec.proofs.Digits.{length_trailer, trailer_read_back}
use Rattle.log_theory.specs.Tape.{Tape, tape, record_at, records, is_put, held, pairs_of, legal, all_legal, slots, greatest_cap, allowed, Standing}
use Rattle.log_theory.specs.Image.{image_length, trailer_of, closed_bytes, trailer_at, image_tape, is_image, opened_cap, image_answer}
use Rattle.log_theory.specs.Laws.{LegalImage, OpensAnywhere}
use Rattle.log_theory.proofs.Slots.{records_same, records_fit}
use Rattle.log_theory.proofs.Calls.{slots_end, cap_most, cap_below}

ok_err : {f : StoreFault} → ◌≡◌ {A = Result (Unit {0}) StoreFault} (Ok tt) (Err f) → ⊥
ok_err e = let z : ◌≡◌ {A = ℕ} 0 1 = cc in omega arith

-- what the check of an image answered, as a test
pub image_accepted : (bs : List ℕ) (n : ℕ) → image_answer bs n ≡ Ok tt → is_image bs n ≡ true
image_accepted bs n e = ⊎_elim
    (λ (h : is_image bs n ≡ true). h)
    (λ (h : is_image bs n ≡ false). absurd (ok_err (sym e ∙ cond-false (is_image bs n) (Ok tt) (Err BadImage) h)))
    (cases_Bool (is_image bs n))

pub fresh_stands : (bs : List ℕ) (c : ℕ) → allowed (length bs) c ≡ true → Standing (tape bs 0) c
fresh_stands bs c h = record { limits = h; in_slots = omega arith; lawful = refl; room = omega arith; words_fit = tt }

-- the parts of the test
record Passed (bs : List ℕ) (n : ℕ) : Type 0 where
  pub long : 16 ≤ n
  pub within : n ≤ length bs
  pub distance : (trailer_at bs n).distance ≡ n - 16
  pub whole : (n - 16) % 32 ≡ 0
  pub limits : allowed (length bs) (trailer_at bs n).cap ≡ true
  pub lawful : all_legal (records bs (slots n)) ≡ true
  pub room : length (pairs_of (image_tape bs n)) ≤ (trailer_at bs n).cap

passed : (bs : List ℕ) (n : ℕ) → is_image bs n ≡ true → Passed bs n
passed bs n h =
    let a = and_parts (leb 16 n) _ h in
    let b = and_parts (leb n (length bs)) _ a.1 in
    let d = and_parts (eqb (trailer_at bs n).distance (n - 16)) _ b.1 in
    let e = and_parts (eqb ((n - 16) % 32) 0) _ d.1 in
    let f = and_parts (allowed (length bs) (trailer_at bs n).cap) _ e.1 in
    let g = and_parts (all_legal (records bs (slots n))) _ f.1 in
    record {
      long = leb-true 16 n a.0;
      within = leb-true n (length bs) b.0;
      distance = eqb-true _ _ d.0;
      whole = eqb-true _ _ e.0;
      limits = f.0;
      lawful = g.0;
      room = leb-true _ _ g.1;
    }

passes : (bs : List ℕ) (n : ℕ) → Passed bs n → is_image bs n ≡ true
passes bs n p =
    and_from _ _ (le-leb 16 n p.long) (and_from _ _ (le-leb n (length bs) p.within) (and_from _ _ (eq-eqb _ _ p.distance) (and_from _ _ (eq-eqb _ _ p.whole)
    (and_from _ _ p.limits (and_from _ _ p.lawful (le-leb _ _ p.room))))))

pub image_within : (bs : List ℕ) (n : ℕ) → is_image bs n ≡ true → (16 ≤ n) × (n ≤ length bs)
image_within bs n h = let p = passed bs n h in (p.long, p.within)

pub image_stands : (bs : List ℕ) (n : ℕ) → Bytes bs → is_image bs n ≡ true → Standing (image_tape bs n) (opened_cap bs n)
image_stands bs n b h =
    let p = passed bs n h in
    let l = p.within in
    subst (Standing (image_tape bs n)) (sym (cond-true (is_image bs n) (trailer_at bs n).cap 0 h))
    (record { limits = p.limits; in_slots = omega arith; lawful = p.lawful; room = p.room; words_fit = records_fit bs (slots n) b })

pub image_falls : (bs : List ℕ) (n : ℕ) → is_image bs n ≡ false → Standing (image_tape bs n) (opened_cap bs n) → ⊥
image_falls bs n e s = false≢true (sym (ap (allowed (length bs)) (cond-false (is_image bs n) (trailer_at bs n).cap 0 e)) ∙ s.limits)

-- legal records, in words
legal_words : (r : Record) → legal r ≡ true → (r.kind ≡ 1) ⊎ ((r.kind ≡ 2) × (r.a ≡ 0) × (r.b ≡ 0))
legal_words r h = ⊎_elim
    (λ (e : is_put r ≡ true). inl (eqb-true r.kind 1 e))
    (λ (e : is_put r ≡ false).
    let a = and_parts (eqb r.kind 2) _ (sym (ap (λ z. z || (eqb r.kind 2 && (eqb r.a 0 && eqb r.b 0))) e) ∙ h) in
    let b = and_parts (eqb r.a 0) _ a.1 in
    inr (eqb-true r.kind 2 a.0, eqb-true r.a 0 b.0, eqb-true r.b 0 b.1))
    (cases_Bool (is_put r))

words_legal : (r : Record) → (r.kind ≡ 1) ⊎ ((r.kind ≡ 2) × (r.a ≡ 0) × (r.b ≡ 0)) → legal r ≡ true
words_legal r h = ⊎_elim
    (λ (e : r.kind ≡ 1). ap (λ z. z || (eqb r.kind 2 && (eqb r.a 0 && eqb r.b 0))) (eq-eqb r.kind 1 e))
    (λ (e : (r.kind ≡ 2) × (r.a ≡ 0) × (r.b ≡ 0)).
    or_right (is_put r) _ (and_from _ _ (eq-eqb r.kind 2 e.0) (and_from _ _ (eq-eqb r.a 0 e.1) (eq-eqb r.b 0 e.2))))
    h
  where
    or_right : (x y : Bool) → y ≡ true → (x || y) ≡ true
    or_right true y e = refl
    or_right false y e = e

all_each : (bs : List ℕ) (m : ℕ) → all_legal (records bs m) ≡ true → (i : ℕ) → i < m → legal (record_at bs i) ≡ true
all_each bs zero h i l = absurd (omega arith)
all_each bs (suc m) h i l =
    let p = and_parts (legal (record_at bs m)) _ h in
    ⊎_elim (λ (e : i ≡ m). ap (λ z. legal (record_at bs z)) e ∙ p.0) (λ (e : i ≡ m → ⊥). all_each bs m p.1 i (omega arith)) (cases_eq i m)

each_all : (bs : List ℕ) (m : ℕ) → ((i : ℕ) → i < m → legal (record_at bs i) ≡ true) → all_legal (records bs m) ≡ true
each_all bs zero h = refl
each_all bs (suc m) h = and_from _ _ (h m (omega arith)) (each_all bs m (λ i l. h i (omega arith)))

pub accepted_is_legal : (bs : List ℕ) (n : ℕ) → is_image bs n ≡ true → LegalImage bs n
accepted_is_legal bs n h =
    let p = passed bs n h in
    let c = (trailer_at bs n).cap in
    let b = cap_below (length bs) c p.limits in
    record {
      long_enough = p.long;
      in_slice = p.within;
      distance = p.distance;
      whole_records = p.whole;
      cap_least = leb-true 1 c (and_parts (leb 1 c) _ p.limits).0;
      cap_greatest = cap_most (length bs) c p.limits;
      enough_slots = omega arith;
      each_legal = λ i l. legal_words (record_at bs i) (all_each bs (slots n) p.lawful i l);
      few_live = p.room;
    }

pub legal_is_accepted : (bs : List ℕ) (n : ℕ) → LegalImage bs n → is_image bs n ≡ true
legal_is_accepted bs n g =
    passes bs n
    (record {
      long = g.long_enough;
      within = g.in_slice;
      distance = g.distance;
      whole = g.whole_records;
      limits = and_from _ _ (le-leb _ _ g.cap_least) (and_from _ _ (le-leb _ _ g.cap_greatest) (le-leb _ _ g.enough_slots));
      lawful = each_all bs (slots n) (λ i l. words_legal (record_at bs i) (g.each_legal i l));
      room = g.few_live;
    })

-- a cap that a slice allows is allowed by a longer one
wider : (m k c : ℕ) → allowed m c ≡ true → m ≤ k → allowed k c ≡ true
wider m k c h l =
    let a = and_parts (leb 1 c) _ h in
    let b = and_parts (leb c greatest_cap) _ a.1 in
    let w = leb-true (c + 1) (slots m) b.1 in
    and_from _ _ a.0 (and_from _ _ b.0 (le-leb (c + 1) (slots k) (omega arith)))

-- a trailer lies in the bytes up to its end
trailer_same : (bs cs : List ℕ) (o : ℕ) → take (o + 16) bs ≡ take (o + 16) cs → take 16 (drop o bs) ≡ take 16 (drop o cs)
trailer_same bs cs o e = sym (drop-take o 16 bs) ∙ ap (drop o) e ∙ drop-take o 16 cs

-- there is room for a trailer behind the records in use
pub fit : (t : Tape) (c : ℕ) → Standing t c → 32 * t.used + 16 ≤ length t.bytes
fit t c s = let u = s.in_slots in let l = cap_below (length t.bytes) c s.limits in let w = slots_end (length t.bytes) (omega arith) in omega arith

module _ (t : Tape) (c : ℕ) (s : Standing t c) (small : 32 * t.used < 2 ^ 64) where
  closed_length : length (closed_bytes t c) ≡ length t.bytes
  closed_length = length_over t.bytes (32 * t.used) _ (let e = length_trailer (trailer_of t.used c) in let f = fit t c s in omega arith)

  closed_trailer : take 16 (drop (32 * t.used) (closed_bytes t c)) ≡ trailer_encoded (trailer_of t.used c)
  closed_trailer = ap (λ m. take m (drop (32 * t.used) (closed_bytes t c))) (sym (length_trailer (trailer_of t.used c))) ∙ over_in t.bytes (32 * t.used) _ (let f = fit t c s in omega arith)

  trailer_fits : FitsTrailer (trailer_of t.used c)
  trailer_fits = record { distance_fits = small; cap_fits = let l = cap_most (length t.bytes) c s.limits in omega arith }

  pub opens_again : OpensAnywhere (closed_bytes t c) (image_length t.used) (pairs_of t) c
  opens_again ds long e =
      let n = 32 * t.used + 16 in
      let cs = closed_bytes t c in
      let back : n - 16 ≡ 32 * t.used = omega arith in
      let used : slots n ≡ t.used = omega arith in
      let tr : trailer_at ds n ≡ trailer_of t.used c =
      ap trailer_decoded (ap (λ o. take 16 (drop o ds)) back ∙ trailer_same ds cs (32 * t.used) e ∙ closed_trailer) ∙ trailer_read_back (trailer_of t.used c) trailer_fits in
      let rs : records ds (slots n) ≡ records t.bytes t.used =
      ap (records ds) used ∙ records_same ds cs n t.used e (omega arith)
      ∙ records_same cs t.bytes (32 * t.used) t.used (take_over t.bytes (32 * t.used) _ (32 * t.used) (let f = fit t c s in omega arith) (omega arith)) (omega arith) in
      let lc = closed_length in
      let f = fit t c s in
      let cap : (trailer_at ds n).cap ≡ c = ap (λ (z : Trailer). z.cap) tr in
      record {
        accepted = passes ds n
            (record {
              long = omega arith;
              within = omega arith;
              distance = ap (λ (z : Trailer). z.distance) tr ∙ sym back;
              whole = omega arith;
              limits = ap (allowed (length ds)) cap ∙ wider (length t.bytes) (length ds) c s.limits (omega arith);
              lawful = ap all_legal rs ∙ s.lawful;
              room = subst (λ z. length (held z) ≤ (trailer_at ds n).cap) (sym rs) (subst (λ z. length (pairs_of t) ≤ z) (sym cap) s.room);
            });
        pairs_again = ap held rs;
        cap_again = cap;
      }
