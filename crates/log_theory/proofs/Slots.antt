-- The slots of a log after a write: what is written, and what stays before and behind it.
use Rattle.std.proofs.Common.{◌≡◌, ℕ, zero, suc, ◌+◌, ◌-◌, ◌*◌, ◌≤◌, List, ◌∷◌, ◌++◌, length, take, drop, sym, refl, ap, ◌∙◌, add-one, arith}
use Rattle.std.proofs.lemmas.List.{append_assoc, length-take-le, length-drop, take-take, drop-take}
use Rattle.std.specs.List.{copy_within}
use Rattle.codec.specs.declared.Record.{Record}
use Rattle.codec.specs.Words.{over, Bytes}
use Rattle.codec.specs.Records.{encoded, decoded, FitsRecord}
use Rattle.codec.proofs.Overs.{take_over, drop_over, over_in, bytes_take, bytes_drop}
use Rattle.codec.proofs.Digits.{record_read_back, length_encoded, word_fits}
use Rattle.log_theory.specs.Tape.{tape, slot_bytes, record_at, records, AllFit}

-- a slot lies in the bytes up to its end
pub slot_same : (bs cs : List ℕ) (n i : ℕ) → take n bs ≡ take n cs → 32 * i + 32 ≤ n → slot_bytes bs i ≡ slot_bytes cs i
slot_same bs cs n i e l =
    sym (drop-take (32 * i) 32 bs) ∙ ap (drop (32 * i)) (sym (take-take (32 * i + 32) n bs l) ∙ ap (take (32 * i + 32)) e ∙ take-take (32 * i + 32) n cs l)
    ∙ drop-take (32 * i) 32 cs

pub records_same : (bs cs : List ℕ) (n m : ℕ) → take n bs ≡ take n cs → 32 * m ≤ n → records bs m ≡ records cs m
records_same bs cs n zero e l = refl
records_same bs cs n (suc m) e l =
    let a : record_at bs m ≡ record_at cs m = ap decoded (slot_same bs cs n m e (omega arith)) in
    let b = records_same bs cs n m e (omega arith) in cc

pub records_front : (bs : List ℕ) (o : ℕ) (ws : List ℕ) (n : ℕ) → o ≤ length bs → 32 * n ≤ o → records (over bs o ws) n ≡ records bs n
records_front bs o ws n h l = records_same (over bs o ws) bs o n (take_over bs o ws o h (omega arith)) l

pub slot_behind : (bs : List ℕ) (o : ℕ) (ws : List ℕ) (i : ℕ) → o ≤ length bs → o + length ws ≤ 32 * i → slot_bytes (over bs o ws) i ≡ slot_bytes bs i
slot_behind bs o ws i h l = ap (take 32) (drop_over bs o ws (32 * i) h l)

pub slot_in : (bs : List ℕ) (i : ℕ) (ws : List ℕ) → 32 * i ≤ length bs → length ws ≡ 32 → slot_bytes (over bs (32 * i) ws) i ≡ ws
slot_in bs i ws h e = ap (λ m. take m (drop (32 * i) (over bs (32 * i) ws))) (sym e) ∙ over_in bs (32 * i) ws h

pub length_slot : (bs : List ℕ) (i : ℕ) → 32 * i + 32 ≤ length bs → length (slot_bytes bs i) ≡ 32
length_slot bs i h = length-take-le 32 (drop (32 * i) bs) (let d = length-drop (32 * i) bs in omega arith)

-- a record written into a slot is read from it
pub record_over : (bs : List ℕ) (i : ℕ) (r : Record) → 32 * i ≤ length bs → FitsRecord r → record_at (over bs (32 * i) (encoded r)) i ≡ r
record_over bs i r h f = ap decoded (slot_in bs i (encoded r) h (length_encoded r)) ∙ record_read_back r f

bytes_slot : (bs : List ℕ) (i : ℕ) → Bytes bs → Bytes (slot_bytes bs i)
bytes_slot bs i h = bytes_take 32 (drop (32 * i) bs) (bytes_drop (32 * i) bs h)

record_fits : (bs : List ℕ) (i : ℕ) → Bytes bs → FitsRecord (record_at bs i)
record_fits bs i h =
    let b = bytes_slot bs i h in
    record { key_fits = word_fits _ 0 b; a_fits = word_fits _ 8 b; b_fits = word_fits _ 16 b; kind_fits = word_fits _ 24 b }

pub records_fit : (bs : List ℕ) (n : ℕ) → Bytes bs → AllFit (records bs n)
records_fit bs zero h = tt
records_fit bs (suc n) h = (record_fits bs n h, records_fit bs n h)

pub records_more : (bs : List ℕ) (n : ℕ) → records bs (n + 1) ≡ record_at bs n ∷ records bs n
records_more bs n = ap (records bs) (add-one n)

pub same_tape : (bs cs : List ℕ) (n m : ℕ) → bs ≡ cs → n ≡ m → tape bs n ≡ tape cs m
same_tape bs cs n m e f = λ i. record { bytes = e i; used = f i }

-- a slot copied over another
pub copied_slot : (bs : List ℕ) (i w : ℕ) → 32 * i + 32 ≤ length bs → copy_within bs (32 * i) (32 * i + 32) (32 * w) ≡ over bs (32 * w) (slot_bytes bs i)
unfolding over
copied_slot bs i w h =
    ap (λ n. take (32 * w) bs ++ take n (drop (32 * i) bs) ++ drop (32 * w + n) bs) (let z : 32 * i + 32 - 32 * i ≡ 32 = omega arith in z)
    ∙ append_assoc (take (32 * w) bs) (slot_bytes bs i) (drop (32 * w + 32) bs)
    ∙ ap (λ n. take (32 * w) bs ++ (slot_bytes bs i ++ drop (32 * w + n) bs)) (sym (length_slot bs i h))
