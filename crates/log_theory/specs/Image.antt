-- The image of a closed log: the records in use and behind them a trailer of 16 bytes, which tells
-- how many bytes back the first record is, and the cap.
use Rattle.std.specs.Prelude.{ℕ, ◌+◌, ◌-◌, ◌*◌, ◌%◌, Bool, cond, ◌&&◌, List, length, take, drop, Ok, Err, Result, ◌==◌, nat_le}
use Rattle.store.specs.declared.fault.StoreFault.{StoreFault}
use Rattle.store.specs.declared.fault.StoreFault.TheVariants.{BeyondLimit, BadImage}
use Rattle.codec.specs.declared.Trailer.{Trailer}
use Rattle.codec.specs.Words.{over}
use Rattle.codec.specs.Records.{trailer_encoded, trailer_decoded}
use Rattle.log_theory.specs.Tape.{Tape, tape, records, pairs_of, all_legal, slots, allowed}

-- how many bytes the image of n records has
abbrev pub image_length : ℕ → ℕ
image_length n = 32 * n + 16

-- the trailer of a log of n records and cap c, and the bytes with it behind the records in use
abbrev pub trailer_of : ℕ → ℕ → Trailer
trailer_of n c = record { distance = 32 * n; cap = c }

abbrev pub closed_bytes : Tape → ℕ → List ℕ
closed_bytes t c = over t.bytes (32 * t.used) (trailer_encoded (trailer_of t.used c))

-- the trailer at the end of the first n bytes, and the tape that they are
abbrev pub trailer_at : List ℕ → ℕ → Trailer
trailer_at bs n = trailer_decoded (take 16 (drop (n - 16) bs))

abbrev pub image_tape : List ℕ → ℕ → Tape
image_tape bs n = tape bs (slots n)

-- whether the first n bytes are an image
abbrev pub is_image : List ℕ → ℕ → Bool
is_image bs n =
    nat_le 16 n && (nat_le n (length bs) && ((trailer_at bs n).distance == n - 16 && ((n - 16) % 32 == 0
    && (allowed (length bs) (trailer_at bs n).cap && (all_legal (records bs (slots n)) && nat_le (length (pairs_of (image_tape bs n))) (trailer_at bs n).cap)))))

-- the cap that an opening takes: 0, which no log may have, where there is no image
abbrev pub opened_cap : List ℕ → ℕ → ℕ
opened_cap bs n = cond (is_image bs n) (trailer_at bs n).cap 0

-- what the check of a fresh log answers, and that of an image
abbrev pub fresh_answer : ℕ → ℕ → Result (Unit {0}) StoreFault
fresh_answer n c = cond (allowed n c) (Ok tt) (Err BeyondLimit)

abbrev pub image_answer : List ℕ → ℕ → Result (Unit {0}) StoreFault
image_answer bs n = cond (is_image bs n) (Ok tt) (Err BadImage)
