-- What the records of a log mean. A log is a row of 32-byte slots in a lent slice of bytes; the
-- first of them, in the order of writing, are in use.
use Rattle.std.specs.Prelude.{◌≡◌, ℕ, zero, suc, ◌+◌, ◌-◌, ◌*◌, ◌/◌, ◌≤◌, Bool, true, cond, ◌&&◌, ◌||◌, List, [], ◌∷◌, length, take, drop, Some, None, Option, ◌==◌, nat_le}
use Rattle.std.specs.List.{list_all}
use Rattle.pairs.specs.Pairs.{Pair, insert, erase}
use Rattle.store.specs.declared.value.Value.{Value}
use Rattle.codec.specs.declared.Record.{Record}
use Rattle.codec.specs.Records.{decoded, FitsRecord}

-- the bytes of a log, and how many of its slots are in use
pub record Tape : Type 0 where
  pub bytes : List ℕ
  pub used : ℕ

abbrev pub tape : List ℕ → ℕ → Tape
tape bs n = record { bytes = bs; used = n }

-- the bytes of a slot, and the record in it
abbrev pub slot_bytes : List ℕ → ℕ → List ℕ
slot_bytes bs i = take 32 (drop (32 * i) bs)

abbrev pub record_at : List ℕ → ℕ → Record
record_at bs i = decoded (slot_bytes bs i)

-- the records in the first n slots, newest first
abbrev pub records : List ℕ → ℕ → List Record
records bs zero = []
records bs (suc n) = record_at bs n ∷ records bs n

-- kind 1 is a put, kind 2 a removal
abbrev pub is_put : Record → Bool
is_put r = r.kind == 1

abbrev pub value_of : Record → Value
value_of r = record { a = r.a; b = r.b }

abbrev pub put_record : ℕ → Value → Record
put_record k v = record { key = k; a = v.a; b = v.b; kind = 1 }

abbrev pub removal : ℕ → Record
removal k = record { key = k; a = 0; b = 0; kind = 2 }

-- what a record says of its key: a put its value, any other that there is none
abbrev pub own : Record → Option Value
own r = cond (is_put r) (Some (value_of r)) None

-- the pairs that records, newest first, leave: each changes what the older ones left
abbrev pub held : List Record → List (Pair Value)
held [] = []
held (r ∷ rs) = cond (is_put r) (insert (held rs) r.key (value_of r)) (erase (held rs) r.key)

abbrev pub pairs_of : Tape → List (Pair Value)
pairs_of t = held (records t.bytes t.used)

-- a legal record is a put, or a removal without a value
abbrev pub legal : Record → Bool
legal r = is_put r || (r.kind == 2 && (r.a == 0 && r.b == 0))

abbrev pub all_legal : List Record → Bool
all_legal rs = list_all legal rs

-- the words of records fit 64 bits
abbrev pub AllFit : List Record → Type 0
AllFit [] = Unit {0}
AllFit (r ∷ rs) = FitsRecord r × AllFit rs

-- how many slots a slice of this length has: 16 bytes are kept for the trailer
abbrev pub slots : ℕ → ℕ
slots n = (n - 16) / 32

-- the greatest cap of a log
abbrev pub greatest_cap : ℕ
greatest_cap = 4095

-- whether a log on a slice of this length may have the cap c: one slot more than c, at least
abbrev pub allowed : ℕ → ℕ → Bool
allowed n c = nat_le 1 c && (nat_le c greatest_cap && nat_le (c + 1) (slots n))

-- when a log of this tape and this cap stands
pub record Standing (t : Tape) (c : ℕ) : Type 0 where
  pub limits : allowed (length t.bytes) c ≡ true
  pub in_slots : t.used ≤ slots (length t.bytes)
  pub lawful : all_legal (records t.bytes t.used) ≡ true
  pub room : length (pairs_of t) ≤ c
  pub words_fit : AllFit (records t.bytes t.used)
