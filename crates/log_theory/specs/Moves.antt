-- The tape after each call: the records in use and every byte.
use Rattle.std.specs.Prelude.{ℕ, zero, suc, ◌+◌, ◌-◌, ◌*◌, Bool, false, cond, not, ◌&&◌, ◌||◌, List, [], ◌∷◌, ◌++◌, length, ◌==◌, nat_lt}
use Rattle.pairs.specs.Pairs.{has}
use Rattle.store.specs.declared.value.Value.{Value}
use Rattle.store.specs.Outcomes.{refuses}
use Rattle.codec.specs.declared.Record.{Record}
use Rattle.codec.specs.Words.{over}
use Rattle.codec.specs.Records.{encoded}
use Rattle.log_theory.specs.Tape.{Tape, tape, slot_bytes, record_at, is_put, put_record, removal, pairs_of, slots}

-- whether one of d slots, from slot i on, has the key
abbrev pub recurs : List ℕ → ℕ → ℕ → ℕ → Bool
recurs bs i zero k = false
recurs bs i (suc d) k = (record_at bs i).key == k || recurs bs (i + 1) d k

-- whether a slot, among n, is superseded: a later one has its key
abbrev pub superseded : List ℕ → ℕ → ℕ → Bool
superseded bs n i = recurs bs (i + 1) (n - (i + 1)) (record_at bs i).key

-- whether a slot, among n, stays in a compaction: a put that is the last record of its key
abbrev pub stays : List ℕ → ℕ → ℕ → Bool
stays bs n i = is_put (record_at bs i) && not (superseded bs n i)

-- of the first m slots those that stay among n: their bytes in order, their number, and their
-- records, newest first
abbrev pub packed : List ℕ → ℕ → ℕ → List ℕ
packed bs n zero = []
packed bs n (suc m) = cond (stays bs n m) (packed bs n m ++ slot_bytes bs m) (packed bs n m)

abbrev pub stay_count : List ℕ → ℕ → ℕ → ℕ
stay_count bs n zero = 0
stay_count bs n (suc m) = cond (stays bs n m) (stay_count bs n m + 1) (stay_count bs n m)

abbrev pub stayers : List ℕ → ℕ → ℕ → List Record
stayers bs n zero = []
stayers bs n (suc m) = cond (stays bs n m) (record_at bs m ∷ stayers bs n m) (stayers bs n m)

-- how many of the first m slots are superseded among n
abbrev pub superseded_count : List ℕ → ℕ → ℕ → ℕ
superseded_count bs n zero = 0
superseded_count bs n (suc m) = cond (superseded bs n m) (superseded_count bs n m + 1) (superseded_count bs n m)

-- a compaction: the slots that stay, in order, moved to the front
abbrev pub compacted : Tape → Tape
compacted t = tape (over t.bytes 0 (packed t.bytes t.used t.used)) (stay_count t.bytes t.used t.used)

-- a tape with a free slot: compacted where there is none
abbrev pub roomed : Tape → Tape
roomed t = cond (nat_lt t.used (slots (length t.bytes))) t (compacted t)

-- a record written into the first free slot
abbrev pub written : Tape → Record → Tape
written t r = tape (over t.bytes (32 * t.used) (encoded r)) (t.used + 1)

abbrev pub appended : Tape → Record → Tape
appended t r = written (roomed t) r

-- after a put, and after a removal
abbrev pub put_tape : Tape → ℕ → ℕ → Value → Tape
put_tape t c k v = cond (refuses (pairs_of t) c k) t (appended t (put_record k v))

abbrev pub remove_tape : Tape → ℕ → Tape
remove_tape t k = cond (has (pairs_of t) k) (appended t (removal k)) t
