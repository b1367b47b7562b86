-- A row of slots, and the records in it.
use Rattle.std.specs.Prelude.{ℕ, ◌+◌, min, Bool, not, ◌&&◌, List, [], map, reverse, length, drop, count_by, Option, ◌==◌, nat_le, slice_index_or}
use Rattle.std.specs.List.{list_any, filter, reduce, range_with_len}
use Rattle.std.specs.Simd.{first_chunks}
use Rattle.pairs.specs.Pairs.{Pair, has}
use Rattle.store.specs.declared.value.Value.{Value}
use Rattle.codec.specs.declared.Record.{Record}
use Rattle.codec.specs.Records.{decoded}
use Rattle.log_theory.specs.Tape.{is_put}

-- the first n slots of some bytes
abbrev pub row : List ℕ → ℕ → List (List ℕ)
row bs n = first_chunks 32 n bs

-- the records in a row, oldest first, and newest first
abbrev pub in_row : List (List ℕ) → List Record
in_row ss = map decoded ss

abbrev pub newest_first : List (List ℕ) → List Record
newest_first ss = map decoded (reverse ss)

-- whether one of some records has the key
abbrev pub any_has : List Record → ℕ → Bool
any_has rs k = list_any (λ (r : Record). r.key == k) rs

-- whether a slot of a row is superseded: a later one has its key; and whether it stays in a
-- compaction: a put that is the last record of its key
abbrev pub superseded_in : List (List ℕ) → ℕ → Bool
superseded_in ss i = any_has (in_row (drop (i + 1) ss)) (decoded (slice_index_or ss i [])).key

abbrev pub stays_in : List (List ℕ) → ℕ → Bool
stays_in ss i = is_put (decoded (slice_index_or ss i [])) && not (superseded_in ss i)

-- how many slots of a row are superseded, and how many stay
abbrev pub superseded_total : List (List ℕ) → ℕ
superseded_total ss = count_by (superseded_in ss) (range_with_len 0 (length ss))

abbrev pub staying_total : List (List ℕ) → ℕ
staying_total ss = count_by (stays_in ss) (range_with_len 0 (length ss))

-- the least key of some records, of those that ps holds and that are not below another
abbrev pub least_held : List (Pair Value) → List Record → ℕ → Option ℕ
least_held ps rs k = reduce min (filter (λ q. nat_le k q && has ps q) (map (λ (r : Record). r.key) rs))
