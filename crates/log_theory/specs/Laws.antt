-- What a reader should know of logs, in plain words.
use Rattle.std.specs.Prelude.{◌≡◌, ℕ, ◌+◌, ◌-◌, ◌*◌, ◌%◌, ◌^◌, ◌<◌, ◌≤◌, true, ◌⊎◌, List, length, take, drop, None, ◌≢◌}
use Rattle.pairs.specs.Pairs.{Pair, find}
use Rattle.store.specs.declared.value.Value.{Value}
use Rattle.log_theory.specs.Tape.{Tape, record_at, records, held, own, pairs_of, slots, greatest_cap, Standing}
use Rattle.log_theory.specs.Moves.{stays, stayers, compacted, put_tape, remove_tape}
use Rattle.log_theory.specs.Image.{image_length, closed_bytes, trailer_at, image_tape, is_image}

-- no slot from i on, below n, has the key
abbrev pub NoneLater : List ℕ → ℕ → ℕ → ℕ → Type 0
NoneLater bs n i k = (j : ℕ) → i ≤ j → j < n → (record_at bs j).key ≢ k

-- the last record of a key decides
pub record Deciding : Type 0 where
  pub last_decides : (bs : List ℕ) (n i : ℕ) → i < n → NoneLater bs n (i + 1) (record_at bs i).key → find (held (records bs n)) (record_at bs i).key ≡ own (record_at bs i)
  pub unwritten_absent : (bs : List ℕ) (n k : ℕ) → NoneLater bs n 0 k → find (held (records bs n)) k ≡ None

-- a slot stays exactly when it is a put and the last record of its key
pub record Compacting : Type 0 where
  pub stays_put : (bs : List ℕ) (n i : ℕ) → stays bs n i ≡ true → (record_at bs i).kind ≡ 1
  pub stays_last : (bs : List ℕ) (n i : ℕ) → i < n → stays bs n i ≡ true → NoneLater bs n (i + 1) (record_at bs i).key
  pub last_put_stays : (bs : List ℕ) (n i : ℕ) → i < n → (record_at bs i).kind ≡ 1 → NoneLater bs n (i + 1) (record_at bs i).key → stays bs n i ≡ true
  -- the slots that stay are all that is left, in order
  pub in_order : (t : Tape) → 32 * t.used ≤ length t.bytes → records (compacted t).bytes (compacted t).used ≡ stayers t.bytes t.used t.used
  pub pairs_stay : (t : Tape) → 32 * t.used ≤ length t.bytes → pairs_of (compacted t) ≡ pairs_of t
  -- each pair has one record, and there is one slot more than the cap: so a slot is free
  pub one_record_each : (t : Tape) → (compacted t).used ≡ length (pairs_of t)
  pub slot_is_free : (t : Tape) (c : ℕ) → Standing t c → (compacted t).used < slots (length t.bytes)

-- no call writes behind the last record then in use
pub record Behind : Type 0 where
  pub put_behind : (t : Tape) (c k : ℕ) (v : Value) → Standing t c → drop (32 * (put_tape t c k v).used) (put_tape t c k v).bytes ≡ drop (32 * (put_tape t c k v).used) t.bytes
  pub remove_behind : (t : Tape) (c k : ℕ) → Standing t c → drop (32 * (remove_tape t k).used) (remove_tape t k).bytes ≡ drop (32 * (remove_tape t k).used) t.bytes

-- when the first n bytes of a slice are an image
pub record LegalImage (bs : List ℕ) (n : ℕ) : Type 0 where
  pub long_enough : 16 ≤ n
  pub in_slice : n ≤ length bs
  pub distance : (trailer_at bs n).distance ≡ n - 16
  pub whole_records : (n - 16) % 32 ≡ 0
  pub cap_least : 1 ≤ (trailer_at bs n).cap
  pub cap_greatest : (trailer_at bs n).cap ≤ greatest_cap
  pub enough_slots : (trailer_at bs n).cap + 1 ≤ slots (length bs)
  pub each_legal : (i : ℕ) → i < slots n → ((record_at bs i).kind ≡ 1) ⊎ (((record_at bs i).kind ≡ 2) × ((record_at bs i).a ≡ 0) × ((record_at bs i).b ≡ 0))
  pub few_live : length (pairs_of (image_tape bs n)) ≤ (trailer_at bs n).cap

-- the first n bytes of a slice are an image of these pairs and this cap
pub record Opens (bs : List ℕ) (n : ℕ) (ps : List (Pair Value)) (c : ℕ) : Type 0 where
  pub accepted : is_image bs n ≡ true
  pub pairs_again : pairs_of (image_tape bs n) ≡ ps
  pub cap_again : (trailer_at bs n).cap ≡ c

-- the first n bytes of cs, carried into any slice that is as long or longer, open to these
abbrev pub OpensAnywhere : List ℕ → ℕ → List (Pair Value) → ℕ → Type 0
OpensAnywhere cs n ps c = (ds : List ℕ) → length cs ≤ length ds → take n ds ≡ take n cs → Opens ds n ps c

pub record Imaging : Type 0 where
  -- what the check accepts is what is legal
  pub accepted_is_legal : (bs : List ℕ) (n : ℕ) → is_image bs n ≡ true → LegalImage bs n
  pub legal_is_accepted : (bs : List ℕ) (n : ℕ) → LegalImage bs n → is_image bs n ≡ true
  -- a closed log opens again, in the same slice or a longer one, with the same pairs and cap
  pub round_trip : (t : Tape) (c : ℕ) → Standing t c → 32 * t.used < 2 ^ 64 → OpensAnywhere (closed_bytes t c) (image_length t.used) (pairs_of t) c
