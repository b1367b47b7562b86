-- What cells hold, when they are in order, and the cells after each call.
use Rattle.std.specs.Prelude.{◌≡◌, ℕ, ◌+◌, ◌<◌, ◌≤◌, Bool, cond, ◌&&◌, List, [], ◌∷◌, length, replicate, Some, None, Ok, Err, Option, Result, ◌≢◌, nat_le, slice_set}
use Rattle.std.specs.Option.{option_or}
use Rattle.pairs.specs.Pairs.{Pair, insert}
use Rattle.store.specs.declared.value.Value.{Value}
use Rattle.store.specs.declared.fault.StoreFault.{StoreFault}
use Rattle.store.specs.declared.fault.StoreFault.TheVariants.{BeyondLimit}
use Rattle.store.specs.Meaning.{FitsWords, most}
use Rattle.cells.specs.declared.Cell.{Cell}
use Rattle.cells.specs.declared.Cell.TheVariants.{Empty, Live, Gone}
use Rattle.cells.specs.Walk.{cell_at, seat, sought, vacancy}

-- the key and the value of a live cell
abbrev pub key_of : Cell → Option ℕ
key_of Empty = None
key_of (Live k v) = Some k
key_of Gone = None

abbrev pub value_of : Cell → Option Value
value_of Empty = None
value_of (Live k v) = Some v
value_of Gone = None

-- the pairs of the live cells
abbrev pub held_with : Cell → List (Pair Value) → List (Pair Value)
held_with Empty ps = ps
held_with (Live k v) ps = insert ps k v
held_with Gone ps = ps

abbrev pub held : List Cell → List (Pair Value)
held [] = []
held (c ∷ cs) = held_with c (held cs)

-- how many cells are live
abbrev pub live_one : Cell → ℕ
live_one Empty = 0
live_one (Live k v) = 1
live_one Gone = 0

abbrev pub live_count : List Cell → ℕ
live_count [] = 0
live_count (c ∷ cs) = live_one c + live_count cs

-- no two live cells have one key
abbrev pub Distinct : List Cell → Type 0
Distinct cs = (p q k : ℕ) (v w : Value) → cell_at cs p ≡ Live k v → cell_at cs q ≡ Live k w → p ≡ q

-- no cell is empty between the home of a live key and its cell
abbrev pub Unbroken : List Cell → Type 0
Unbroken cs = (k : ℕ) (v : Value) (i j : ℕ) → i < length cs → cell_at cs (seat (length cs) k i) ≡ Live k v → j < i → cell_at cs (seat (length cs) k j) ≢ Empty

-- the keys and words of the live cells fit 64 bits
abbrev pub Worded : List Cell → Type 0
Worded cs = (p k : ℕ) (v : Value) → cell_at cs p ≡ Live k v → FitsWords k v

-- the limits of a table of n cells and cap c
abbrev pub Limits : ℕ → ℕ → Type 0
Limits n c = (0 < c) × (c ≤ n) × (c ≤ most)

-- when a table of these cells and this cap stands
pub record Standing (cs : List Cell) (c : ℕ) : Type 0 where
  pub limits : Limits (length cs) c
  pub distinct : Distinct cs
  pub unbroken : Unbroken cs
  pub worded : Worded cs
  pub room : live_count cs ≤ c

-- a cell written in a place, if there is one
abbrev pub write_at : Option ℕ → List Cell → Cell → List Cell
write_at None cs c = cs
write_at (Some p) cs c = slice_set cs p c

-- where a put of k writes: in k's own cell; else, if the table is not full, in the first cell of
-- the walk that is not live
abbrev pub put_place : List Cell → ℕ → ℕ → Option ℕ
put_place cs c k = option_or (sought cs k) (cond (nat_le c (live_count cs)) None (vacancy cs k))

-- the cells after a put, and after a removal
abbrev pub put_cells : List Cell → ℕ → ℕ → Value → List Cell
put_cells cs c k v = write_at (put_place cs c k) cs (Live k v)

abbrev pub remove_cells : List Cell → ℕ → List Cell
remove_cells cs k = write_at (sought cs k) cs Gone

-- every cell empty
abbrev pub cleared : ℕ → List Cell
cleared n = replicate n Empty

-- whether a table of n cells may have the cap c, and what the opening's check answers
abbrev pub allowed : ℕ → ℕ → Bool
allowed n c = nat_le 1 c && (nat_le c n && nat_le c most)

abbrev pub checked : ℕ → ℕ → Result (Unit {0}) StoreFault
checked n c = cond (allowed n c) (Ok tt) (Err BeyondLimit)
