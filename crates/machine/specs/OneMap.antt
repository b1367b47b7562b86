-- The one-map machine: one map, the caps of the stores, and the book. Its calls know no stores.
use Rattle.std.specs.Prelude.{ℕ, Bool, cond, not, ◌&&◌, ◌||◌, List, [], ◌∷◌, ◌++◌, length, Some, None, Ok, Err, Option, Result, nat_le, slice_index}
use Rattle.lists.specs.Numbers.{member, without, count_up}
use Rattle.placement.specs.Laws.{Rule}
use Rattle.pairs.specs.Pairs.{Pair, find, has, insert, erase, next_key, keep}
use Rattle.store.specs.declared.Put.{Put}
use Rattle.store.specs.declared.value.Value.{Value}
use Rattle.entry.specs.declared.fault.EntryFault.{EntryFault}
use Rattle.entry.specs.Kinds.{Kind, encoded}
use Rattle.entry.specs.Calibrations.{calibration_kind}
use Rattle.entry.specs.Readings.{reading_kind}
use Rattle.machine.specs.declared.call.Call.{Call}
use Rattle.machine.specs.declared.fault.Fault.{Fault}
use Rattle.machine.specs.declared.fault.Fault.TheVariants.{BeyondLimit, WrongStore, InChange, NoChange, MayNotLeave, Entry}
use Rattle.machine.specs.declared.answer.Moved.{Moved}
use Rattle.machine.specs.declared.answer.Answer.{Answer}
use Rattle.machine.specs.Faults.{full_store}
use Rattle.machine.specs.Books.{Move, Book, place, on, gained, lost, change_opened, key_moved, change_done}
use Rattle.machine.specs.Outcomes.{Outcome, accept, refuse, put_as, entry_in, Reply}
use Rattle.machine.specs.Lists.{TakesCalls, reply_to, answers_to, after_all}

pub record OneMap : Type 0 where
  pub entries : List (Pair Value)
  pub caps : List ℕ
  pub book : Book

-- how a machine begins: the first m stores are the members
abbrev pub fresh_book : ℕ → ℕ → ℕ → Book
fresh_book n m r = record { stores = n; copies = r; roster = count_up 0 m; change = None; copied = 0 }

abbrev pub fresh : List ℕ → ℕ → ℕ → OneMap
fresh caps m r = record { entries = []; caps = caps; book = fresh_book (length caps) m r }

-- the limits of an opening over n stores: 1 to 16 stores, 1 to n members, copies from 1 to the placement's greatest
abbrev pub within_limits : Rule → ℕ → ℕ → ℕ → Bool
within_limits p n m r = (nat_le 1 n && nat_le n 16) && ((nat_le 1 m && nat_le m n) && (nat_le 1 r && nat_le r p.greatest))

module _ (p : Rule) where
  -- n stores, each with its cap; m members; r copies
  abbrev pub opening : List ℕ → ℕ → ℕ → Result OneMap Fault
  opening caps m r = cond (within_limits p (length caps) m r) (Ok (fresh caps m r)) (Err BeyondLimit)

  -- how many keys are placed on s
  abbrev pub load : OneMap → ℕ → ℕ
  load o s = length (keep (on p o.book s) o.entries)

  abbrev pub full : OneMap → ℕ → Bool
  full o s = nat_le (slice_index o.caps s) (load o s)

  -- the first full store of a list
  abbrev pub first_full : OneMap → List ℕ → Option ℕ
  first_full o [] = None
  first_full o (s ∷ ss) = cond (full o s) (Some s) (first_full o ss)

  abbrev pub with_entries : OneMap → List (Pair Value) → OneMap
  with_entries o m = record { entries = m; caps = o.caps; book = o.book }

  abbrev pub with_book : OneMap → Book → OneMap
  with_book o b = record { entries = o.entries; caps = o.caps; book = b }

  abbrev pub get : OneMap → ℕ → Outcome OneMap (Option Value)
  get o k = accept (find o.entries k) o

  abbrev pub store : OneMap → ℕ → Value → Outcome OneMap Put
  store o k v = accept (put_as (has o.entries k)) (with_entries o (insert o.entries k v))

  abbrev pub store_unless : Option ℕ → OneMap → ℕ → Value → Outcome OneMap Put
  store_unless None o k v = store o k v
  store_unless (Some s) o k v = refuse o (full_store s)

  -- a key of the map is replaced; a new one is refused where a store of its place is full
  abbrev pub put : OneMap → ℕ → Value → Outcome OneMap Put
  put o k v = cond (has o.entries k) (store o k v) (store_unless (first_full o (place p o.book k)) o k v)

  abbrev pub remove : OneMap → ℕ → Outcome OneMap Bool
  remove o k = accept (has o.entries k) (with_entries o (erase o.entries k))

  -- the typed calls, for every kind of entry
  abbrev pub put_words : OneMap → ℕ → Result Value EntryFault → Outcome OneMap Put
  put_words o k (Ok v) = put o k v
  put_words o k (Err f) = refuse o (Entry f)

  abbrev pub put_entry : {E : Type 0} → Kind E → OneMap → ℕ → E → Outcome OneMap Put
  put_entry kind o k e = put_words o k (encoded kind e)

  abbrev pub get_entry : {E : Type 0} → Kind E → OneMap → ℕ → Outcome OneMap (Option E)
  get_entry kind o k = record { result = entry_in kind (find o.entries k); after = o }

  -- a change of store s, to the roster T
  abbrev pub open_change : OneMap → List ℕ → ℕ → Outcome OneMap ℕ
  open_change o T s = accept s (with_book o (change_opened o.book T s))

  abbrev pub join_in : Option Move → OneMap → ℕ → Outcome OneMap ℕ
  join_in (Some m) o s = refuse o InChange
  join_in None o s =
      cond (nat_le o.book.stores s || member s o.book.roster) (refuse o WrongStore)
      (open_change o (o.book.roster ++ s ∷ []) s)

  abbrev pub join : OneMap → ℕ → Outcome OneMap ℕ
  join o s = join_in o.book.change o s

  abbrev pub leave_in : Option Move → OneMap → ℕ → Outcome OneMap ℕ
  leave_in (Some m) o s = refuse o InChange
  leave_in None o s =
      cond (nat_le o.book.stores s || not (member s o.book.roster)) (refuse o WrongStore)
      (cond (nat_le (length o.book.roster) 1 || not (p.may_leave o.book.roster s)) (refuse o MayNotLeave)
      (open_change o (without s o.book.roster) s))

  abbrev pub leave : OneMap → ℕ → Outcome OneMap ℕ
  leave o s = leave_in o.book.change o s

  -- key k goes to its new place
  abbrev pub advance : OneMap → Move → ℕ → Option ℕ → Option ℕ → Outcome OneMap (Option Moved)
  advance o m k g l = accept (Some (record { key = k; gained = g; lost = l })) (with_book o (key_moved o.book m k g))

  abbrev pub advance_unless : OneMap → Move → ℕ → Option ℕ → Option ℕ → Outcome OneMap (Option Moved)
  advance_unless o m k None l = advance o m k None l
  advance_unless o m k (Some s) l = cond (full o s) (refuse o (full_store s)) (advance o m k (Some s) l)

  abbrev pub step_at : OneMap → Move → Option ℕ → Outcome OneMap (Option Moved)
  step_at o m None = accept None (with_book o (change_done o.book m))
  step_at o m (Some k) = advance_unless o m k (gained p o.book m k) (lost p o.book m k)

  abbrev pub step_in : Option Move → OneMap → Outcome OneMap (Option Moved)
  step_in None o = refuse o NoChange
  step_in (Some m) o = step_at o m (next_key o.entries m.cursor)

  -- the smallest key not below the cursor moves; where there is none, the change is done
  abbrev pub step : OneMap → Outcome OneMap (Option Moved)
  step o = step_in o.book.change o

  abbrev pub calls : TakesCalls OneMap
  calls = record {
    get = get;
    put = put;
    remove = remove;
    get_calibration = get_entry calibration_kind;
    put_calibration = put_entry calibration_kind;
    get_reading = get_entry reading_kind;
    put_reading = put_entry reading_kind;
    join = join;
    leave = leave;
    step = step;
  }

  abbrev pub call : OneMap → Call → Reply OneMap
  call o c = reply_to calls o c

  -- a list of calls: the answers, and what is left after them
  abbrev pub answers : OneMap → List Call → List Answer
  answers o cs = answers_to calls o cs

  abbrev pub after : OneMap → List Call → OneMap
  after o cs = after_all calls o cs
