-- The calls over lent stores: the stores' meanings, whatever they hold, and the service's book.
use Rattle.std.specs.Prelude.{ℕ, ◌+◌, Bool, cond, not, ◌||◌, List, [], ◌∷◌, ◌++◌, length, Some, None, Ok, Err, Option, Result, ◌==◌, nat_le, slice_index}
use Rattle.lists.specs.Numbers.{member, without}
use Rattle.placement.specs.Laws.{Rule}
use Rattle.pairs.specs.Pairs.{Pair, find, has, next_key, nearer}
use Rattle.store.specs.Meaning.{Meaning}
use Rattle.store.specs.Outcomes.{refuses, put_meaning, erase_meaning}
use Rattle.store.specs.Stores.{nth, change_at}
use Rattle.store.specs.declared.Put.{Put}
use Rattle.store.specs.declared.value.Value.{Value}
use Rattle.entry.specs.declared.fault.EntryFault.{EntryFault}
use Rattle.entry.specs.Kinds.{Kind, encoded}
use Rattle.entry.specs.Calibrations.{calibration_kind}
use Rattle.entry.specs.Readings.{reading_kind}
use Rattle.machine.specs.declared.call.Call.{Call}
use Rattle.machine.specs.declared.fault.Fault.{Fault}
use Rattle.machine.specs.declared.fault.Fault.TheVariants.{BeyondLimit, WrongStore, InChange, NoChange, OtherStores, Lacks, MayNotLeave, Entry}
use Rattle.machine.specs.declared.answer.Moved.{Moved}
use Rattle.machine.specs.declared.answer.Answer.{Answer}
use Rattle.machine.specs.Faults.{full_store, held_store}
use Rattle.machine.specs.Books.{Move, Book, list_under, place, gained, lost, change_opened, key_moved, change_done}
use Rattle.machine.specs.Outcomes.{Outcome, accept, refuse, put_as, entry_in, Reply}
use Rattle.machine.specs.Lists.{TakesCalls, reply_to, answers_to, after_all}
use Rattle.machine.specs.OneMap.{fresh_book, within_limits}

pub record Lent : Type 0 where
  pub stores : List Meaning
  pub book : Book

-- whether a store has no room for k; one that holds k is never full for it
abbrev pub full_for : Meaning → ℕ → Bool
full_for x k = refuses x.pairs x.cap k

-- the first of some stores that is full for k
abbrev pub first_full : List ℕ → List Meaning → ℕ → Option ℕ
first_full [] st k = None
first_full (s ∷ ss) st k = cond (full_for (nth st s) k) (Some s) (first_full ss st k)

-- some stores, each changed by f
abbrev pub change_all : (Meaning → Meaning) → List ℕ → List Meaning → List Meaning
change_all f [] st = st
change_all f (s ∷ ss) st = change_all f ss (change_at st s f)

abbrev pub change_some : (Meaning → Meaning) → Option ℕ → List Meaning → List Meaning
change_some f None st = st
change_some f (Some s) st = change_at st s f

abbrev pub put_all : List ℕ → List Meaning → ℕ → Value → List Meaning
put_all ss st k v = change_all (λ x. put_meaning x k v) ss st

abbrev pub erase_all : List ℕ → List Meaning → ℕ → List Meaning
erase_all ss st k = change_all (λ x. erase_meaning x k) ss st

abbrev pub put_some : Option ℕ → List Meaning → ℕ → Value → List Meaning
put_some g st k v = change_some (λ x. put_meaning x k v) g st

abbrev pub erase_some : Option ℕ → List Meaning → ℕ → List Meaning
erase_some l st k = change_some (λ x. erase_meaning x k) l st

-- the least key not below c over some stores
abbrev pub least : List ℕ → List Meaning → ℕ → Option ℕ
least [] st c = None
least (s ∷ ss) st c = nearer (next_key (nth st s).pairs c) (least ss st c)

-- the first store that holds a pair, its number counted from i
abbrev pub first_holding : ℕ → List Meaning → Option ℕ
first_holding i [] = None
first_holding i (x ∷ st) = cond (length x.pairs == 0) (first_holding (i + 1) st) (Some i)

-- what the first store of a list has at k
abbrev pub first_store : List ℕ → ℕ
first_store l = slice_index l 0

abbrev pub found_on : List Meaning → List ℕ → ℕ → Option Value
found_on st l k = find (nth st (first_store l)).pairs k

abbrev pub held_on : List Meaning → List ℕ → ℕ → Bool
held_on st l k = has (nth st (first_store l)).pairs k

abbrev pub with_stores : Lent → List Meaning → Lent
with_stores o st = record { stores = st; book = o.book }

abbrev pub with_book : Lent → Book → Lent
with_book o b = record { stores = o.stores; book = b }

-- a call is lent as many stores as the service has
abbrev pub all_lent : {R : Type 0} → Lent → Outcome Lent R → Outcome Lent R
all_lent o outcome = cond (length o.stores == o.book.stores) outcome (refuse o OtherStores)

abbrev pub open_unless : Option ℕ → List Meaning → ℕ → ℕ → Result Lent Fault
open_unless None st m r = Ok (record { stores = st; book = fresh_book (length st) m r })
open_unless (Some s) st m r = Err (held_store s)

-- reads and writes over the list of a key
abbrev pub get_on : List ℕ → Lent → ℕ → Outcome Lent (Option Value)
get_on l o k = accept (found_on o.stores l k) o

abbrev pub put_unless : Option ℕ → List ℕ → Lent → ℕ → Value → Outcome Lent Put
put_unless None l o k v = accept (put_as (held_on o.stores l k)) (with_stores o (put_all l o.stores k v))
put_unless (Some s) l o k v = refuse o (full_store s)

abbrev pub put_on : List ℕ → Lent → ℕ → Value → Outcome Lent Put
put_on l o k v = put_unless (first_full l o.stores k) l o k v

abbrev pub remove_on : List ℕ → Lent → ℕ → Outcome Lent Bool
remove_on l o k = accept (held_on o.stores l k) (with_stores o (erase_all l o.stores k))

abbrev pub get_entry_on : {E : Type 0} → Kind E → List ℕ → Lent → ℕ → Outcome Lent (Option E)
get_entry_on kind l o k = record { result = entry_in kind (found_on o.stores l k); after = o }

module _ (p : Rule) where
  -- over n stores, whatever they hold: m members, r copies
  abbrev pub opening : List Meaning → ℕ → ℕ → Result Lent Fault
  opening st m r = cond (within_limits p (length st) m r) (open_unless (first_holding 0 st) st m r) (Err BeyondLimit)

  abbrev pub get : Lent → ℕ → Outcome Lent (Option Value)
  get o k = all_lent o (get_on (place p o.book k) o k)

  abbrev pub put : Lent → ℕ → Value → Outcome Lent Put
  put o k v = all_lent o (put_on (place p o.book k) o k v)

  abbrev pub remove : Lent → ℕ → Outcome Lent Bool
  remove o k = all_lent o (remove_on (place p o.book k) o k)

  abbrev pub put_words : Lent → ℕ → Result Value EntryFault → Outcome Lent Put
  put_words o k (Ok v) = put o k v
  put_words o k (Err f) = refuse o (Entry f)

  abbrev pub put_entry : {E : Type 0} → Kind E → Lent → ℕ → E → Outcome Lent Put
  put_entry kind o k e = put_words o k (encoded kind e)

  abbrev pub get_entry : {E : Type 0} → Kind E → Lent → ℕ → Outcome Lent (Option E)
  get_entry kind o k = all_lent o (get_entry_on kind (place p o.book k) o k)

  abbrev pub open_change : Lent → List ℕ → ℕ → Outcome Lent ℕ
  open_change o T s = accept s (with_book o (change_opened o.book T s))

  -- the joiner holds nothing
  abbrev pub join_empty : List (Pair Value) → Lent → ℕ → Outcome Lent ℕ
  join_empty [] o s = open_change o (o.book.roster ++ s ∷ []) s
  join_empty (x ∷ xs) o s = refuse o (held_store s)

  abbrev pub join_in : Option Move → Lent → ℕ → Outcome Lent ℕ
  join_in (Some m) o s = refuse o InChange
  join_in None o s =
      cond (nat_le o.book.stores s || member s o.book.roster) (refuse o WrongStore)
      (join_empty (nth o.stores s).pairs o s)

  abbrev pub join : Lent → ℕ → Outcome Lent ℕ
  join o s = all_lent o (join_in o.book.change o s)

  abbrev pub leave_in : Option Move → Lent → ℕ → Outcome Lent ℕ
  leave_in (Some m) o s = refuse o InChange
  leave_in None o s =
      cond (nat_le o.book.stores s || not (member s o.book.roster)) (refuse o WrongStore)
      (cond (nat_le (length o.book.roster) 1 || not (p.may_leave o.book.roster s)) (refuse o MayNotLeave)
      (open_change o (without s o.book.roster) s))

  abbrev pub leave : Lent → ℕ → Outcome Lent ℕ
  leave o s = all_lent o (leave_in o.book.change o s)

  -- k with its value is written to the gained store and struck from the lost one
  abbrev pub advance : Lent → Move → ℕ → Value → Option ℕ → Option ℕ → Outcome Lent (Option Moved)
  advance o m k v g l =
      accept (Some (record { key = k; gained = g; lost = l }))
      (record { stores = erase_some l (put_some g o.stores k v) k; book = key_moved o.book m k g })

  abbrev pub advance_unless : Lent → Move → ℕ → Value → Option ℕ → Option ℕ → Outcome Lent (Option Moved)
  advance_unless o m k v None l = advance o m k v None l
  advance_unless o m k v (Some s) l = cond (full_for (nth o.stores s) k) (refuse o (full_store s)) (advance o m k v (Some s) l)

  -- the value comes from the first store of k's list under the roster
  abbrev pub step_with : Option Value → Lent → Move → ℕ → Outcome Lent (Option Moved)
  step_with None o m k = refuse o (Lacks k)
  step_with (Some v) o m k = advance_unless o m k v (gained p o.book m k) (lost p o.book m k)

  abbrev pub step_at : Lent → Move → Option ℕ → Outcome Lent (Option Moved)
  step_at o m None = accept None (with_book o (change_done o.book m))
  step_at o m (Some k) = step_with (found_on o.stores (list_under p o.book o.book.roster k) k) o m k

  abbrev pub step_in : Option Move → Lent → Outcome Lent (Option Moved)
  step_in None o = refuse o NoChange
  step_in (Some m) o = step_at o m (least (o.book.roster ++ m.target) o.stores m.cursor)

  -- the least key not below the cursor over the stores of both rosters moves
  abbrev pub step : Lent → Outcome Lent (Option Moved)
  step o = all_lent o (step_in o.book.change o)

  abbrev pub calls : TakesCalls Lent
  calls = record {
    get = get;
    put = put;
    remove = remove;
    get_calibration = get_entry calibration_kind;
    put_calibration = put_entry calibration_kind;
    get_reading = get_entry reading_kind;
    put_reading = put_entry reading_kind;
    join = join;
    leave = leave;
    step = step;
  }

  abbrev pub call : Lent → Call → Reply Lent
  call o c = reply_to calls o c

  -- a list of calls: the answers, and what is left after them
  abbrev pub answers : Lent → List Call → List Answer
  answers o cs = answers_to calls o cs

  abbrev pub after : Lent → List Call → Lent
  after o cs = after_all calls o cs
