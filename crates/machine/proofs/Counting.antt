-- What every call of the machine does to the count of copies, and what a list of calls does.
use Rattle.std.proofs.Common.{◌≡◌, ℕ, ◌+◌, ◌%◌, ◌^◌, ◌<◌, Bool, true, false, cond, not, ◌||◌, leb, List, [], ◌∷◌, ◌++◌, length, Some, None, Ok, Err, Option, Result, sym, refl, ap, ◌∙◌, arith}
use Rattle.lists.specs.Numbers.{member, without}
use Rattle.placement.specs.Laws.{Rule}
use Rattle.pairs.specs.Pairs.{find, has, next_key}
use Rattle.store.specs.declared.value.Value.{Value}
use Rattle.entry.specs.declared.fault.EntryFault.{EntryFault}
use Rattle.entry.specs.Kinds.{encoded}
use Rattle.entry.specs.Calibrations.{calibration_kind}
use Rattle.entry.specs.Readings.{reading_kind}
use Rattle.machine.specs.declared.call.Call.{Call}
use Rattle.machine.specs.declared.call.Call.TheVariants.{Get, Put, Remove, GetCalibration, PutCalibration, GetReading, PutReading, Join, Leave, Step}
use Rattle.machine.specs.declared.fault.Fault.{Fault}
use Rattle.machine.specs.declared.fault.Fault.TheVariants.{WrongStore, MayNotLeave}
use Rattle.machine.specs.declared.answer.Answer.{Answer}
use Rattle.machine.specs.declared.answer.Answer.TheVariants.{FoundCalibration, FoundReading, Stored, Opened}
use Rattle.machine.specs.Faults.{full_store}
use Rattle.machine.specs.Books.{Move, place, gained, lost}
use Rattle.machine.specs.Outcomes.{Outcome, refuse, Reply, replied, answer_by, entry_in, step_answer}
use Rattle.machine.specs.OneMap as one
use Rattle.machine.specs.OneMap.{OneMap}
use Rattle.machine.specs.Laws.{gained_in, gains}

-- a reply's count is the count before and what its answer names as gained, modulo 2^64
abbrev Counts : ℕ → Reply OneMap → Type 0
Counts n t = t.after.book.copied ≡ (n + gained_in t.answer) % 2 ^ 64

none_more : (n : ℕ) → n < 2 ^ 64 → n ≡ (n + 0) % 2 ^ 64
none_more n h = omega arith

module _ (p : Rule) where
  either : {R : Type 0} (f : R → Answer) (n : ℕ) (x : Bool) (s t : Outcome OneMap R) → Counts n (replied f s) → Counts n (replied f t) → Counts n (replied f (cond x s t))
  either f n true s t a b = a
  either f n false s t a b = b

  module _ (o : OneMap) (h : o.book.copied < 2 ^ 64) where
    same : o.book.copied ≡ (o.book.copied + 0) % 2 ^ 64
    same = none_more o.book.copied h

    put_counts : (k : ℕ) (v : Value) → Counts o.book.copied (replied Stored (one.put p o k v))
    put_counts k v = either Stored o.book.copied (has o.entries k) (one.store p o k v) (one.store_unless p (one.first_full p o (place p o.book k)) o k v) same (go (one.first_full p o (place p o.book k)))
      where
        go : (b : Option ℕ) → Counts o.book.copied (replied Stored (one.store_unless p b o k v))
        go None = same
        go (Some s) = same

    words_count : (k : ℕ) (x : Result Value EntryFault) → Counts o.book.copied (replied Stored (one.put_words p o k x))
    words_count k (Ok v) = put_counts k v
    words_count k (Err f) = same

    entry_counts : {E : Type 0} (f : Option E → Answer) → ((e : Option E) → gained_in (f e) ≡ 0) → (x : Result (Option E) Fault) → o.book.copied ≡ (o.book.copied + gained_in (answer_by f x)) % 2 ^ 64
    entry_counts f z (Ok e) = same ∙ ap (λ (i : ℕ). (o.book.copied + i) % 2 ^ 64) (sym (z e))
    entry_counts f z (Err e) = same

    advance_counts : (m : Move) (k : ℕ) (g l : Option ℕ) → Counts o.book.copied (replied step_answer (one.advance p o m k g l))
    advance_counts m k None l = same
    advance_counts m k (Some s) l = refl

    unless_counts : (m : Move) (k : ℕ) (g l : Option ℕ) → Counts o.book.copied (replied step_answer (one.advance_unless p o m k g l))
    unless_counts m k None l = same
    unless_counts m k (Some s) l = either step_answer o.book.copied (one.full p o s) (refuse o (full_store s)) (one.advance p o m k (Some s) l) same (advance_counts m k (Some s) l)

    step_counts : (c : Option Move) → Counts o.book.copied (replied step_answer (one.step_in p c o))
    step_counts None = same
    step_counts (Some m) = go (next_key o.entries m.cursor)
      where
        go : (x : Option ℕ) → Counts o.book.copied (replied step_answer (one.step_at p o m x))
        go None = same
        go (Some k) = unless_counts m k (gained p o.book m k) (lost p o.book m k)

    join_counts : (s : ℕ) (c : Option Move) → Counts o.book.copied (replied Opened (one.join_in p c o s))
    join_counts s (Some m) = same
    join_counts s None =
        either Opened o.book.copied (leb o.book.stores s || member s o.book.roster) (refuse o WrongStore) (one.open_change p o (o.book.roster ++ s ∷ []) s) same same

    leave_counts : (s : ℕ) (c : Option Move) → Counts o.book.copied (replied Opened (one.leave_in p c o s))
    leave_counts s (Some m) = same
    leave_counts s None =
        either Opened o.book.copied (leb o.book.stores s || not (member s o.book.roster)) (refuse o WrongStore)
        (cond (leb (length o.book.roster) 1 || not (p.may_leave o.book.roster s)) (refuse o MayNotLeave) (one.open_change p o (without s o.book.roster) s)) same
        (either Opened o.book.copied (leb (length o.book.roster) 1 || not (p.may_leave o.book.roster s)) (refuse o MayNotLeave) (one.open_change p o (without s o.book.roster) s) same same)

    call_counts : (c : Call) → Counts o.book.copied (one.call p o c)
    call_counts (Get k) = same
    call_counts (Put k v) = put_counts k v
    call_counts (Remove k) = same
    call_counts (GetCalibration k) = entry_counts FoundCalibration (λ e. refl) (entry_in calibration_kind (find o.entries k))
    call_counts (PutCalibration k e) = words_count k (encoded calibration_kind e)
    call_counts (GetReading k) = entry_counts FoundReading (λ e. refl) (entry_in reading_kind (find o.entries k))
    call_counts (PutReading k e) = words_count k (encoded reading_kind e)
    call_counts (Join s) = join_counts s o.book.change
    call_counts (Leave s) = leave_counts s o.book.change
    call_counts Step = step_counts o.book.change

  list_counts : (cs : List Call) (o : OneMap) → o.book.copied < 2 ^ 64 → (one.after p o cs).book.copied ≡ (o.book.copied + gains (one.answers p o cs)) % 2 ^ 64
  list_counts [] o h = none_more o.book.copied h
  list_counts (c ∷ cs) o h =
      let n : ℕ = o.book.copied in
      let x : ℕ = gained_in (one.call p o c).answer in
      let y : ℕ = gains (one.answers p (one.call p o c).after cs) in
      let e : (one.call p o c).after.book.copied ≡ (n + x) % 2 ^ 64 = call_counts o h c in
      let b : (one.call p o c).after.book.copied < 2 ^ 64 = omega arith in
      let ih : (one.after p (one.call p o c).after cs).book.copied ≡ ((one.call p o c).after.book.copied + y) % 2 ^ 64 = list_counts cs (one.call p o c).after b in
      let w : ((one.call p o c).after.book.copied + y) % 2 ^ 64 ≡ (n + (x + y)) % 2 ^ 64 = omega arith in
      ih ∙ w

  pub copies_counted : (caps : List ℕ) (m r : ℕ) (cs : List Call) →
      (one.after p (one.fresh caps m r) cs).book.copied ≡ gains (one.answers p (one.fresh caps m r) cs) % 2 ^ 64
  copies_counted caps m r cs =
      let e : (one.after p (one.fresh caps m r) cs).book.copied ≡ (0 + gains (one.answers p (one.fresh caps m r) cs)) % 2 ^ 64 = list_counts cs (one.fresh caps m r) (omega arith) in
      omega arith
