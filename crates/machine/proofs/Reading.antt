-- What the machine's map has at a key, by the calls and answers alone.
use Rattle.std.proofs.Common.{◌≡◌, ℕ, zero, suc, ◌<◌, Bool, true, false, cond, not, ◌||◌, eqb, leb, List, [], ◌∷◌, ◌++◌, length, get_or, take, Some, None, Ok, Err, Option, sym, refl, ap, ◌∙◌, subst, arith}
use Rattle.lists.specs.Numbers.{member, without}
use Rattle.placement.specs.Laws.{Rule}
use Rattle.pairs.specs.Pairs.{find, has, next_key, Ascending}
use Rattle.pairs.proofs.Maps.{find_insert, find_erase, insert_ascends, erase_ascends}
use Rattle.store.specs.declared.value.Value.{Value}
use Rattle.entry.specs.declared.fault.EntryFault.TheVariants.{BeyondLimit}
use Rattle.entry.specs.Kinds.{Kind}
use Rattle.entry.specs.Calibrations.{calibration_kind}
use Rattle.entry.specs.Readings.{reading_kind}
use Rattle.machine.specs.declared.call.Call.{Call}
use Rattle.machine.specs.declared.call.Call.TheVariants.{Get, Put, Remove, GetCalibration, PutCalibration, GetReading, PutReading, Join, Leave, Step}
use Rattle.machine.specs.declared.fault.Fault.TheVariants.{WrongStore, MayNotLeave}
use Rattle.machine.specs.declared.answer.Answer.TheVariants.{Found, FoundCalibration, FoundReading, Stored, Done}
use Rattle.machine.specs.Faults.{full_store}
use Rattle.machine.specs.Books.{Move, place, gained, lost}
use Rattle.machine.specs.Outcomes.{Outcome, refuse, Reply, replied}
use Rattle.machine.specs.OneMap as one
use Rattle.machine.specs.OneMap.{OneMap}
use Rattle.machine.specs.Laws.{accepted, wrote, last_written, ReadsBack, typed_answer}

-- a call leaves the keys ascending, and at each key what an accepted call of its sort writes
pub record Leaves (o : OneMap) (c : Call) (t : Reply OneMap) : Type 0 where
  pub ordered : Ascending t.after.entries
  pub writes : (k : ℕ) → find t.after.entries k ≡ cond (accepted t.answer) (wrote k c (find o.entries k)) (find o.entries k)

cond_same : {X : Type 0} (b : Bool) (x : X) → x ≡ cond b x x
cond_same true x = refl
cond_same false x = refl

module _ (p : Rule) (o : OneMap) (asc : Ascending o.entries) where
  -- a call that writes no key leaves the map as it is
  quiet : (c : Call) → ((k : ℕ) (v : Option Value) → wrote k c v ≡ v) → (t : Reply OneMap) → t.after.entries ≡ o.entries → Leaves o c t
  quiet c w t e = record {
    ordered = subst Ascending (sym e) asc;
    writes = λ k. ap (λ (m : List _). find m k) e ∙ cond_same (accepted t.answer) (find o.entries k)
        ∙ ap (λ (v : Option Value). cond (accepted t.answer) v (find o.entries k)) (sym (w k (find o.entries k)));
  }

  -- both branches of a test leave the map as it is
  either : {R : Type 0} (x : Bool) (s t : Outcome OneMap R) → s.after.entries ≡ o.entries → t.after.entries ≡ o.entries → (cond x s t).after.entries ≡ o.entries
  either true s t a b = a
  either false s t a b = b

  -- a put of v at q, by whatever call asks for it
  module _ (c : Call) (q : ℕ) (v : Value) (w : (k : ℕ) (u : Option Value) → wrote k c u ≡ cond (eqb q k) (Some v) u) where
    stores : Leaves o c (replied Stored (one.store p o q v))
    stores = record { ordered = insert_ascends o.entries q v asc; writes = λ k. find_insert o.entries q v k ∙ sym (w k (find o.entries k)) }

    store_leaves : (b : Option ℕ) → Leaves o c (replied Stored (one.store_unless p b o q v))
    store_leaves None = stores
    store_leaves (Some s) = record { ordered = asc; writes = λ k. refl }

    put_leaves : Leaves o c (replied Stored (one.put p o q v))
    put_leaves = go (has o.entries q)
      where
        go : (x : Bool) → Leaves o c (replied Stored (cond x (one.store p o q v) (one.store_unless p (one.first_full p o (place p o.book q)) o q v)))
        go true = stores
        go false = store_leaves (one.first_full p o (place p o.book q))

  entry_leaves : {E : Type 0} (kind : Kind E) (c : Call) (q : ℕ) (e : E) → ((k : ℕ) (u : Option Value) → wrote k c u ≡ cond (eqb q k) (Some (kind.words e)) u) →
      Leaves o c (replied Stored (one.put_entry p kind o q e))
  entry_leaves kind c q e w = go (kind.legal e)
    where
      go : (b : Bool) → Leaves o c (replied Stored (one.put_words p o q (cond b (Ok (kind.words e)) (Err BeyondLimit))))
      go true = put_leaves c q (kind.words e) w
      go false = record { ordered = asc; writes = λ k. refl }

  step_same : (m : Move) (x : Option ℕ) → (one.step_at p o m x).after.entries ≡ o.entries
  step_same m None = refl
  step_same m (Some k) = go (gained p o.book m k)
    where
      go : (g : Option ℕ) → (one.advance_unless p o m k g (lost p o.book m k)).after.entries ≡ o.entries
      go None = refl
      go (Some s) = either (one.full p o s) (refuse o (full_store s)) (one.advance p o m k (Some s) (lost p o.book m k)) refl refl

  step_in_same : (c : Option Move) → (one.step_in p c o).after.entries ≡ o.entries
  step_in_same None = refl
  step_in_same (Some m) = step_same m (next_key o.entries m.cursor)

  join_same : (s : ℕ) (c : Option Move) → (one.join_in p c o s).after.entries ≡ o.entries
  join_same s (Some m) = refl
  join_same s None = either (leb o.book.stores s || member s o.book.roster) (refuse o WrongStore) (one.open_change p o (o.book.roster ++ s ∷ []) s) refl refl

  leave_same : (s : ℕ) (c : Option Move) → (one.leave_in p c o s).after.entries ≡ o.entries
  leave_same s (Some m) = refl
  leave_same s None =
      either (leb o.book.stores s || not (member s o.book.roster)) (refuse o WrongStore)
      (cond (leb (length o.book.roster) 1 || not (p.may_leave o.book.roster s)) (refuse o MayNotLeave) (one.open_change p o (without s o.book.roster) s))
      refl (either (leb (length o.book.roster) 1 || not (p.may_leave o.book.roster s)) (refuse o MayNotLeave) (one.open_change p o (without s o.book.roster) s) refl refl)

  call_leaves : (c : Call) → Leaves o c (one.call p o c)
  call_leaves (Get k) = quiet (Get k) (λ q v. refl) (one.call p o (Get k)) refl
  call_leaves (Put k v) = put_leaves (Put k v) k v (λ q u. refl)
  call_leaves (Remove k) = record { ordered = erase_ascends o.entries k asc; writes = λ q. find_erase o.entries k q asc }
  call_leaves (GetCalibration k) = quiet (GetCalibration k) (λ q v. refl) (one.call p o (GetCalibration k)) refl
  call_leaves (PutCalibration k e) = entry_leaves calibration_kind (PutCalibration k e) k e (λ q u. refl)
  call_leaves (GetReading k) = quiet (GetReading k) (λ q v. refl) (one.call p o (GetReading k)) refl
  call_leaves (PutReading k e) = entry_leaves reading_kind (PutReading k e) k e (λ q u. refl)
  call_leaves (Join s) = quiet (Join s) (λ q v. refl) (one.call p o (Join s)) (join_same s o.book.change)
  call_leaves (Leave s) = quiet (Leave s) (λ q v. refl) (one.call p o (Leave s)) (leave_same s o.book.change)
  call_leaves Step = quiet Step (λ q v. refl) (one.call p o Step) (step_in_same o.book.change)

module _ (p : Rule) where
  -- the machine before call i, by the calls and answers up to there
  before : (k i : ℕ) (cs : List Call) (o : OneMap) → Ascending o.entries →
      find (one.after p o (take i cs)).entries k ≡ last_written k (find o.entries k) (take i cs) (take i (one.answers p o cs))
  before k zero cs o asc = refl
  before k (suc i) [] o asc = refl
  before k (suc i) (c ∷ cs) o asc =
      let l = call_leaves p o asc c in
      before k i cs (one.call p o c).after l.ordered
      ∙ ap (λ (v : Option Value). last_written k v (take i cs) (take i (one.answers p (one.call p o c).after cs))) (l.writes k)

  -- the answer of call i is the machine's there
  answer_at : (i : ℕ) (cs : List Call) (o : OneMap) → i < length cs → get_or (one.answers p o cs) i Done ≡ (one.call p (one.after p o (take i cs)) (get_or cs i Step)).answer
  answer_at i [] o h = absurd (omega arith)
  answer_at zero (c ∷ cs) o h = refl
  answer_at (suc i) (c ∷ cs) o h = answer_at i cs (one.call p o c).after (omega arith)

  pub reads_back : (caps : List ℕ) (m r : ℕ) (cs : List Call) → ReadsBack cs (one.answers p (one.fresh caps m r) cs)
  reads_back caps m r cs =
      let o : OneMap = one.fresh caps m r in
      record {
        value = λ i k h e. answer_at i cs o h ∙ ap (λ (c : Call). (one.call p (one.after p o (take i cs)) c).answer) e
            ∙ ap (λ (v : Option Value). Found v) (before k i cs o tt);
        calibration = λ i k h e. answer_at i cs o h ∙ ap (λ (c : Call). (one.call p (one.after p o (take i cs)) c).answer) e
            ∙ ap (λ (v : Option Value). typed_answer FoundCalibration calibration_kind v) (before k i cs o tt);
        reading = λ i k h e. answer_at i cs o h ∙ ap (λ (c : Call). (one.call p (one.after p o (take i cs)) c).answer) e
            ∙ ap (λ (v : Option Value). typed_answer FoundReading reading_kind v) (before k i cs o tt);
      }
