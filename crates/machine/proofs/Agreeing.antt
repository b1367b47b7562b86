-- Every call, and every list of calls: the same answers, and the stores go on holding the map.
use Rattle.std.proofs.Common.{◌≡◌, List, [], ◌∷◌, Result, sym, refl, ap, subst}
use Rattle.placement.specs.Laws.{Rule, Lawful}
use Rattle.store.specs.Meaning.{Meaning}
use Rattle.entry.specs.Calibrations.{calibration_kind}
use Rattle.entry.specs.Readings.{reading_kind}
use Rattle.machine.specs.declared.call.Call.{Call}
use Rattle.machine.specs.declared.call.Call.TheVariants.{Get, Put, Remove, GetCalibration, PutCalibration, GetReading, PutReading, Join, Leave, Step}
use Rattle.machine.specs.declared.fault.Fault.{Fault}
use Rattle.machine.specs.declared.answer.Answer.{Answer}
use Rattle.machine.specs.declared.answer.Answer.TheVariants.{Found, FoundCalibration, FoundReading, Stored, Removed, Opened}
use Rattle.machine.specs.Outcomes.{Outcome, Reply, replied, answer_by, step_answer}
use Rattle.machine.specs.OneMap as one
use Rattle.machine.specs.OneMap.{OneMap}
use Rattle.machine.specs.Lent as lent
use Rattle.machine.specs.Lent.{Lent}
use Rattle.machine.specs.Holds.{Holds}
use Rattle.machine.proofs.Calls.{over, Follows, get_follows, put_follows, remove_follows, get_entry_follows, put_entry_follows}
use Rattle.machine.proofs.Steps.{step_follows}
use Rattle.machine.proofs.Changes.{join_follows, leave_follows}

-- what is owed of each call of a list
pub record AnswersAlike (p : Rule) (t : Reply OneMap) (l : Reply Lent) : Type 0 where
  pub answer : l.answer ≡ t.answer
  pub holds : Holds p t.after l.after

reply : (p : Rule) {R : Type 0} (f : R → Answer) (t : Outcome OneMap R) (l : Outcome Lent R) → Follows p t l → AnswersAlike p (replied f t) (replied f l)
reply p {R} f t l h = record { answer = ap (λ (x : Result R Fault). answer_by f x) h.result; holds = h.holds }

module _ (p : Rule) (law : Lawful p) where
  over_follows : (o : OneMap) (st : List Meaning) → Holds p o (over o st) → (c : Call) → AnswersAlike p (one.call p o c) (lent.call p (over o st) c)
  over_follows o st h (Get k) = reply p Found (one.get p o k) (lent.get p (over o st) k) (get_follows p law o st h k)
  over_follows o st h (Put k v) = reply p Stored (one.put p o k v) (lent.put p (over o st) k v) (put_follows p law o st h k v)
  over_follows o st h (Remove k) = reply p Removed (one.remove p o k) (lent.remove p (over o st) k) (remove_follows p law o st h k)
  over_follows o st h (GetCalibration k) = reply p FoundCalibration (one.get_entry p calibration_kind o k) (lent.get_entry p calibration_kind (over o st) k) (get_entry_follows p law o st h calibration_kind k)
  over_follows o st h (PutCalibration k e) = reply p Stored (one.put_entry p calibration_kind o k e) (lent.put_entry p calibration_kind (over o st) k e) (put_entry_follows p law o st h calibration_kind k e)
  over_follows o st h (GetReading k) = reply p FoundReading (one.get_entry p reading_kind o k) (lent.get_entry p reading_kind (over o st) k) (get_entry_follows p law o st h reading_kind k)
  over_follows o st h (PutReading k e) = reply p Stored (one.put_entry p reading_kind o k e) (lent.put_entry p reading_kind (over o st) k e) (put_entry_follows p law o st h reading_kind k e)
  over_follows o st h (Join s) = reply p Opened (one.join p o s) (lent.join p (over o st) s) (join_follows p law o st h s)
  over_follows o st h (Leave s) = reply p Opened (one.leave p o s) (lent.leave p (over o st) s) (leave_follows p law o st h s)
  over_follows o st h Step = reply p step_answer (one.step p o) (lent.step p (over o st)) (step_follows p law o st h)

  pub call_agrees : (o : OneMap) (l : Lent) → Holds p o l → (c : Call) → AnswersAlike p (one.call p o c) (lent.call p l c)
  call_agrees o l h c =
      subst (λ (x : Lent). AnswersAlike p (one.call p o c) (lent.call p x c)) (sym same)
      (over_follows o l.stores (subst (λ (x : Lent). Holds p o x) same h) c)
    where
      same : l ≡ over o l.stores
      same = λ i. record { stores = l.stores; book = h.book i }

  pub list_agrees : (o : OneMap) (l : Lent) → Holds p o l → (cs : List Call) →
      (lent.answers p l cs ≡ one.answers p o cs) × Holds p (one.after p o cs) (lent.after p l cs)
  list_agrees o l h [] = (refl, h)
  list_agrees o l h (c ∷ cs) =
      let f : AnswersAlike p (one.call p o c) (lent.call p l c) = call_agrees o l h c in
      let r = list_agrees (one.call p o c).after (lent.call p l c).after f.holds cs in
      (λ i. f.answer i ∷ r.0 i, r.1)
