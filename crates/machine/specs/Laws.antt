-- Laws over lists of calls and their answers alone, in the user's terms.
use Rattle.std.specs.Prelude.{◌≡◌, ℕ, ◌+◌, ◌%◌, ◌^◌, ◌<◌, Bool, true, false, cond, List, [], ◌∷◌, length, take, Some, None, Option, ◌==◌, slice_index_or}
use Rattle.store.specs.declared.value.Value.{Value}
use Rattle.entry.specs.Kinds.{Kind}
use Rattle.entry.specs.Calibrations.{calibration_kind}
use Rattle.entry.specs.Readings.{reading_kind}
use Rattle.placement.specs.Laws.{Rule}
use Rattle.machine.specs.declared.call.Call.{Call}
use Rattle.machine.specs.declared.call.Call.TheVariants.{Get, Put, Remove, GetCalibration, PutCalibration, GetReading, PutReading, Join, Leave, Step}
use Rattle.machine.specs.declared.answer.Answer.{Answer}
use Rattle.machine.specs.declared.answer.Answer.TheVariants as a
use Rattle.machine.specs.Outcomes.{entry_in, answer_by}
use Rattle.machine.specs.OneMap as one

-- how many of some answers are of accepted steps that named a gained store
abbrev pub named : Option ℕ → ℕ
named None = 0
named (Some s) = 1

abbrev pub gained_in : Answer → ℕ
gained_in (a.Found v) = 0
gained_in (a.FoundCalibration c) = 0
gained_in (a.FoundReading r) = 0
gained_in (a.Stored p) = 0
gained_in (a.Removed b) = 0
gained_in (a.Opened s) = 0
gained_in (a.Moved m) = named m.gained
gained_in a.Done = 0
gained_in (a.Refused f) = 0

abbrev pub gains : List Answer → ℕ
gains [] = 0
gains (x ∷ xs) = gained_in x + gains xs

abbrev pub CopiesAreCounted : Type 0
CopiesAreCounted = (p : Rule) (caps : List ℕ) (m r : ℕ) (cs : List Call) →
    (one.after p (one.fresh caps m r) cs).book.copied ≡ gains (one.answers p (one.fresh caps m r) cs) % 2 ^ 64

-- whether a call was accepted
abbrev pub accepted : Answer → Bool
accepted (a.Found v) = true
accepted (a.FoundCalibration c) = true
accepted (a.FoundReading r) = true
accepted (a.Stored p) = true
accepted (a.Removed b) = true
accepted (a.Opened s) = true
accepted (a.Moved m) = true
accepted a.Done = true
accepted (a.Refused f) = false

-- what key k has after an accepted call, if it had `was` before
abbrev pub wrote : ℕ → Call → Option Value → Option Value
wrote k (Get q) was = was
wrote k (Put q v) was = cond (q == k) (Some v) was
wrote k (Remove q) was = cond (q == k) None was
wrote k (GetCalibration q) was = was
wrote k (PutCalibration q e) was = cond (q == k) (Some (calibration_kind.words e)) was
wrote k (GetReading q) was = was
wrote k (PutReading q e) was = cond (q == k) (Some (reading_kind.words e)) was
wrote k (Join s) was = was
wrote k (Leave s) was = was
wrote k Step was = was

-- what the last accepted put of k wrote, none if a removal came since; `was`, where neither came
abbrev pub last_written : ℕ → Option Value → List Call → List Answer → Option Value
last_written k was [] as' = was
last_written k was (c ∷ cs) [] = was
last_written k was (c ∷ cs) (x ∷ xs) = last_written k (cond (accepted x) (wrote k c was) was) cs xs

-- what a typed get answers of what the key has
abbrev pub typed_answer : {E : Type 0} → (Option E → Answer) → Kind E → Option Value → Answer
typed_answer f kind v = answer_by f (entry_in kind v)

-- each get of a list of calls answers what the calls before it left at its key, whatever joins, leaves and steps lie between
pub record ReadsBack (cs : List Call) (xs : List Answer) : Type 0 where
  pub value : (i k : ℕ) → i < length cs → slice_index_or cs i Step ≡ Get k →
      slice_index_or xs i a.Done ≡ a.Found (last_written k None (take i cs) (take i xs))
  pub calibration : (i k : ℕ) → i < length cs → slice_index_or cs i Step ≡ GetCalibration k →
      slice_index_or xs i a.Done ≡ typed_answer a.FoundCalibration calibration_kind (last_written k None (take i cs) (take i xs))
  pub reading : (i k : ℕ) → i < length cs → slice_index_or cs i Step ≡ GetReading k →
      slice_index_or xs i a.Done ≡ typed_answer a.FoundReading reading_kind (last_written k None (take i cs) (take i xs))

abbrev pub GetsReadBack : Type 0
GetsReadBack = (p : Rule) (caps : List ℕ) (m r : ℕ) (cs : List Call) → ReadsBack cs (one.answers p (one.fresh caps m r) cs)
