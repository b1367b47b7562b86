-- What a call gives and leaves, over any kind of state.
use Rattle.std.specs.Prelude.{Bool, cond, Some, None, Ok, Err, Option, Result}
use Rattle.store.specs.declared.Put.{Put}
use Rattle.store.specs.declared.Put.TheVariants.{New, Replaced}
use Rattle.store.specs.declared.value.Value.{Value}
use Rattle.entry.specs.declared.fault.EntryFault.{EntryFault}
use Rattle.entry.specs.Kinds.{Kind, decoded}
use Rattle.machine.specs.declared.fault.Fault.{Fault}
use Rattle.machine.specs.declared.fault.Fault.TheVariants.{Entry}
use Rattle.machine.specs.declared.answer.Moved.{Moved}
use Rattle.machine.specs.declared.answer.Answer.{Answer}
use Rattle.machine.specs.declared.answer.Answer.TheVariants as answers

-- the result of a call, or its refusal, and the state after it
pub record Outcome (S R : Type 0) : Type 0 where
  pub result : Result R Fault
  pub after : S

abbrev pub accept : {S R : Type 0} → R → S → Outcome S R
accept r s = record { result = Ok r; after = s }

-- a refusal changes nothing
abbrev pub refuse : {S R : Type 0} → S → Fault → Outcome S R
refuse s f = record { result = Err f; after = s }

abbrev pub put_as : Bool → Put
put_as b = cond b Replaced New

-- the entry in what a key holds, where it holds anything
abbrev pub entry_of : {E : Type 0} → Result E EntryFault → Result (Option E) Fault
entry_of (Ok e) = Ok (Some e)
entry_of (Err f) = Err (Entry f)

abbrev pub entry_in : {E : Type 0} → Kind E → Option Value → Result (Option E) Fault
entry_in kind None = Ok None
entry_in kind (Some v) = entry_of (decoded kind v)

-- a call's answer as lists of answers hold it
pub record Reply (S : Type 0) : Type 0 where
  pub answer : Answer
  pub after : S

abbrev pub answer_by : {R : Type 0} → (R → Answer) → Result R Fault → Answer
answer_by f (Ok r) = f r
answer_by f (Err e) = answers.Refused e

abbrev pub replied : {S R : Type 0} → (R → Answer) → Outcome S R → Reply S
replied f o = record { answer = answer_by f o.result; after = o.after }

-- a step that moved a key, or ended the change
abbrev pub step_answer : Option Moved → Answer
step_answer None = answers.Done
step_answer (Some m) = answers.Moved m
