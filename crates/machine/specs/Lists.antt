-- Lists of calls, over any kind of state that takes them.
use Rattle.std.specs.Prelude.{ℕ, Bool, List, [], ◌∷◌, Option}
use Rattle.store.specs.declared.Put.{Put}
use Rattle.store.specs.declared.value.Value.{Value}
use Rattle.entry.specs.declared.calibration.Calibration.{Calibration}
use Rattle.entry.specs.declared.reading.Reading.{Reading}
use Rattle.machine.specs.declared.call.Call.{Call}
use Rattle.machine.specs.declared.call.Call.TheVariants as calls
use Rattle.machine.specs.declared.answer.Moved.{Moved}
use Rattle.machine.specs.declared.answer.Answer.{Answer}
use Rattle.machine.specs.declared.answer.Answer.TheVariants.{Found, FoundCalibration, FoundReading, Stored, Removed, Opened}
use Rattle.machine.specs.Outcomes.{Outcome, Reply, replied, step_answer}

-- what each call does to a state
pub record TakesCalls (S : Type 0) : Type 0 where
  pub get : S → ℕ → Outcome S (Option Value)
  pub put : S → ℕ → Value → Outcome S Put
  pub remove : S → ℕ → Outcome S Bool
  pub get_calibration : S → ℕ → Outcome S (Option Calibration)
  pub put_calibration : S → ℕ → Calibration → Outcome S Put
  pub get_reading : S → ℕ → Outcome S (Option Reading)
  pub put_reading : S → ℕ → Reading → Outcome S Put
  pub join : S → ℕ → Outcome S ℕ
  pub leave : S → ℕ → Outcome S ℕ
  pub step : S → Outcome S (Option Moved)

module _ {S : Type 0} (t : TakesCalls S) where
  abbrev pub reply_to : S → Call → Reply S
  reply_to s (calls.Get k) = replied Found (t.get s k)
  reply_to s (calls.Put k v) = replied Stored (t.put s k v)
  reply_to s (calls.Remove k) = replied Removed (t.remove s k)
  reply_to s (calls.GetCalibration k) = replied FoundCalibration (t.get_calibration s k)
  reply_to s (calls.PutCalibration k e) = replied Stored (t.put_calibration s k e)
  reply_to s (calls.GetReading k) = replied FoundReading (t.get_reading s k)
  reply_to s (calls.PutReading k e) = replied Stored (t.put_reading s k e)
  reply_to s (calls.Join n) = replied Opened (t.join s n)
  reply_to s (calls.Leave n) = replied Opened (t.leave s n)
  reply_to s calls.Step = replied step_answer (t.step s)

  -- the answers, call by call, and the state after the last: each call gets the state that the one before left
  abbrev pub answers_to : S → List Call → List Answer
  answers_to s [] = []
  answers_to s (c ∷ cs) = (reply_to s c).answer ∷ answers_to (reply_to s c).after cs

  abbrev pub after_all : S → List Call → S
  after_all s [] = s
  after_all s (c ∷ cs) = after_all (reply_to s c).after cs
