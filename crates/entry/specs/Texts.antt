-- How a state of a reading is written.
use Rattle.std.specs.Prelude.{ℕ, List, codes}
use Rattle.entry.specs.declared.reading.State.{State}
use Rattle.entry.specs.declared.reading.State.TheVariants.{Valid, Saturated, Missing}

abbrev pub state_text : State → List ℕ
state_text Valid = codes "valid"
state_text Saturated = codes "saturated"
state_text Missing = codes "missing"
