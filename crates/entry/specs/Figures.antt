-- Worked figures: what the definitions give, each beside what it should be.
use Rattle.std.specs.Prelude.{◌≡◌, ℕ, List, [], ◌∷◌, Ok, Err, Result}
use Rattle.std.specs.List.{AllByRecursion}
use Rattle.store.specs.declared.value.Value.{Value}
use Rattle.entry.specs.declared.fault.EntryFault.{EntryFault}
use Rattle.entry.specs.declared.fault.EntryFault.TheVariants.{BeyondLimit}
use Rattle.entry.specs.declared.reading.State.{State}
use Rattle.entry.specs.declared.reading.State.TheVariants.{Saturated, Missing}
use Rattle.entry.specs.Kinds.{encoded}
use Rattle.entry.specs.Calibrations.{calibration_kind}
use Rattle.entry.specs.Readings.{reading_kind}

pub record Figure : Type 0 where
  pub given : Result Value EntryFault
  pub due : Result Value EntryFault

abbrev fig : Result Value EntryFault → Result Value EntryFault → Figure
fig g d = record { given = g; due = d }

abbrev pair : ℕ → ℕ → Result Value EntryFault
pair a b = Ok (record { a = a; b = b })

abbrev calibration : ℕ → ℕ → Result Value EntryFault
calibration firmware factor = encoded calibration_kind (record { firmware = firmware; factor = factor })

abbrev reading : ℕ → State → Result Value EntryFault
reading millilitres state = encoded reading_kind (record { millilitres = millilitres; state = state })

-- a calibration, a saturated and a missing reading; the greatest factor, and those on either side of the limits
abbrev pub figures : List Figure
figures =
    fig (calibration 12 250) (pair 1073741824012 1)
    ∷ fig (reading 5 Saturated) (pair 5 258)
    ∷ fig (reading 0 Missing) (pair 0 514)
    ∷ fig (calibration 0 1000000) (pair 4294967296000000 1)
    ∷ fig (calibration 0 0) (Err BeyondLimit)
    ∷ fig (calibration 0 1000001) (Err BeyondLimit)
    ∷ fig (calibration 4294967296 250) (Err BeyondLimit)
    ∷ fig (reading 5 Missing) (Err BeyondLimit)
    ∷ []

abbrev pub FiguresHold : Type 0
FiguresHold = AllByRecursion (λ f. f.given ≡ f.due) figures
