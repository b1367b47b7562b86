-- What a call is owed.
use Rattle.std.specs.Prelude.{◌≡◌, List, Result}
use Rattle.store.specs.Meaning.{Meaning}
use Rattle.machine.specs.declared.fault.Fault.{Fault}
use Rattle.machine.specs.Books.{Book}
use Rattle.machine.specs.Outcomes.{Outcome}
use Rattle.machine.specs.Lent.{Lent}

-- some stores, lent to a service with a book
abbrev pub over : List Meaning → Book → Lent
over st b = record { stores = st; book = b }

-- a call gives the result, and leaves the state, that its definition has
pub record Gives {R : Type 0} (outcome : Outcome Lent R) (r : Result R Fault) (after : Lent) : Type 0 where
  pub result : r ≡ outcome.result
  pub leaves : after ≡ outcome.after
