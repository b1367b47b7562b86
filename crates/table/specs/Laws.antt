-- A standing table obeys the laws of stores.
use Rattle.std.specs.Prelude.{ℕ, List}
use Rattle.store.specs.Meaning.{Lawful}
use Rattle.cells.specs.declared.Cell.{Cell}
use Rattle.cells.specs.Held.{held, Standing}
use Rattle.cells.proofs.Calls.{standing_lawful}

pub table_lawful : (cs : List Cell) (c : ℕ) → Standing cs c → Lawful (held cs) c
table_lawful = standing_lawful
