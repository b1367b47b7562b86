-- Stores as they are made for a run: empty, of one cap.
use Rattle.std.specs.Prelude.{◌≡◌, ℕ, ◌+◌, ◌*◌, []}
use Rattle.store.specs.Meaning.{Meaning}
use Rattle.cells.specs.Held as cells
use Rattle.table.specs.declared.Table.{Table}
use Rattle.log_theory.specs.Tape as tapes
use Rattle.log_store.specs.declared.Log.{Log}
use Rattle.layers.specs.declared.mixed.Mixed.{Mixed}
use Rattle.layers.specs.declared.mixed.mark.Marked.{Marked}
use Rattle.layers.specs.declared.mixed.mark.Marked.TheVariants.{First, Second}
use Rattle.layers.specs.Marks.{of_marked, OfMarked}
use Rattle.grammar.specs.declared.opening.Kind.{Kind}
use Rattle.grammar.specs.declared.opening.Kind.TheVariants as kind

-- an empty store of a cap
abbrev pub vacant : ℕ → Meaning
vacant c = record { pairs = []; cap = c }

-- each store gets eight cells, or slots, more than its cap
abbrev pub cells_for : ℕ → ℕ
cells_for c = c + 8

abbrev pub bytes_for : ℕ → ℕ
bytes_for c = 32 * (c + 8) + 16

-- which of a table and a log a store is: the table in a mixed cluster's even stores, the log in its odd ones
abbrev pub even_store : Kind → Marked
even_store kind.Table = First
even_store kind.Log = Second
even_store kind.Mixed = First

abbrev pub odd_store : Kind → Marked
odd_store kind.Table = First
odd_store kind.Log = Second
odd_store kind.Mixed = Second

-- a table or a log that stands, is empty and has the cap c
pub record Fresh (c : ℕ) (k : Marked) (m : Mixed Table Log) : Type 0 where
  pub marked : m.marked ≡ k
  pub stands : OfMarked m.marked (cells.Standing m.first.cells.now m.first.cap) (tapes.Standing (tapes.tape m.second.bytes.now m.second.used) m.second.cap)
  pub empty : of_marked m.marked (cells.held m.first.cells.now) (tapes.pairs_of (tapes.tape m.second.bytes.now m.second.used)) ≡ []
  pub capped : of_marked m.marked m.first.cap m.second.cap ≡ c
