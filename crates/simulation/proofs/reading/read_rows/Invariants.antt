use Rattle.std.proofs.Common.{vec_items}
use Rattle.std.specs.Iterator.Adapters.{zip_first, zip_second}
use Rattle.transcript.proofs.RowsRead.{SoFar}
use Rattle.simulation.proofs.reading.read_rows.Given as goal

abbrev pub invariant-loop-number : goal.invariant-loop-number
invariant-loop-number l = SoFar l.fn.lines (zip_second l.number-iterator) (vec_items l.rows) (zip_first l.number-iterator).start
