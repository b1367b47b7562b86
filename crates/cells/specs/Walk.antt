-- The walk for a key: the cells from the key's home on, upwards by one, wrapping. It stops at the
-- key's own cell, at an empty cell, or after all cells.
use Rattle.std.specs.Prelude.{ℕ, zero, suc, ◌+◌, ◌%◌, cond, List, length, Some, None, Option, ◌==◌, slice_index_or}
use Rattle.cells.specs.declared.Cell.{Cell}
use Rattle.cells.specs.declared.Cell.TheVariants.{Empty, Live, Gone}
use Rattle.cells.specs.declared.Walked.{Walked}

-- the cell at a place; past the end there is nothing
abbrev pub cell_at : List Cell → ℕ → Cell
cell_at cs p = slice_index_or cs p Empty

-- where the walk for k stands after i steps, among n cells
abbrev pub seat : ℕ → ℕ → ℕ → ℕ
seat n k i = (k % n + i) % n

-- one step of the walk for k: at a cell, in place p, before the rest of the walk
abbrev pub walk_step : ℕ → Cell → ℕ → Walked → Walked
walk_step k Empty p rest = record { found = None; free = Some p }
walk_step k (Live j v) p rest = record { found = cond (j == k) (Some p) rest.found; free = cond (j == k) None rest.free }
walk_step k Gone p rest = record { found = rest.found; free = Some p }

-- the walk for k among n cells, from its i-th step on, over f cells at most
abbrev pub walk_from : ℕ → List Cell → ℕ → ℕ → ℕ → Walked
walk_from n cs k zero i = record { found = None; free = None }
walk_from n cs k (suc f) i = walk_step k (cell_at cs (seat n k i)) (seat n k i) (walk_from n cs k f (i + 1))

-- the whole walk for k
abbrev pub walk : List Cell → ℕ → Walked
walk cs k = walk_from (length cs) cs k (length cs) 0

-- where it met k, and the first cell it met that is not live
abbrev pub sought : List Cell → ℕ → Option ℕ
sought cs k = (walk cs k).found

abbrev pub vacancy : List Cell → ℕ → Option ℕ
vacancy cs k = (walk cs k).free
