use Rattle.std.proofs.Common.{◌≡◌, ◌<◌, length}
use Rattle.cells.specs.Walk.{seat}
use Rattle.cells.proofs.Turns.{Resumes}
use Rattle.table.proofs.Table.walk_for.Given as goal

-- the place is the walk's next, and what is left of the walk gives the whole
abbrev pub invariant-loop-turn : goal.invariant-loop-turn
invariant-loop-turn l =
    record {
      seated : l.place ≡ seat (length l.self.cells.now) l.key l.turn;
      within : l.place < length l.self.cells.now;
      resumes : Resumes l.self.cells.now l.key l.free l.turn;
    }
