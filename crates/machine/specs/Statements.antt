-- What a closed service says of itself, and what the machine says.
use Rattle.std.specs.Prelude.{ℕ, ◌^◌, List, Option}
use Rattle.std.specs.Option.{option_map}
use Rattle.placement.specs.Rosters.{members}
use Rattle.machine.specs.declared.statement.Cursor.{Cursor}
use Rattle.machine.specs.declared.statement.Cursor.TheVariants.{At, Past}
use Rattle.machine.specs.declared.statement.Change.{Change}
use Rattle.machine.specs.declared.statement.Statement.{Statement}
use Rattle.machine.specs.Books.{Move, Book}

-- the roster, the open change, and the count of copies
pub record Closing : Type 0 where
  pub roster : List ℕ
  pub change : Option Move
  pub copied : ℕ

abbrev pub cursor_of : Cursor → ℕ
cursor_of (At k) = k
cursor_of Past = 2 ^ 64

abbrev pub move_of : Change → Move
move_of c = record { target = members c.target; cursor = cursor_of c.cursor; store = c.store }

abbrev pub closing_of : Statement → Closing
closing_of s = record { roster = members s.roster; change = option_map move_of s.change; copied = s.copied }

-- what closing gives
abbrev pub close : Book → Closing
close b = record { roster = b.roster; change = b.change; copied = b.copied }
