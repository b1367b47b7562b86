-- Where a refused line stops.
use Rattle.std.specs.Prelude.{ℕ, ◌+◌}
use Rattle.grammar.specs.declared.fault.Place.{Place}
use Rattle.grammar.specs.declared.fault.LineFault.{LineFault}
use Rattle.grammar.specs.declared.fault.LineFault.TheVariants.{Word, Trailing}

abbrev pub place_of : LineFault → Place
place_of (Word f) = f.place
place_of (Trailing p) = p

-- the place behind the first i bytes of a line
abbrev pub place_at : ℕ → ℕ → Place
place_at number i = record { line = number; column = i + 1 }
