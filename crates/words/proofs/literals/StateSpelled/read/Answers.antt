use Rattle.std.proofs.Common.{refl, arith}
use Rattle.grammar.specs.Spelling.{states}
use Rattle.grammar.proofs.Fronts.{literal_stops}
use Rattle.words.proofs.literals.StateSpelled.read.Goals as goal

pub returns-in_default : goal.returns-in_default
returns-in_default c =
    literal_stops _ _ _ _ _ c.from_utf8.ensures.cases c.unwrap_or.ensures states (omega arith) refl
    (c.in_default.not-valid, (c.in_default.not-saturated, (c.in_default.not-missing, tt)))
    c.astray.result c.astray.ensures
