use Rattle.std.proofs.Common.{refl, arith}
use Rattle.grammar.specs.Spelling.{kinds}
use Rattle.grammar.proofs.Fronts.{literal_stops}
use Rattle.words.proofs.literals.KindSpelled.read.Goals as goal

pub returns-in_default : goal.returns-in_default
returns-in_default c =
    literal_stops _ _ _ _ _ c.from_utf8.ensures.cases c.unwrap_or.ensures kinds (omega arith) refl
    (c.in_default.not-table, (c.in_default.not-log, (c.in_default.not-mixed, tt)))
    c.astray.result c.astray.ensures
