use Rattle.std.proofs.Common.{refl, arith}
use Rattle.grammar.specs.Spelling.{keywords}
use Rattle.grammar.proofs.Fronts.{literal_stops}
use Rattle.words.proofs.literals.KeywordSpelled.read.Goals as goal

pub returns-in-default : goal.returns-in-default
returns-in-default c =
    literal_stops _ _ _ _ _ c.from-utf8.ensures.cases c.unwrap-or.ensures keywords (omega arith) refl
    (c.in-default.not-cluster, tt)
    c.astray.result c.astray.ensures
