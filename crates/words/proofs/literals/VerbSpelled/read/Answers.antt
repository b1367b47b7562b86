use Rattle.std.proofs.Common.{refl, arith}
use Rattle.grammar.specs.Spelling.{verbs}
use Rattle.grammar.proofs.Fronts.{literal_stops}
use Rattle.words.proofs.literals.VerbSpelled.read.Goals as goal

pub returns-in_default : goal.returns-in_default
returns-in_default c =
    literal_stops _ _ _ _ _ c.from_utf8.ensures.cases c.unwrap_or.ensures verbs (omega arith) refl
    (c.in_default.not-cal, (c.in_default.not-read, (c.in_default.not-get, (c.in_default.not-del, (c.in_default.not-join, (c.in_default.not-leave, (c.in_default.not-step, tt)))))))
    c.astray.result c.astray.ensures
