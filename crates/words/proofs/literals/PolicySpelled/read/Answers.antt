use Rattle.std.proofs.Common.{refl, arith}
use Rattle.grammar.specs.Spelling.{policies}
use Rattle.grammar.proofs.Fronts.{literal_stops}
use Rattle.words.proofs.literals.PolicySpelled.read.Goals as goal

pub returns-in-default : goal.returns-in-default
returns-in-default c =
    literal_stops _ _ _ _ _ c.from-utf8.ensures.cases c.unwrap-or.ensures policies (omega arith) refl
    (c.in-default.not-rendezvous, (c.in-default.not-jump, tt))
    c.astray.result c.astray.ensures
