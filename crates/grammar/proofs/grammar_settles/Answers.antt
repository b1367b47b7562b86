use Rattle.std.proofs.Common.{arith}
use Rattle.grammar.specs.Lines.{Legal, LegalOpening}
use Rattle.grammar.proofs.Once.{gives_once, opens_once, rejects_once, stops_longest}
use Rattle.grammar.proofs.grammar_settles.Goals as goal

pub returns : goal.returns
returns c = record {
  command = gives_once;
  opening = opens_once;
  column = rejects_once Legal;
  opening_column = rejects_once LegalOpening;
  longest = λ line p q column h e b. omega (arith, h.at, stops_longest Legal line p q h.far h.stops e b);
}
