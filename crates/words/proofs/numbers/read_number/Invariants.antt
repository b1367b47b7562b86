use Rattle.grammar.proofs.Numbers.{Front}
use Rattle.words.proofs.numbers.read_number.Given as goal

abbrev pub invariant-loop-i : goal.invariant-loop-i
invariant-loop-i l = Front l.text l.i l.n
