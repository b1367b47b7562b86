use Rattle.std.proofs.Common.{arith}
use Rattle.std.proofs.lemmas.Grind.{common_steps}
use Rattle.locator.proofs.answer.locate.Goals as goal

pub returns : goal.returns
returns c = (c.in_ok-question.question, c.in_ok-question.ensures, grind (arith, common_steps))
