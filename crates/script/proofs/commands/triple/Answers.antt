use Rattle.std.proofs.Common.{rules}
use Rattle.script.proofs.Going.{by_word, by_line, here, further}
use Rattle.script.proofs.commands.triple.Goals as goal

pub returns-in_err-next-2 : goal.returns-in_err-next-2
returns-in_err-next-2 g c = search (rules, by_word, by_line, here, further)

pub returns-in_err-last : goal.returns-in_err-last
returns-in_err-last g c = search (rules, by_word, by_line, here, further)
