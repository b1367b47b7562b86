use Rattle.std.proofs.Common.{ap, ◌∙◌}
use Rattle.std.proofs.lemmas.Result.{MatchResult-weaker}
use Rattle.script.proofs.Going.{refuses_first, refuses_rest, gives}
use Rattle.script.proofs.commands.read_command.Goals as goal

pub returns-in_err-verb : goal.returns-in_err-verb
returns-in_err-verb c =
    let new = c.new-r.ensures in
    let told = c.in_err-verb.ensures in
    refuses_first _ _ _ _ _ c.from_residual.ensures.1
    (rw (← new.line_is_given, ← new.number_is_given) told.reads_first)

pub returns : goal.returns
returns c =
    let new = c.new-r.ensures in
    let told = c.in_ok-verb.ensures in
    let first = rw new.line_is_given at told.reads_first in
    MatchResult-weaker c.behind.result c.behind.ensures
    (λ x h. gives _ _ _ _ x first (ap (λ l. l.text.now) told.line_stays ∙ new.line_is_given) h)
    (λ f h. refuses_rest _ _ _ _ _ _ f first (ap (λ l. l.text.now) told.line_stays ∙ new.line_is_given) (ap (λ l. l.number) told.line_stays ∙ new.number_is_given) h)
