use Rattle.script.proofs.Going.{rest_end}
use Rattle.script.proofs.reader.Reader.end.Goals as goal

pub returns-then-self : goal.returns-then-self
returns-then-self c = rest_end _ _ _ _ c.if-self.true c.place.ensures
