use Rattle.machine.proofs.Agreeing.{list_agrees}
use Rattle.machine.proofs.lists_agree.Goals as goal

pub returns : goal.returns
returns c = list_agrees
