use Rattle.machine.proofs.Openings.{opening_holds}
use Rattle.machine.proofs.openings_hold_the_empty_map.Goals as goal

pub returns : goal.returns
returns c = opening_holds
