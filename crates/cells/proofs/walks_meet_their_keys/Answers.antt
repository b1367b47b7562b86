use Rattle.cells.proofs.Laws.{walk_laws}
use Rattle.cells.proofs.walks_meet_their_keys.Goals as goal

pub returns : goal.returns
returns c = walk_laws
