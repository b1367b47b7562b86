use Rattle.std.proofs.Common.{◌≡◌, ◌-◌, ◌<◌}
use Rattle.placement.specs.Jump.{walk, position}
use Rattle.placement.proofs.jump.walk_end.Given as goal

abbrev pub invariant-loop-key : goal.invariant-loop-key
invariant-loop-key l = (l.at < l.len) × (walk (l.len - l.at) l.state l.at l.len ≡ position l.key l.len)

abbrev pub decreases-loop-key : goal.decreases-loop-key
decreases-loop-key l = l.len - l.at
