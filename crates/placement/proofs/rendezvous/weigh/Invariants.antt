use Rattle.std.proofs.Common.{◌≡◌, ◌+◌, ◌<◌, ◌≤◌, ◌++◌, map, take, length}
use Rattle.std.specs.List.{AllByRecursion}
use Rattle.placement.specs.Rosters.{members}
use Rattle.placement.specs.Candidates.{candidate}
use Rattle.placement.proofs.rendezvous.weigh.Given as goal

-- what is weighed, and the members that are left, are the whole
abbrev pub invariant-loop-place : goal.invariant-loop-place
invariant-loop-place l = record {
  small : AllByRecursion (λ s. s < 16) l.store-iterator;
  room : l.place + length l.store-iterator ≡ length l.candidates;
  few : length l.candidates ≤ 16;
  weighed : take l.place l.candidates ++ map (candidate l.key) l.store-iterator ≡ map (candidate l.key) (members l.roster);
}
