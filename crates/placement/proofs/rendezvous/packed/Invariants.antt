use Rattle.std.proofs.Common.{◌≡◌, map, take}
use Rattle.placement.specs.Packing.{unpack}
use Rattle.placement.specs.Candidates.{store_of}
use Rattle.placement.proofs.rendezvous.packed.Given as goal

abbrev pub invariant-loop-place : goal.invariant-loop-place
invariant-loop-place l = unpack l.word l.place ≡ map store_of (take l.place l.candidates)
