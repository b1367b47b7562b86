use Rattle.std.proofs.Common.{◌≡◌, ◌++◌, string_bytes}
use Rattle.inspection.specs.Text.{pair_lines}
use Rattle.inspection.proofs.add_pairs.Given as goal

-- what is written, and the lines of the pairs still to come, make the whole
abbrev pub invariant-loop-live : goal.invariant-loop-live
invariant-loop-live l = string_bytes l.out ++ pair_lines l.live-iterator ≡ string_bytes l.initial.out ++ pair_lines l.initial.live-iterator
