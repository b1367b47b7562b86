use Rattle.std.proofs.Common.{◌≡◌, ◌+◌, ◌++◌, drop, string_bytes}
use Rattle.std.specs.Slice.Iter.{iter_rest}
use Rattle.transcript.specs.Woven.{woven}
use Rattle.transcript.proofs.rows.write_rows.Given as goal

-- what is written, and what is left to write
abbrev pub invariant-loop-i : goal.invariant-loop-i
invariant-loop-i l =
    string_bytes l.out ++ woven (l.i + 2) (drop l.i l.rows) (iter_rest l.left)
    ≡ string_bytes l.initial.out ++ woven 2 l.rows l.answers
