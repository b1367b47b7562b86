use Rattle.std.proofs.Common.{◌≡◌, drop}
use Rattle.log_theory.specs.Rows.{in_row, any_has}
use Rattle.log_store.proofs.any_has.Given as goal

-- the slots that are left tell what all do
abbrev pub invariant-loop-i : goal.invariant-loop-i
invariant-loop-i l = any_has (in_row (drop l.i l.slots)) l.key ≡ any_has (in_row l.slots) l.key
