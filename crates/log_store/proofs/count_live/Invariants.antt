use Rattle.std.proofs.Common.{◌≡◌}
use Rattle.log_theory.proofs.Rows.{live_before}
use Rattle.log_store.proofs.count_live.Given as goal

abbrev pub invariant-loop-i : goal.invariant-loop-i
invariant-loop-i l = l.live ≡ live_before l.slots l.i
