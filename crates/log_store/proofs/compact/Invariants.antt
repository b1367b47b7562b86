use Rattle.std.proofs.Common.{◌≡◌}
use Rattle.codec.specs.Words.{over}
use Rattle.log_theory.specs.Moves.{packed, stay_count}
use Rattle.log_store.proofs.compact.Given as goal

-- the slots that stay, of those passed, stand at the front; behind them the bytes are as they were
abbrev pub invariant-loop-i : goal.invariant-loop-i
invariant-loop-i l = (l.bytes ≡ over l.initial.bytes 0 (packed l.initial.bytes l.used l.i)) × (l.front ≡ stay_count l.initial.bytes l.used l.i)
