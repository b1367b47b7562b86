use Rattle.std.proofs.Common.{◌≡◌, ◌++◌, drop, string_bytes}
use Rattle.transcript.specs.Texts.{counts_text}
use Rattle.transcript.specs.Woven.{counts_of}
use Rattle.simulation.proofs.session.write_counts.Given as goal

-- what is written, and what is left to write
abbrev pub invariant-loop-store : goal.invariant-loop-store
invariant-loop-store g l =
    string_bytes l.out ++ counts_text l.store-counter (drop l.store-counter (counts_of (g.B.Bank.stores l.bank)))
    ≡ string_bytes l.initial.out ++ counts_text 0 (counts_of (g.B.Bank.stores l.bank))
