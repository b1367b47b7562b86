-- A standing log obeys the laws of stores.
use Rattle.std.specs.Prelude.{ℕ}
use Rattle.store.specs.Meaning.{Lawful}
use Rattle.log_theory.specs.Tape.{Tape, pairs_of, Standing}
use Rattle.log_theory.proofs.Calls.{standing_lawful}

pub log_lawful : (t : Tape) (c : ℕ) → Standing t c → Lawful (pairs_of t) c
log_lawful = standing_lawful
