-- A store with its weight for a key.
use Rattle.std.specs.Prelude.{ℕ, ◌<◌, Bool, cond, ◌==◌, nat_le, nat_lt}
use Rattle.placement.specs.declared.rendezvous.Candidate.{Candidate}
use Rattle.placement.specs.Rendezvous.{weight}

abbrev pub candidate : ℕ → ℕ → Candidate
candidate k s = record { weight = record { 0 = weight k s }; store = s }

abbrev pub store_of : Candidate → ℕ
store_of c = c.store

abbrev pub Numbered : Candidate → Type 0
Numbered c = c.store < 16

-- greater weight first, then smaller number
abbrev pub heavier : Candidate → Candidate → Bool
heavier a b = cond (a.weight.0 == b.weight.0) (nat_le a.store b.store) (nat_lt b.weight.0 a.weight.0)
