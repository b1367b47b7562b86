use Rattle.std.proofs.Common.{◌≡◌}
use Rattle.placement.specs.Rosters.{members}
use Rattle.machine.specs.Lent.{erase_all}
use Rattle.walks.proofs.strike.Given as goal

abbrev pub invariant-loop-store : goal.invariant-loop-store
invariant-loop-store g l =
    (g.B.Bank.standing l.bank)
    × (erase_all l.store-iterator (g.B.Bank.stores l.bank) l.key ≡ erase_all (members l.list) (g.B.Bank.stores l.initial.bank) l.key)
    × (g.B.Bank.beyond l.bank ≡ g.B.Bank.beyond l.initial.bank)
