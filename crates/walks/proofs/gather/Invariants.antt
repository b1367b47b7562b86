use Rattle.std.proofs.Common.{◌≡◌, ◌+◌, ◌≤◌, ◌++◌, take, length}
use Rattle.placement.specs.Rosters.{members}
use Rattle.walks.specs.Keys.{next_keys}
use Rattle.walks.proofs.gather.Given as goal

abbrev pub invariant-loop-store : goal.invariant-loop-store
invariant-loop-store g l =
    (take l.end l.room ++ next_keys l.store-iterator (g.B.Bank.stores l.bank) l.from
    ≡ take l.start l.initial.room ++ next_keys (members l.list) (g.B.Bank.stores l.bank) l.from)
    × (l.end + length l.store-iterator ≤ l.start + length (members l.list))
    × (length l.room ≡ length l.initial.room)
