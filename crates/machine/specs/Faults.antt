-- The refusals by number, and the two that a store's fault stands behind.
use Rattle.std.specs.Prelude.{ℕ}
use Rattle.store.specs.declared.fault.StoreFault.TheVariants.{Full, HoldsPair}
use Rattle.store.specs.Outcomes as stores
use Rattle.machine.specs.declared.fault.Fault.{Fault}
use Rattle.machine.specs.declared.fault.Fault.TheVariants.{BeyondLimit, Store, WrongStore, InChange, NoChange, OtherStores, Lacks, MayNotLeave, Entry}

abbrev pub fault_number : Fault → ℕ
fault_number BeyondLimit = 2
fault_number (Store r) = stores.fault_number r.fault
fault_number WrongStore = 5
fault_number InChange = 7
fault_number NoChange = 8
fault_number OtherStores = 9
fault_number (Lacks k) = 10
fault_number MayNotLeave = 11
fault_number (Entry e) = 12

-- store s is full; store s holds a pair and should not
abbrev pub full_store : ℕ → Fault
full_store s = Store (record { store = s; fault = Full })

abbrev pub held_store : ℕ → Fault
held_store s = Store (record { store = s; fault = HoldsPair })
