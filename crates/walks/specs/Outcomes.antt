-- What a put into every store of a list, and a step's move of a key, answer and leave.
use Rattle.std.specs.Prelude.{ℕ, cond, List, Some, None, Ok, Err, Option, Result}
use Rattle.store.specs.Meaning.{Meaning}
use Rattle.store.specs.Stores.{nth}
use Rattle.store.specs.declared.Put.{Put}
use Rattle.store.specs.declared.fault.StoreFault.TheVariants.{Full}
use Rattle.store.specs.declared.value.Value.{Value}
use Rattle.machine.specs.declared.answer.Moved.{Moved}
use Rattle.machine.specs.declared.fault.StoreRefusal.{StoreRefusal}
use Rattle.machine.specs.Outcomes.{put_as}
use Rattle.machine.specs.Lent.{first_full, full_for, held_on, put_all, put_some, erase_some}

-- refused for a full store
abbrev pub full_at : ℕ → StoreRefusal
full_at s = record { store = s; fault = Full }

abbrev pub put_result_in : Option ℕ → List ℕ → List Meaning → ℕ → Result Put StoreRefusal
put_result_in None l st k = Ok (put_as (held_on st l k))
put_result_in (Some s) l st k = Err (full_at s)

abbrev pub put_stores_in : Option ℕ → List ℕ → List Meaning → ℕ → Value → List Meaning
put_stores_in None l st k v = put_all l st k v
put_stores_in (Some s) l st k v = st

abbrev pub put_result : List ℕ → List Meaning → ℕ → Result Put StoreRefusal
put_result l st k = put_result_in (first_full l st k) l st k

abbrev pub put_stores : List ℕ → List Meaning → ℕ → Value → List Meaning
put_stores l st k v = put_stores_in (first_full l st k) l st k v

-- the gained store, where it is full
abbrev pub full_gained : Option ℕ → List Meaning → ℕ → Option ℕ
full_gained None st k = None
full_gained (Some s) st k = cond (full_for (nth st s) k) (Some s) None

abbrev pub carry_result_in : Option ℕ → Moved → Result Moved StoreRefusal
carry_result_in None m = Ok m
carry_result_in (Some s) m = Err (full_at s)

abbrev pub carry_stores_in : Option ℕ → Moved → List Meaning → Value → List Meaning
carry_stores_in None m st v = erase_some m.lost (put_some m.gained st m.key v) m.key
carry_stores_in (Some s) m st v = st

abbrev pub carry_result : Moved → List Meaning → Result Moved StoreRefusal
carry_result m st = carry_result_in (full_gained m.gained st m.key) m

abbrev pub carry_stores : Moved → List Meaning → Value → List Meaning
carry_stores m st v = carry_stores_in (full_gained m.gained st m.key) m st v
