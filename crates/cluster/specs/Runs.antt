-- What a whole run owes: one claim over the list of calls.
use Rattle.std.specs.Prelude.{◌≡◌, ℕ, ◌%◌, ◌^◌, ◌<◌, List, length, Ok, Err, vec_items, slice_index}
use Rattle.placement.specs.Laws.{Rule}
use Rattle.pairs.specs.Pairs.{keep}
use Rattle.store.specs.Meaning.{Meaning}
use Rattle.store.specs.Stores.{nth}
use Rattle.machine.specs.declared.call.Call.{Call}
use Rattle.machine.specs.declared.fault.Fault.TheVariants.{BeyondLimit}
use Rattle.machine.specs.Books.{Book, on}
use Rattle.machine.specs.OneMap as one
use Rattle.machine.specs.OneMap.{OneMap}
use Rattle.machine.specs.Lent as lent
use Rattle.machine.specs.Lent.{Lent}
use Rattle.machine.specs.Holds.{Empty, caps_of}
use Rattle.machine.specs.Laws.{gains, ReadsBack}
use Rattle.machine.specs.declared.statement.Statement.{Statement}
use Rattle.machine.specs.Statements.{closing_of, close}
use Rattle.service.specs.declared.handed.Kept.{Kept}
use Rattle.holder.specs.declared.Service.{Service}
use Rattle.holder.specs.Books.{service_book, placement_of, service_closed}
use Rattle.cluster.specs.declared.runs.Ending.{Ending}
use Rattle.cluster.specs.declared.runs.Ending.TheVariants.{LeaveOpen, Close}
use Rattle.cluster.specs.declared.runs.End.{End}
use Rattle.cluster.specs.declared.runs.End.TheVariants as end
use Rattle.cluster.specs.declared.runs.Ran.{Ran}
use Rattle.cluster.specs.declared.runs.Unrun.{Unrun}
use Rattle.cluster.specs.declared.runs.Unrun.TheVariants.{Refused, NoMemory}

-- the machine as it is opened over the caps of some stores
abbrev pub start : List Meaning → ℕ → ℕ → OneMap
start st m r = one.fresh (caps_of st) m r

-- each store holds exactly the keys of the map that are placed on it, with the map's values, and has its cap
pub record Placed (p : Rule) (o : OneMap) (st : List Meaning) : Type 0 where
  pub as_many : length st ≡ length o.caps
  pub pairs : (s : ℕ) → s < length o.caps → (nth st s).pairs ≡ keep (on p o.book s) o.entries
  pub caps : (s : ℕ) → s < length o.caps → (nth st s).cap ≡ slice_index o.caps s

abbrev pub ended : {P : Type 0} → Ending → Service P → End P
ended LeaveOpen s = end.Open s
ended Close s = end.Closed (service_closed s)

-- the end that was asked for, and in it the machine's book: as the service has it, or as the statement says it
abbrev pub EndsAs : {P : Type 0} → Ending → Book → End P → Type 0
EndsAs LeaveOpen b (end.Open s) = service_book s ≡ b
EndsAs LeaveOpen b (end.Closed c) = ⊥
EndsAs Close b (end.Open s) = ⊥
EndsAs Close b (end.Closed c) = closing_of c.statement ≡ close b

-- what is said at the end of a run, closed already or only then
abbrev pub statement_in : {P : Type 0} → End P → Statement
statement_in (end.Open s) = (service_closed s).statement
statement_in (end.Closed c) = c.statement

abbrev pub copied_in : {P : Type 0} → End P → ℕ
copied_in (end.Open s) = (service_book s).copied
copied_in (end.Closed c) = c.statement.copied

abbrev pub placement_in : {P : Type 0} → End P → P
placement_in (end.Open s) = placement_of s
placement_in (end.Closed c) = c.placement

module _ {P : Type 0} (p : Rule) (x : P) (st : List Meaning) (m r : ℕ) where
  -- the calls ran, from an opening over stores st to stores st'
  pub record RanAs (cs : List Call) (ending : Ending) (st' : List Meaning) (a : Ran P) : Type 0 where
    -- the stores were empty, and the opening kept every limit
    pub empty : Empty st
    pub opened : one.opening p (caps_of st) m r ≡ Ok (start st m r)
    -- call by call, the machine's answers
    pub answers : vec_items a.answers ≡ one.answers p (start st m r) cs
    -- on each store the machine's keys placed there, with the machine's values, and nothing else
    pub stores : Placed p (one.after p (start st m r) cs) st'
    -- as many copies as these answers have accepted steps that named a gained store, modulo 2^64
    pub copies : copied_in a.end ≡ gains (vec_items a.answers) % 2 ^ 64
    -- the service, or its statement, is the machine's
    pub ends : EndsAs ending (one.after p (start st m r) cs).book a.end
    -- a get answers what the calls before it wrote last, by calls and answers alone
    pub reads_back : ReadsBack cs (vec_items a.answers)
    pub placement : placement_in a.end ≡ x

  -- an opening is refused by its own order, and over empty stores exactly where the machine's is
  pub record RefusedAs (st' : List Meaning) (k : Kept P) : Type 0 where
    pub fault : lent.opening p st m r ≡ Err k.fault
    pub over_empty : Empty st → (one.opening p (caps_of st) m r ≡ Err BeyondLimit) × (k.fault ≡ BeyondLimit)
    pub stores : st' ≡ st
    pub placement : k.service ≡ x

  -- no memory for the answers of an opening that is accepted
  pub record Unstarted (st' : List Meaning) (y : P) : Type 0 where
    pub empty : Empty st
    pub opened : one.opening p (caps_of st) m r ≡ Ok (start st m r)
    pub stores : st' ≡ st
    pub placement : y ≡ x

  abbrev pub UnrunAs : List Meaning → Unrun P → Type 0
  UnrunAs st' (Refused k) = RefusedAs st' k
  UnrunAs st' (NoMemory y) = Unstarted st' y
