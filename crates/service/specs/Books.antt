-- The books of services, and what their calls hand back, in the machine's terms.
use Rattle.std.specs.Prelude.{ℕ, List, Some, None, Ok, Err, Option, Result}
use Rattle.placement.specs.declared.roster.Roster.{Roster}
use Rattle.placement.specs.Rosters.{members}
use Rattle.store.specs.Meaning.{Meaning}
use Rattle.machine.specs.declared.answer.Moved.{Moved}
use Rattle.machine.specs.declared.fault.Fault.{Fault}
use Rattle.machine.specs.Books.{Move, Book, change_opened, key_moved, change_done}
use Rattle.machine.specs.Outcomes.{Outcome, accept, refuse}
use Rattle.machine.specs.Statements as statements
use Rattle.machine.specs.Lent.{Lent}
use Rattle.serving.specs.Calls.{over}
use Rattle.service.specs.declared.states.Settled.{Settled}
use Rattle.service.specs.declared.states.Moving.{Moving}
use Rattle.service.specs.declared.handed.Kept.{Kept}
use Rattle.service.specs.declared.handed.Stepped.{Stepped}
use Rattle.service.specs.declared.handed.Stepped.TheVariants as stepped
use Rattle.service.specs.declared.handed.Closed.{Closed}

abbrev pub settled_book : {P : Type 0} → Settled P → Book
settled_book s = record { stores = s.roster.stores; copies = s.copies; roster = members s.roster; change = None; copied = s.copied }

abbrev pub move_of : {P : Type 0} → Moving P → Move
move_of m = statements.move_of m.change

abbrev pub moving_book : {P : Type 0} → Moving P → Book
moving_book m = record {
  stores = m.settled.roster.stores;
  copies = m.settled.copies;
  roster = members m.settled.roster;
  change = Some (move_of m);
  copied = m.settled.copied;
}

-- an opening with a roster and a number of copies, or its refusal
abbrev pub opened_with : List Meaning → ℕ → Result Roster Fault → Result Lent Fault
opened_with st r (Ok roster) = Ok (over st (record { stores = roster.stores; copies = r; roster = members roster; change = None; copied = 0 }))
opened_with st r (Err f) = Err f

-- what an opening handed back: a service over the stores, or a refusal with the placement
abbrev pub opened : {P : Type 0} → List Meaning → Result (Settled P) (Kept P) → Result Lent Fault
opened st (Ok s) = Ok (over st (settled_book s))
opened st (Err k) = Err k.fault

abbrev pub opened_placement : {P : Type 0} → Result (Settled P) (Kept P) → P
opened_placement (Ok s) = s.placement
opened_placement (Err k) = k.service

-- a change of a store to a target that opens over a service, or its refusal
abbrev pub changed : {P : Type 0} → List Meaning → Settled P → ℕ → Result Roster Fault → Outcome Lent ℕ
changed st s store (Ok target) = accept store (over st (change_opened (settled_book s) (members target) store))
changed st s store (Err f) = refuse (over st (settled_book s)) f

-- what a join or a leave handed back: a service in a change of a store, or a refusal with the service as it was
abbrev pub changing : {P : Type 0} → Result (Moving P) (Kept (Settled P)) → Result ℕ Fault
changing (Ok m) = Ok m.change.store
changing (Err k) = Err k.fault

abbrev pub changing_book : {P : Type 0} → Result (Moving P) (Kept (Settled P)) → Book
changing_book (Ok m) = moving_book m
changing_book (Err k) = settled_book k.service

abbrev pub changing_placement : {P : Type 0} → Result (Moving P) (Kept (Settled P)) → P
changing_placement (Ok m) = m.settled.placement
changing_placement (Err k) = k.service.placement

-- what a step handed back
abbrev pub stepping : {P : Type 0} → Result (Stepped P) (Kept (Moving P)) → Result (Option Moved) Fault
stepping (Ok (stepped.Done s)) = Ok None
stepping (Ok (stepped.Onward d m)) = Ok (Some d)
stepping (Err k) = Err k.fault

abbrev pub stepping_book : {P : Type 0} → Result (Stepped P) (Kept (Moving P)) → Book
stepping_book (Ok (stepped.Done s)) = settled_book s
stepping_book (Ok (stepped.Onward d m)) = moving_book m
stepping_book (Err k) = moving_book k.service

abbrev pub stepping_placement : {P : Type 0} → Result (Stepped P) (Kept (Moving P)) → P
stepping_placement (Ok (stepped.Done s)) = s.placement
stepping_placement (Ok (stepped.Onward d m)) = m.settled.placement
stepping_placement (Err k) = k.service.settled.placement

-- the book after a step with a result
abbrev pub book_after : Book → Move → Result (Option Moved) Fault → Book
book_after b m (Ok None) = change_done b m
book_after b m (Ok (Some d)) = key_moved b m d.key d.gained
book_after b m (Err f) = b

-- what closing hands back
abbrev pub settled_closed : {P : Type 0} → Settled P → Closed P
settled_closed s = record { placement = s.placement; statement = record { roster = s.roster; change = None; copied = s.copied } }

abbrev pub moving_closed : {P : Type 0} → Moving P → Closed P
moving_closed m = record {
  placement = m.settled.placement;
  statement = record { roster = m.settled.roster; change = Some m.change; copied = m.settled.copied };
}
