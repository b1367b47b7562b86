-- The book of a service of either kind, and what a call of a list is owed.
use Rattle.std.specs.Prelude.{◌≡◌}
use Rattle.machine.specs.declared.answer.Answer.{Answer}
use Rattle.machine.specs.Books.{Book}
use Rattle.machine.specs.Outcomes.{Reply}
use Rattle.machine.specs.Lent.{Lent}
use Rattle.service.specs.Books.{settled_book, moving_book, settled_closed, moving_closed}
use Rattle.service.specs.declared.handed.Closed.{Closed}
use Rattle.holder.specs.declared.Service.{Service}
use Rattle.holder.specs.declared.Service.TheVariants as service

abbrev pub service_book : {P : Type 0} → Service P → Book
service_book (service.Settled s) = settled_book s
service_book (service.Moving m) = moving_book m

abbrev pub placement_of : {P : Type 0} → Service P → P
placement_of (service.Settled s) = s.placement
placement_of (service.Moving m) = m.settled.placement

abbrev pub service_closed : {P : Type 0} → Service P → Closed P
service_closed (service.Settled s) = settled_closed s
service_closed (service.Moving m) = moving_closed m

-- a call gives the answer, and leaves the state, that its definition has
pub record Replies (reply : Reply Lent) (answer : Answer) (after : Lent) : Type 0 where
  pub answers : answer ≡ reply.answer
  pub leaves : after ≡ reply.after
