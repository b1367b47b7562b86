use Rattle.std.proofs.Common.{◌≡◌, ◌≤◌, ◌++◌, length, drop, vec_items, vec_len, vec_capacity}
use Rattle.machine.specs.Lent as lent
use Rattle.serving.specs.Calls.{over}
use Rattle.holder.specs.Books.{service_book, placement_of}
use Rattle.cluster.proofs.call_all.Given as goal

-- what the calls that are left make of the service as it is, they make of it as it was handed in
abbrev pub invariant-loop-asked : goal.invariant-loop-asked
invariant-loop-asked g l =
    let p = g.P.Placement.rule (placement_of l.initial.service) in
    let before = over (g.B.Bank.stores l.initial.bank) (service_book l.initial.service) in
    let now = over (g.B.Bank.stores l.bank) (service_book l.service) in
    let left = drop l.asked-index l.calls in
    record {
      stands : g.B.Bank.standing l.bank;
      placement_kept : placement_of l.service ≡ placement_of l.initial.service;
      answers_all : vec_items l.answers ++ lent.answers p now left ≡ lent.answers p before l.calls;
      leaves : lent.after p now left ≡ lent.after p before l.calls;
      answered : vec_len l.answers ≡ l.asked-index;
      room : length l.calls ≤ vec_capacity l.answers;
      beyond_untouched : g.B.Bank.beyond l.bank ≡ g.B.Bank.beyond l.initial.bank;
    }
