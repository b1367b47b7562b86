use Rattle.std.proofs.Common.{rules, ap}
use Rattle.cluster.proofs.Whole.{refused, unstarted, ran}
use Rattle.cluster.proofs.run.Goals as goal

pub returns-in_err-settled-clause-runs_as_the_machine : goal.returns-in_err-settled-clause-runs_as_the_machine
returns-in_err-settled-clause-runs_as_the_machine g c =
    let e = c.open.ensures in
    let told = refused g.P.Placement.rule c.args.placement (g.B.Bank.stores c.args.bank.now) c.args.members c.args.copies c.open.result e.opens e.placement_kept in
    search (rules, told)

pub returns-in_default-clause-runs_as_the_machine : goal.returns-in_default-clause-runs_as_the_machine
returns-in_default-clause-runs_as_the_machine g c =
    let e = c.open.ensures in
    unstarted g.P.Placement.rule c.args.placement (g.B.Bank.stores c.args.bank.now) c.args.members c.args.copies c.open.result e.opens e.placement_kept
    c.in_ok-settled.settled (search rules) c.close-placement.result.placement (ap (λ z. z.placement) c.close-placement.ensures)

pub returns-clause-runs_as_the_machine : goal.returns-clause-runs_as_the_machine
returns-clause-runs_as_the_machine g c =
    let e = c.open.ensures in
    let d = c.call_all-service.ensures in
    ran g.P.Placement.rule c.args.placement (g.B.Bank.stores c.args.bank.now) c.args.members c.args.copies c.open.result e.opens e.placement_kept
    (g.met.P.Placement.lawful c.args.placement) c.in_ok-settled.settled (search rules) c.args.calls.now c.args.ending
    (g.B.Bank.stores c.call_all-service.new.bank) c.call_all-service.result
    (record { answers = c.call_all-service.new.answers; end = c.end.result })
    d.answers_all d.leaves d.placement_kept c.end.ensures
