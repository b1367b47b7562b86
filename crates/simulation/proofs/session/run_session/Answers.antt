use Rattle.std.proofs.Common.{◌≡◌, take, sym, ap, ◌∙◌, subst}
use Rattle.std.proofs.lemmas.Result.{err_from_is_err_and}
use Rattle.transcript.specs.Woven.{calls_of}
use Rattle.simulation.specs.Ends.{Unopened}
use Rattle.simulation.proofs.Machines.{mapped, unopened, ended_session}
use Rattle.simulation.proofs.session.run_session.Goals as goal

pub returns-in_err-answers : goal.returns-in_err-answers
returns-in_err-answers g c =
    let o = c.args.opening.now in
    let h = mapped c.run-ran.result c.map_err.result _ _ _ c.run-ran.ensures.runs_as_the_machine c.map_err.ensures.cases in
    let k = rw c.in_err-answers.was at h in
    let p = err_from_is_err_and c.from_residual-in_err-answers.result c.from_residual-in_err-answers.ensures.1 in
    rw (p.1, p.2) (subst (Unopened o) (sym k.1.1) (unopened o c.requires.limits _ (ap (take o.stores) c.requires.vacant) o.policy _ k.0 k.1.0))

pub returns : goal.returns
returns g c =
    let o = c.args.opening.now in
    let calls : c.as_slice.result.now ≡ calls_of c.args.rows.now = c.as_slice.ensures.value ∙ c.in_ok-calls.ensures in
    let h = mapped c.run-ran.result c.map_err.result _ _ _ c.run-ran.ensures.runs_as_the_machine c.map_err.ensures.cases in
    let k = rw c.in_ok-answers.was at h in
    let ran = rw calls at k in
    ended_session o c.requires.limits _ (ap (take o.stores) c.requires.vacant) _ c.args.rows.now _ _ _ _ _ ran c.as_slice-2.ensures.value c.statement-statement.ensures c.in_ok-write_session.ensures
