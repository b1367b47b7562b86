use Rattle.std.proofs.Common.{◌≡◌, ◌≤◌, length, is_some, ap, ◌∙◌, arith}
use Rattle.std.proofs.lemmas.Grind.{common_steps}
use Rattle.log_theory.proofs.Rows.{live_before, live_most, live_more, live_whole}
use Rattle.log_store.proofs.count_live.Goals as goal

pub overflow_add-live : goal.overflow_add-live
overflow_add-live c =
    let most = live_most c.args.slots.now c.loop-i.i (omega arith) in
    let few : c.loop-i.live ≤ c.loop-i.i = omega arith in
    grind (arith, common_steps)

pub overflow_sub-live : goal.overflow_sub-live
overflow_sub-live c =
    let more = live_more c.args.slots.now c.loop-i.i c.read-rec.result c.loop-i-test.true c.read-rec.ensures in
    let was = c.is_some-was_live.ensures ∙ ap is_some c.look_up.ensures in
    grind (arith, common_steps)

pub loop-i-preserved : goal.loop-i-preserved
loop-i-preserved c =
    let more = live_more c.args.slots.now c.loop-i.i c.read-rec.result c.loop-i-test.true c.read-rec.ensures in
    let was = c.is_some-was_live.ensures ∙ ap is_some c.look_up.ensures in
    grind (arith, common_steps)

pub returns : goal.returns
returns c =
    let e : c.loop-i.i ≡ length c.args.slots.now = omega arith in
    c.loop-i.invariant ∙ ap (live_before c.args.slots.now) e ∙ live_whole c.args.slots.now
