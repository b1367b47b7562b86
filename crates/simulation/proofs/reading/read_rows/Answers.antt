use Rattle.std.proofs.Common.{sym, subst, vec_items}
use Rattle.std.specs.Iterator.Adapters.{zip_second}
use Rattle.transcript.proofs.RowsRead.{SoFar, one_more}
use Rattle.simulation.proofs.reading.read_rows.Goals as goal

pub loop-number-preserved : goal.loop-number-preserved
loop-number-preserved c =
    let (counted, line) = c.in-Some.ensures.steps in
    let so_far = SoFar c.args.lines (zip_second c.loop-number.number-iterator) (vec_items c.loop-number.rows) in
    subst (SoFar c.args.lines (zip_second c.next.new.self) (vec_items c.push.new.self)) (sym counted.1)
    (one_more _ _ _ _ _ _ c.read_command.result _ (subst so_far (sym counted.0) c.loop-number.invariant) line c.read_command.ensures c.in_ok-push.ensures.items)
