use Rattle.std.proofs.Common.{◌<◌, ◌++◌, length, string_bytes, ap, ◌∙◌, arith}
use Rattle.transcript.specs.Texts.{count_text}
use Rattle.transcript.proofs.Ends.{wrote, counts_more}
use Rattle.simulation.proofs.session.write_counts.Goals as goal

pub loop-store-preserved : goal.loop-store-preserved
loop-store-preserved g c =
    let st = g.B.Bank.stores c.args.bank.now in
    let s = c.loop-store.store-counter in
    let here : s < length st = omega arith in
    wrote _ _ _ _ _ _
    (c.in_ok-writeln.ensures.bytes ∙ ap (λ n. string_bytes c.loop-store.out ++ count_text s n) c.count-count.ensures)
    (counts_more st s here) c.loop-store.invariant
