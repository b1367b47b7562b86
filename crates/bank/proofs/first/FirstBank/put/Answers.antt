use Rattle.std.proofs.Common.{take, ap, ◌∙◌}
use Rattle.store.specs.Outcomes.{put_meaning}
use Rattle.store.proofs.Stores.{change_take}
use Rattle.bank.proofs.first.FirstBank.put.Goals as goal

pub returns-then-s-self-clause-stores_follow_put : goal.returns-then-s-self-clause-stores_follow_put
returns-then-s-self-clause-stores_follow_put g c =
    let b = c.args.self.now in
    ap (take b.few) c.put.ensures.stores_follow_put
    ∙ change_take (g.B.Bank.stores b.bank) c.args.s (λ m. put_meaning m c.args.key c.args.value) b.few c.if-s-self.true
