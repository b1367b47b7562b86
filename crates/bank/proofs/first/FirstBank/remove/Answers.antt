use Rattle.std.proofs.Common.{take, ap, ◌∙◌}
use Rattle.store.specs.Outcomes.{erase_meaning}
use Rattle.store.proofs.Stores.{change_take}
use Rattle.bank.proofs.first.FirstBank.remove.Goals as goal

pub returns-then-s-self-clause-stores_follow_remove : goal.returns-then-s-self-clause-stores_follow_remove
returns-then-s-self-clause-stores_follow_remove g c =
    let b = c.args.self.now in
    ap (take b.few) c.remove.ensures.stores_follow_remove
    ∙ change_take (g.B.Bank.stores b.bank) c.args.s (λ m. erase_meaning m c.args.key) b.few c.if-s-self.true
