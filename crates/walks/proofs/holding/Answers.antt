use Rattle.std.proofs.Common.{rules, tests, ◌≡◌, ◌≢◌, length}
use Rattle.std.proofs.lemmas.Iterator.{first_from_Range}
use Rattle.store.specs.Stores.{nth}
use Rattle.walks.proofs.Moves.{held_first}
use Rattle.walks.proofs.holding.Goals as goal

pub returns : goal.returns
returns g c =
    let st = g.B.Bank.stores c.args.bank.now in
    held_first c.len.result st c.find.result c.len.ensures
    (first_from_Range _ _ _ c.find.result (λ s. length (nth st s).pairs ≢ 0) (λ s. length (nth st s).pairs ≡ 0)
    c.find.ensures.ran (λ x q k. search (rules, tests)) (λ x q k. search (rules, tests)))
