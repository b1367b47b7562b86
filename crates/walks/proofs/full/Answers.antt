use Rattle.std.proofs.Common.{rules, tests, sym, ◌∙◌}
use Rattle.std.proofs.lemmas.Iterator.Adapters.{option_map_id}
use Rattle.std.proofs.lemmas.Iterator.Consumers.{YieldsList-from_first}
use Rattle.std.proofs.lemmas.Iterator.Search.{find_from_yields_List}
use Rattle.store.specs.Stores.{nth}
use Rattle.placement.specs.Rosters.{members}
use Rattle.machine.specs.Lent.{full_for}
use Rattle.walks.proofs.Lists.{full_found}
use Rattle.walks.proofs.full.Goals as goal

pub returns : goal.returns
returns g c =
    let st = g.B.Bank.stores c.args.bank.now in
    sym (option_map_id c.find.result)
    ∙ find_from_yields_List (λ s. full_for (nth st s) c.args.key) _ _ c.find.result c.find.ensures.ran
    (YieldsList-from_first (λ x. x) (λ m. m) _ c.iter.ensures) (λ x b q k. search (rules, tests))
    ∙ full_found (members c.args.list.now) st c.args.key
