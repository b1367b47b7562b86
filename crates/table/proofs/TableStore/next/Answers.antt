use Rattle.std.proofs.Common.{None, ◌∙◌, rules, tests}
use Rattle.std.proofs.lemmas.Iterator.{YieldsList-from_slice}
use Rattle.std.proofs.lemmas.Iterator.Consumers.{fold_from_yields_List}
use Rattle.pairs.specs.Pairs.{nearer}
use Rattle.cells.proofs.Turns.{key_from, keys_next}
use Rattle.table.proofs.TableStore.next.Goals as goal

pub returns : goal.returns
returns c =
    let cs = c.args.self.now.cells.now in
    fold_from_yields_List _ (λ best d. nearer best (key_from c.args.key d)) None c.fold.result c.fold.ensures.ran (YieldsList-from_slice cs cc)
    (λ a x b q k. search (rules, tests))
    ∙ keys_next cs c.args.key
