use Rattle.std.proofs.Common.{rules, tests, not, sym, ◌∙◌}
use Rattle.std.proofs.lemmas.Iterator.Adapters.{option_map_id}
use Rattle.std.proofs.lemmas.Iterator.Consumers.{YieldsList-from_first}
use Rattle.std.proofs.lemmas.Iterator.Search.{find_from_yields_List}
use Rattle.lists.specs.Numbers.{member}
use Rattle.placement.specs.Rosters.{members}
use Rattle.walks.proofs.Lists.{outside_found}
use Rattle.walks.proofs.outside.Goals as goal

pub returns : goal.returns
returns c =
    let b = members c.args.other.now in
    sym (option_map_id c.find.result)
    ∙ find_from_yields_List (λ s. not (member s b)) _ _ c.find.result c.find.ensures.ran
    (YieldsList-from_first (λ x. x) (λ m. m) _ c.iter.ensures) (λ x b q k. search (rules, tests))
    ∙ outside_found (members c.args.list.now) b
