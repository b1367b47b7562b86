use Rattle.std.proofs.Common.{eqb, rules, tests, sym, ◌∙◌}
use Rattle.std.proofs.lemmas.Iterator.Consumers.{YieldsList-from_first}
use Rattle.std.proofs.lemmas.Iterator.Search.{any_from_yields_List}
use Rattle.placement.specs.Rosters.{members}
use Rattle.placement.proofs.Holding.{member_any}
use Rattle.placement.proofs.roster.Roster.contains.Goals as goal

pub returns : goal.returns
returns c =
    let R = members c.args.self.now in
    any_from_yields_List (λ x. eqb x c.args.store) _ _ c.any.result c.any.ensures.ran (YieldsList-from_first (λ x. x) (λ m. m) R c.iter.ensures) (λ x b q k. search (rules, tests))
    ∙ sym (member_any c.args.store R)
