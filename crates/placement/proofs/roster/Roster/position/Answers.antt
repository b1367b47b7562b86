use Rattle.std.proofs.Common.{eqb, length, inl, rules, tests, sym, ap, ◌∙◌, arith}
use Rattle.std.proofs.lemmas.Iterator.Consumers.{YieldsList-from_first}
use Rattle.std.proofs.lemmas.Iterator.Search.{position_from_yields_List}
use Rattle.placement.specs.Rosters.{members}
use Rattle.placement.proofs.Holding.{length_members, place_position}
use Rattle.placement.proofs.roster.Roster.position.Goals as goal

pub position-requires-clause-fits : goal.position-requires-clause-fits
position-requires-clause-fits c =
    let l = ap length c.iter.ensures ∙ length_members c.args.self.now in
    inl (omega (arith, c.args.self.now.fits))

pub returns : goal.returns
returns c =
    let R = members c.args.self.now in
    position_from_yields_List (λ x. eqb x c.args.store) _ _ c.position.result c.position.ensures.ran (YieldsList-from_first (λ x. x) (λ m. m) R c.iter.ensures) (λ x b q k. search (rules, tests))
    ∙ sym (place_position c.args.store R)
