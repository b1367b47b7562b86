use Rattle.std.proofs.Common.{rules, sym, ◌∙◌, ap, List, ℕ}
use Rattle.std.specs.Borrow.{Bor}
use Rattle.std.specs.Option.{unwrap_or}
use Rattle.std.proofs.lemmas.Iterator.{YieldsList-from_slice, YieldsList-from_map}
use Rattle.std.proofs.lemmas.Iterator.Adapters.{option_map_id}
use Rattle.std.proofs.lemmas.Iterator.Consumers.{max_from_yields_List}
use Rattle.grammar.specs.Slots.{common}
use Rattle.words.proofs.Texts.{furthest_most}
use Rattle.words.proofs.literals.astray.Goals as goal

pub returns : goal.returns
returns c =
    let met = max_from_yields_List _ c.max.result c.max.ensures.ran
    (YieldsList-from_map _ (λ (a : Bor (List ℕ)). common c.args.text.now a.now) (YieldsList-from_slice c.args.words.now cc) c.map.ensures.closure (λ x r q k. search rules)) in
    c.unwrap_or.ensures ∙ ap (λ o. unwrap_or o 0) (sym (option_map_id c.max.result) ∙ met) ∙ furthest_most _ _
