use Rattle.std.proofs.Common.{List, [], ◌∷◌, ◌≡◌, IfOk, Ok, Err, Some, None, Option, refl, ap, rules, tests, subst}
use Rattle.std.specs.List.{filter_map}
use Rattle.std.proofs.lemmas.Iterator.{YieldsList-from_slice, items_from_collect}
use Rattle.std.proofs.lemmas.Iterator.Consumers.{YieldsList-from_filter_map}
use Rattle.machine.specs.declared.call.Call.{Call}
use Rattle.grammar.specs.Lines.{call_of}
use Rattle.transcript.specs.Sessions.{Row}
use Rattle.transcript.specs.Woven.{calls_of}
use Rattle.simulation.proofs.session.calls_in.Goals as goal

-- the call of a row, if it makes one
abbrev row_call : Row → Option Call
row_call (Ok c) = Some (call_of c)
row_call (Err f) = None

are_calls : (rows : List Row) → filter_map row_call rows ≡ calls_of rows
are_calls [] = refl
are_calls (Ok c ∷ rows) = ap (λ l. call_of c ∷ l) (are_calls rows)
are_calls (Err f ∷ rows) = are_calls rows

pub returns : goal.returns
returns c =
    let rows = c.args.rows.now in
    subst (λ l. IfOk c.collect.result (λ v. v.items ≡ l)) (are_calls rows)
    (items_from_collect _ c.collect.ensures.ran (YieldsList-from_filter_map _ row_call (YieldsList-from_slice rows cc) c.filter_map.ensures.closure (λ x r q k. search (rules, tests))))
