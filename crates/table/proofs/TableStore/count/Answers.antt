use Rattle.std.proofs.Common.{◌^◌, sym, ◌∙◌, of_calls, arith, rules, tests}
use Rattle.std.proofs.lemmas.Iterator.{YieldsList-from_slice, YieldsList-from_map}
use Rattle.std.proofs.lemmas.Iterator.Consumers.{sum_by_from_yields_List, fits_by_from_yields_list}
use Rattle.cells.proofs.Holds.{count_held}
use Rattle.cells.proofs.Turns.{one_a_key, keys_sum}
use Rattle.table.proofs.TableStore.count.Goals as goal

pub sum-requires : goal.sum-requires
sum-requires c =
    let cs = c.args.self.now.cells.now in
    let e = keys_sum cs in
    let r = c.requires.room in
    record {
      can = search of_calls;
      finite = search of_calls;
      fits =
          fits_by_from_yields_list one_a_key cs c.map.result (2 ^ 64)
          (YieldsList-from_map _ one_a_key (YieldsList-from_slice cs cc) c.map.ensures.closure (λ x r q k. search (rules, tests)))
          (omega arith);
    }

pub returns : goal.returns
returns c =
    let cs = c.args.self.now.cells.now in
    sum_by_from_yields_List one_a_key cs c.map.result _ c.sum.ensures.ran
    (YieldsList-from_map _ one_a_key (YieldsList-from_slice cs cc) c.map.ensures.closure (λ x r q k. search (rules, tests)))
    ∙ sym (keys_sum cs) ∙ count_held cs c.requires.distinct
