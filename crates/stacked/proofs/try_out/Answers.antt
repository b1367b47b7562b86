use Rattle.std.proofs.Common.{eqb, None, refl, ap, ◌∙◌}
use Rattle.std.proofs.lemmas.Bool.{cond-true, eq-eqb}
use Rattle.pairs.specs.Pairs.{find, has, erase}
use Rattle.pairs.proofs.Maps.{find_erase}
use Rattle.stacked.proofs.try_out.Goals as goal

pub returns : goal.returns
returns g c =
    let k = c.args.key in
    let held = c.put-put.new.self in
    let ps = g.S.Store.pairs held in
    let cap = c.cap-cap.ensures in
    let put = c.put-put.ensures.answers_put in
    let pairs = c.put-put.ensures.pairs_follow_put in
    let got = c.get-got.ensures ∙ ap (λ m. find m k) pairs in
    let removed = c.remove-removed.ensures.answers_remove ∙ ap (λ m. has m k) pairs in
    let ordered = (g.S.Store.lawful held c.put-put.ensures.stands).ordered in
    let after =
    c.get-after.ensures ∙ ap (λ m. find m k) c.remove-removed.ensures.pairs_follow_remove
    ∙ find_erase ps k k ordered ∙ cond-true (eqb k k) None (find ps k) (eq-eqb k k refl) in
    record {
      answers = λ i. record { cap = cap i; put = put i; got = got i; removed = removed i; after = after i };
      stands = c.remove-removed.ensures.stands;
      key_is_out = c.remove-removed.ensures.pairs_follow_remove ∙ ap (λ m. erase m k) pairs;
      cap_stays = c.remove-removed.ensures.cap_stays ∙ c.put-put.ensures.cap_stays;
    }
