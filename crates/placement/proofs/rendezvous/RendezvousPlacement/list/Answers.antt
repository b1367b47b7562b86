use Rattle.std.proofs.Common.{◌≡◌, ℕ, ◌≤◌, min, take, sym, refl, ap, ◌∙◌, arith, length-take}
use Rattle.order.specs.Sorting.{sort}
use Rattle.order.proofs.Sorts.{length_sort}
use Rattle.placement.specs.declared.roster.Roster.{Roster}
use Rattle.placement.specs.Laws.{nearest}
use Rattle.placement.specs.Rosters.{members}
use Rattle.placement.specs.Rendezvous.{rendezvous, ahead}
use Rattle.placement.specs.Firsts.{firsts_rostered, ahead_ordered, take_whole, heaviest_listed}
use Rattle.placement.proofs.Holding.{kept, members_rostered, length_members}
use Rattle.placement.proofs.rendezvous.RendezvousPlacement.list.Goals as goal

pub heaviest-requires : goal.heaviest-requires
heaviest-requires c =
    let r = c.args.roster.now in
    let fits : r.len ≤ 16 = r.fits in
    let l = length_members r in
    let m : c.list_len-count.result ≤ r.len = (let e = c.list_len-count.ensures in omega arith) in
    simp length-take (omega arith, omega arith)

-- what the code takes is what the rule lists
listed : (r : Roster) (k copies count : ℕ) → count ≡ min (nearest 4 copies) r.len →
    take count (sort (ahead k) (members r)) ≡ take (nearest 4 copies) (sort (ahead k) (members r))
listed r k copies count e =
    let l = length_sort (ahead k) (ahead_ordered k) (members r) in
    let m = length_members r in
    ap (λ (n : ℕ). take n (sort (ahead k) (members r))) (e ∙ ap (min (nearest 4 copies)) (sym m ∙ sym l)) ∙ take_whole (nearest 4 copies) (sort (ahead k) (members r))

pub invariant_of-result : goal.invariant_of-result
invariant_of-result c =
    let r = c.args.roster.now in
    let count = c.list_len-count.result in
    let some : 1 ≤ r.len = r.some in
    let e = c.list_len-count.ensures in
    kept c.heaviest.result count r.stores (take count (sort (ahead c.args.key) (members r))) r.few c.heaviest.ensures
    (firsts_rostered (ahead c.args.key) (ahead_ordered c.args.key) r.stores count (members r) (omega arith) (members_rostered r))

pub returns : goal.returns
unfolding rendezvous members
returns c =
    let r = c.args.roster.now in
    let k = c.args.key in
    let e = c.heaviest.ensures ∙ listed r k c.args.copies c.list_len-count.result c.list_len-count.ensures in
    record {
      follows_rule = e;
      stores_kept = refl;
      heaviest = heaviest_listed k (members r) c.args.copies _ e;
    }
