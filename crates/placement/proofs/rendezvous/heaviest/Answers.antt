use Rattle.std.proofs.Common.{◌≤◌, length, sym, ap, ◌∙◌, arith}
use Rattle.placement.specs.Packing.{unpack}
use Rattle.placement.specs.Rosters.{members}
use Rattle.placement.proofs.Holding.{length_members, members_small}
use Rattle.placement.proofs.Weighing.{front_length, front_numbered, front_stores}
use Rattle.placement.proofs.rendezvous.heaviest.Goals as goal

pub packed-requires : goal.packed-requires
packed-requires c =
    let r = c.args.roster.now in
    let l = length_members r in
    let h : c.args.count ≤ length (members r) = omega (arith, c.requires.0, c.requires.1) in
    let n = front_length c.args.key c.args.count (members r) _ _ c.weigh.ensures c.select_first.ensures.rearranged h in
    (omega (arith, n, l, r.fits, c.requires.0, c.requires.1), front_numbered c.args.key c.args.count (members r) _ _ c.weigh.ensures c.select_first.ensures.rearranged (members_small r))

pub returns : goal.returns
returns c =
    let R = members c.args.roster.now in
    let h : c.args.count ≤ length R = omega (arith, c.requires.0, c.requires.1) in
    let n = front_length c.args.key c.args.count R _ _ c.weigh.ensures c.select_first.ensures.rearranged h in
    ap (unpack c.packed.result) (sym n) ∙ c.packed.ensures ∙ front_stores c.args.key c.args.count R _ _ c.weigh.ensures c.select_first.ensures.front_sorted
