use Rattle.std.proofs.Common.{ℕ, ◌<◌, List, ◌++◌, length, map, take, subst, sym, ap, ◌∙◌, arith, length-set}
use Rattle.std.specs.List.{AllByRecursion}
use Rattle.placement.specs.Rendezvous.{weight_at}
use Rattle.placement.specs.Candidates.{candidate}
use Rattle.placement.proofs.Holding.{length_members, members_small}
use Rattle.placement.proofs.Weighing.{weigh_more}
use Rattle.placement.proofs.rendezvous.weigh.Goals as goal

pub loop-place-init : goal.loop-place-init
loop-place-init c =
    let r = c.args.roster.now in
    let e = c.iter-store-items.ensures in
    let l = length_members r in
    record {
      small = subst (AllByRecursion (λ s. s < 16)) (sym e) (members_small r);
      room = omega (arith, ap length e, c.requires);
      few = omega (arith, r.fits, c.requires);
      weighed = ap (map (candidate c.args.key)) e;
    }

pub loop-place-preserved : goal.loop-place-preserved
loop-place-preserved c =
    let v = c.loop-place.invariant in
    let s = c.in-Some.ensures.steps in
    let l = ap length s in
    let n = length-set c.loop-place.candidates c.loop-place.place (record { weight = record { 0 = c.weight.result }; store = c.in-Some.store }) in
    record {
      small = (subst (AllByRecursion (λ s. s < 16)) s v.small).1;
      room = omega (arith, l, n, v.room);
      few = omega (arith, n, v.few);
      weighed =
          weigh_more c.args.key c.loop-place.place c.in-Some.store c.weight.result c.next.new.self c.loop-place.candidates (omega (arith, l, v.room))
          (c.weight.ensures ∙ ap (λ (d : ℕ). weight_at d c.in-Some.store) c.digest-d.ensures.0)
          ∙ ap (λ (u : List ℕ). take c.loop-place.place c.loop-place.candidates ++ map (candidate c.args.key) u) (sym s) ∙ v.weighed;
    }
