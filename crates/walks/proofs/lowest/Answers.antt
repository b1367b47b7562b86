use Rattle.std.proofs.Common.{sym, arith}
use Rattle.std.proofs.lemmas.List.{length-take-le}
use Rattle.walks.proofs.Lists.{few}
use Rattle.walks.proofs.lowest.Goals as goal

pub slice_bounds-smallest-end : goal.slice_bounds-smallest-end
slice_bounds-smallest-end g c =
    let a = few c.args.roster.now in
    let b = few c.args.target.now in
    sym (length-take-le c.gather-all.result c.gather-all.new.room (omega (arith, c.gather-some.ensures.ends, c.gather-all.ensures.ends)))
