use Rattle.std.proofs.Common.{◌<◌, length, arith}
use Rattle.walks.proofs.Keys.{front_is_smallest, none_smallest}
use Rattle.walks.proofs.smallest.Goals as goal

pub returns-then-keys-eq0 : goal.returns-then-keys-eq0
returns-then-keys-eq0 c = none_smallest c.args.keys.now c.if-keys-eq0.true

pub returns : goal.returns
returns c =
    let h : 0 < length c.select_first.new.items = omega arith in
    front_is_smallest c.args.keys.now c.select_first.new.items h c.select_first.ensures.front_sorted
