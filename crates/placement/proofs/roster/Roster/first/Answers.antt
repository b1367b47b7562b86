use Rattle.std.proofs.Common.{◌≤◌, Ok, sym, ap, ◌∙◌, arith}
use Rattle.lists.specs.Numbers.{count_up}
use Rattle.placement.specs.Rosters.{members}
use Rattle.placement.proofs.Holding.{kept, count_up_word, count_up_rostered, first_accepts}
use Rattle.placement.proofs.roster.Roster.first.Goals as goal

pub invariant_of-result : goal.invariant_of-result
invariant_of-result c =
    let m = c.args.members in
    let n = c.args.stores in
    kept 18364758544493064720 m n (count_up 0 m) c.if-stores-gt16.false (count_up_word m (omega arith)) (count_up_rostered m n c.if-members-lt1.false c.if-stores-members.false)

pub returns-clause-lists : goal.returns-clause-lists
unfolding members
returns-clause-lists c =
    let m = c.args.members in
    let few : m ≤ 16 = omega arith in
    ap Ok (count_up_word m few) ∙ sym (first_accepts m c.args.stores c.if-members-lt1.false c.if-stores-members.false c.if-stores-gt16.false)
