use Rattle.std.proofs.Common.{Some, sym, ap, ◌∙◌, arith}
use Rattle.lists.proofs.Places.{nth_inside, nth_past}
use Rattle.placement.specs.Packing.{unpack}
use Rattle.placement.specs.Rosters.{members}
use Rattle.placement.proofs.Digits.{length_unpack}
use Rattle.placement.proofs.roster.Roster.member.Goals as goal

pub returns-then-position-self : goal.returns-then-position-self
unfolding members
returns-then-position-self c =
    let r = c.args.self.now in
    let l = length_unpack r.word r.len in
    ap Some (c.number_at.ensures.1 r.len c.if-position-self.true) ∙ sym (nth_inside (unpack r.word r.len) c.args.position (omega arith))

pub returns-else-position-self : goal.returns-else-position-self
unfolding members
returns-else-position-self c =
    let r = c.args.self.now in
    let l = length_unpack r.word r.len in
    sym (nth_past (unpack r.word r.len) c.args.position (omega arith))
