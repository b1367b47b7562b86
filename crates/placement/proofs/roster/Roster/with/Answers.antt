use Rattle.std.proofs.Common.{◌+◌, ◌≤◌, [], ◌∷◌, ◌++◌, Ok, sym, ap, ◌∙◌, arith}
use Rattle.placement.specs.Rosters.{members}
use Rattle.placement.proofs.Holding.{kept, members_rostered, length_members, push_roster, rostered_push_few, with_accepts}
use Rattle.placement.proofs.roster.Roster.with.Goals as goal

pub number_pushed-word-requires : goal.number_pushed-word-requires
number_pushed-word-requires c =
    let r = c.args.self.now in
    let few : r.stores ≤ 16 = r.few in
    let l = rostered_push_few r.stores (members r) c.args.store (members_rostered r) (sym c.if-contains.ensures) c.if-store-self.false in
    let e = length_members r in
    (omega arith, omega arith)

pub invariant_of-result : goal.invariant_of-result
unfolding members
invariant_of-result c =
    let r = c.args.self.now in
    kept c.number_pushed-word.result (r.len + 1) r.stores (members r ++ c.args.store ∷ []) r.few c.number_pushed-word.ensures
    (push_roster r.stores (members r) c.args.store (members_rostered r) (sym c.if-contains.ensures) c.if-store-self.false)

pub returns-clause-lists : goal.returns-clause-lists
unfolding members
returns-clause-lists c =
    let r = c.args.self.now in
    ap Ok c.number_pushed-word.ensures ∙ sym (with_accepts r.stores c.args.store (members r) c.if-store-self.false (sym c.if-contains.ensures))
