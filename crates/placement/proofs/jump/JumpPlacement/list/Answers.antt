use Rattle.std.proofs.Common.{◌≡◌, ℕ, ◌<◌, ◌≤◌, [], ◌∷◌, length, get_or, sym, refl, ap, ◌∙◌, subst, arith}
use Rattle.lists.proofs.Members.{member_at}
use Rattle.placement.specs.Packing.{unpack}
use Rattle.placement.specs.Jump.{jump, position}
use Rattle.placement.specs.Rosters.{members}
use Rattle.placement.proofs.Digits.{length_unpack}
use Rattle.placement.proofs.Holding.{kept, alone_rostered}
use Rattle.placement.specs.Walking.{position_walks}
use Rattle.placement.proofs.jump.JumpPlacement.list.Goals as goal

pub invariant_of-result : goal.invariant_of-result
invariant_of-result c =
    let r = c.args.roster.now in
    let at = c.walk_end.result in
    let inside : at < r.len = c.walk_end.ensures.1 in
    let l = length_unpack r.word r.len in
    let e : c.number_at-store.result ≡ get_or (unpack r.word r.len) at 0 = c.number_at-store.ensures.1 r.len inside in
    let low : c.number_at-store.result < r.stores =
    subst (λ (x : ℕ). x < r.stores) (sym e) (r.below (get_or (unpack r.word r.len) at 0) (member_at (unpack r.word r.len) at (omega arith))) in
    kept c.number_pushed.result 1 r.stores (c.number_at-store.result ∷ []) r.few c.number_pushed.ensures (alone_rostered r.stores c.number_at-store.result low)

pub returns : goal.returns
unfolding jump members
returns c =
    let r = c.args.roster.now in
    let R = unpack r.word r.len in
    let at = c.walk_end.result in
    let e : at ≡ position c.args.key (length R) = c.walk_end.ensures.0 ∙ ap (position c.args.key) (sym (length_unpack r.word r.len)) in
    let listed : unpack c.number_pushed.result 1 ≡ get_or R (position c.args.key (length R)) 0 ∷ [] =
    c.number_pushed.ensures ∙ ap (λ (u : ℕ). u ∷ []) (c.number_at-store.ensures.1 r.len c.walk_end.ensures.1 ∙ ap (λ (u : ℕ). get_or R u 0) e) in
    let some : 1 ≤ r.len = r.some in
    let l = length_unpack r.word r.len in
    record {
      follows_rule = listed;
      stores_kept = refl;
      walks = (position c.args.key (length R), position_walks c.args.key (length R) (omega arith), listed);
    }
