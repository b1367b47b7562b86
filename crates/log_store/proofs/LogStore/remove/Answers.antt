use Rattle.std.proofs.Common.{◌≡◌, false, sym, ap, ◌∙◌, subst, arith}
use Rattle.std.proofs.lemmas.Grind.{common_steps}
use Rattle.pairs.specs.Pairs.{has}
use Rattle.pairs.proofs.Maps.{has_none, erase_absent}
use Rattle.log_theory.specs.Tape.{Tape, tape, pairs_of, Standing}
use Rattle.log_theory.specs.Moves.{remove_tape}
use Rattle.log_theory.proofs.Calls.{remove_stands}
use Rattle.log_store.proofs.LogStore.remove.Goals as goal

pub returns-then-present-clause-stands : goal.returns-then-present-clause-stands
returns-then-present-clause-stands c =
    let s = c.args.self.now in
    let n = c.append.new.self in
    let t = tape s.bytes.now s.used in
    let e : tape n.bytes.now n.used ≡ remove_tape t c.args.key = grind (arith, common_steps) in
    subst (Standing (tape n.bytes.now n.used)) (sym c.append.ensures.cap_stays) (subst (λ (u : Tape). Standing u s.cap) (sym e) (remove_stands t s.cap c.args.key c.requires (omega arith)).0)

pub returns-then-present-clause-pairs_follow_remove : goal.returns-then-present-clause-pairs_follow_remove
returns-then-present-clause-pairs_follow_remove c =
    let s = c.args.self.now in
    let n = c.append.new.self in
    let t = tape s.bytes.now s.used in
    let e : tape n.bytes.now n.used ≡ remove_tape t c.args.key = grind (arith, common_steps) in
    ap pairs_of e ∙ (remove_stands t s.cap c.args.key c.requires (omega arith)).1

pub returns-else-present-clause-pairs_follow_remove : goal.returns-else-present-clause-pairs_follow_remove
returns-else-present-clause-pairs_follow_remove c =
    let s = c.args.self.now in
    let ps = pairs_of (tape s.bytes.now s.used) in
    let h : has ps c.args.key ≡ false = grind (arith, common_steps) in
    sym (erase_absent ps c.args.key (has_none ps c.args.key h))
