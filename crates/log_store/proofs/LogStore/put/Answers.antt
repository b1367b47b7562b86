use Rattle.std.proofs.Common.{◌≡◌, sym, ap, ◌∙◌, subst, arith, rules}
use Rattle.std.proofs.lemmas.Grind.{common_steps}
use Rattle.store.specs.Meaning.{FitsWords}
use Rattle.log_theory.specs.Tape.{Tape, tape, pairs_of, Standing}
use Rattle.log_theory.specs.Moves.{put_tape}
use Rattle.log_theory.proofs.Calls.{put_stands}
use Rattle.log_store.proofs.LogStore.put.Goals as goal

pub returns-clause-stands : goal.returns-clause-stands
returns-clause-stands c =
    let s = c.args.self.now in
    let n = c.append.new.self in
    let t = tape s.bytes.now s.used in
    let fits : FitsWords c.args.key c.args.value = record { key_fits = omega arith; a_fits = search rules; b_fits = search rules } in
    let e : tape n.bytes.now n.used ≡ put_tape t s.cap c.args.key c.args.value = grind (arith, common_steps) in
    subst (Standing (tape n.bytes.now n.used)) (sym c.append.ensures.cap_stays) (subst (λ (u : Tape). Standing u s.cap) (sym e) (put_stands t s.cap c.args.key c.args.value c.requires fits).0)

pub returns-clause-pairs_follow_put : goal.returns-clause-pairs_follow_put
returns-clause-pairs_follow_put c =
    let s = c.args.self.now in
    let n = c.append.new.self in
    let t = tape s.bytes.now s.used in
    let fits : FitsWords c.args.key c.args.value = record { key_fits = omega arith; a_fits = search rules; b_fits = search rules } in
    let e : tape n.bytes.now n.used ≡ put_tape t s.cap c.args.key c.args.value = grind (arith, common_steps) in
    ap pairs_of e ∙ (put_stands t s.cap c.args.key c.args.value c.requires fits).1
