use Rattle.std.proofs.Common.{◌≡◌, length, sym, refl, ap, ◌∙◌, arith}
use Rattle.codec.specs.Words.{over}
use Rattle.log_theory.specs.Rows.{stays_in}
use Rattle.log_theory.specs.Moves.{stays}
use Rattle.log_theory.proofs.Rows.{length_row, stays_row}
use Rattle.log_theory.proofs.Slots.{copied_slot}
use Rattle.log_theory.proofs.Packs.{stays_still, pack_one, pack_none}
use Rattle.log_store.proofs.compact.Goals as goal
use Rattle.log_store.proofs.compact.Goals.{then-is_last_put, else-is_last_put}

pub loop-i-init : goal.loop-i-init
unfolding over
loop-i-init c = (refl, refl)

pub is_last_put-requires : goal.is_last_put-requires
is_last_put-requires c = let e = ap length c.row.ensures.slots ∙ length_row c.loop-i.bytes c.args.used in omega arith

pub loop-i-preserved : goal.loop-i-preserved
loop-i-preserved c =
    let bs = c.args.bytes.now in
    let n = c.args.used in
    let i = c.loop-i.i in
    let cur = c.loop-i.bytes in
    let e = c.loop-i.invariant.0 in
    let t = c.loop-i-test.true in
    let s : c.is_last_put.result ≡ stays bs n i =
    c.is_last_put.ensures ∙ ap (λ z. stays_in z i) c.row.ensures.slots ∙ stays_row cur n i t ∙ stays_still bs n i c.requires t cur e in
    elim c.if-is_last_put.branch [
      | then-is_last_put v ↦
          let p = pack_one bs n i c.requires t cur e v.copy_within.new.self c.loop-i.front (sym s ∙ v.if-is_last_put.true) c.loop-i.invariant.1 (v.copy_within.ensures.after ∙ copied_slot cur i c.loop-i.front (omega arith)) in
          (v.bytes-is ∙ p.0, v.front-is ∙ p.1)
      | else-is_last_put v ↦
          let p = pack_none bs n i c.requires t cur e c.loop-i.front (sym s ∙ v.if-is_last_put.false) c.loop-i.invariant.1 in
          (v.bytes-is ∙ p.0, v.front-is ∙ p.1)
    ]
