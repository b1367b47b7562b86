use Rattle.std.proofs.Common.{ℕ, ◌+◌, ◌<◌, length, None, Option, sym, ap, ◌∙◌, subst, arith}
use Rattle.cells.specs.declared.Walked.{Walked}
use Rattle.cells.proofs.Turns.{Resumes, seat_none, seat_lt, seat_wraps, seat_steps, walk_begins, walk_empty, walk_hit, walk_pass, walk_gone, walk_ends}
use Rattle.table.proofs.Table.walk_for.Goals as goal
use Rattle.table.proofs.Table.walk_for.Goals.{then-place-n, else-place-n, in-Live+else-held-key, in-Gone}

pub loop-turn-init : goal.loop-turn-init
loop-turn-init c =
    let cs = c.args.self.now.cells.now in
    let n = length cs in
    let h : 0 < n = omega arith in
    let e = seat_none n c.args.key in
    record { seated = e; within = rw e (seat_lt n c.args.key 0 h); resumes = walk_begins cs c.args.key }

pub returns-in-Empty : goal.returns-in-Empty
returns-in-Empty c =
    let s : Option ℕ → Walked = λ o. record { found = None; free = o } in
    ap s c.or.ensures
    ∙ walk_empty c.args.self.now.cells.now c.args.key c.loop-turn.free c.loop-turn.turn c.loop-turn.place (record { seated = c.loop-turn.invariant.seated; within = c.loop-turn-test.true }) c.in-Empty.is c.loop-turn.invariant.resumes

pub returns-in-Live : goal.returns-in-Live
returns-in-Live c =
    walk_hit c.args.self.now.cells.now c.args.key c.loop-turn.free c.loop-turn.turn c.loop-turn.place c.in-Live.held c.in-Live.value
    (record { seated = c.loop-turn.invariant.seated; within = c.loop-turn-test.true }) c.in-Live.is c.if-held-key.true c.loop-turn.invariant.resumes

pub loop-turn-preserved : goal.loop-turn-preserved
loop-turn-preserved c =
    let cs = c.args.self.now.cells.now in
    let n = length cs in
    let k = c.args.key in
    let p = c.loop-turn.place in
    let i = c.loop-turn.turn in
    let at = c.loop-turn.invariant.seated in
    let inv = c.loop-turn.invariant.resumes in
    record {
      seated =
          elim c.if-place-n.branch [
            | then-place-n w ↦ w.place-is ∙ seat_wraps n k i p at w.if-place-n.true
            | else-place-n w ↦ w.place-is ∙ seat_steps n k i p at (let b = c.loop-turn.invariant.within in omega arith)
          ];
      within = elim c.if-place-n.branch [ then-place-n w ↦ omega (arith, w.place-is) | else-place-n w ↦ let b = c.loop-turn.invariant.within in omega (arith, w.place-is) ];
      resumes =
          elim c.match-self-place.branch [
            | in-Live+else-held-key w ↦
                subst (λ o. Resumes cs k o (i + 1)) (sym w.free-is)
                (walk_pass cs k c.loop-turn.free i p w.in-Live.held w.in-Live.value (record { seated = at; within = c.loop-turn-test.true }) w.in-Live.is w.if-held-key.false inv)
            | in-Gone w ↦
                subst (λ o. Resumes cs k o (i + 1)) (sym (w.free-is ∙ w.or-free.ensures))
                (walk_gone cs k c.loop-turn.free i p (record { seated = at; within = c.loop-turn-test.true }) w.in-Gone.is inv)
          ];
    }

pub returns : goal.returns
returns c = walk_ends c.args.self.now.cells.now c.args.key c.loop-turn.free c.loop-turn.turn (omega arith) c.loop-turn.invariant.resumes
