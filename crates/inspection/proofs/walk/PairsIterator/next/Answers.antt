use Rattle.std.proofs.Common.{◌≡◌, ◌∷◌, length, sym, ap, ◌∙◌, arith}
use Rattle.log_theory.specs.Tape.{tape, pairs_of}
use Rattle.inspection.specs.Left.{left_from}
use Rattle.inspection.proofs.Listing.{walk_on}
use Rattle.inspection.proofs.walk.PairsIterator.next.Goals as goal

one_less : (c : goal.After-self-1) → c.args.self.now ≡ record { key = c.in_ok-key.key; value = c.in_ok-value.value } ∷ left_from c.checked_add-self-inside.result (pairs_of (tape c.self.inside.log.now.bytes.now c.self.inside.log.now.used))
one_less c =
    let ps = pairs_of (tape c.self.inside.log.now.bytes.now c.self.inside.log.now.used) in
    sym c.self.view_is ∙ ap (λ o. left_from o ps) c.in_ok-self.was
    ∙ walk_on (tape c.self.inside.log.now.bytes.now c.self.inside.log.now.used) c.self.inside.log.now.cap c.in_ok-self.field-0 c.in_ok-key.key c.in_ok-value.value c.checked_add-self-inside.result c.self.invariant (sym c.in_ok-key.ensures) (sym c.in_ok-value.ensures) c.checked_add-self-inside.ensures

pub returns-clause-steps : goal.returns-clause-steps
returns-clause-steps c = one_less c

pub returns-clause-goes : goal.returns-clause-goes
returns-clause-goes c = record { on = λ _. (tt, tt, (let l = ap length (one_less c) in omega arith)); keeps = tt; rests = λ _. tt }
