use Rattle.locator.specs.Questions.{texts, Refuses}
use Rattle.locator.proofs.WordsRead.{handed_up, key_wrong}
use Rattle.locator.proofs.reading.read_question.Goals as goal

pub returns-in_err-keys : goal.returns-in_err-keys
returns-in_err-keys c =
    let ws = texts c.args.words.now in
    let e = c.in_err-keys.field-0.0 in
    let p = c.in_ok-policy.ensures in
    let m = c.in_ok-members.ensures in
    let n = c.in_ok-copies.ensures in
    handed_up c.from_residual-in_err-keys.result e _ (Refuses ws) c.from_residual-in_err-keys.ensures.1
    (key_wrong ws e c.in_ok-policy.policy p.1 (c.in_ok-members.members, m.1, m.2, m.3) (c.in_ok-copies.copies, n.1) c.in_err-keys.ensures)
