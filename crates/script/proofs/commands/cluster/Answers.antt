use Rattle.std.proofs.Common.{rules}
use Rattle.script.proofs.Going.{by_word, by_line, here, further, past_number, past_policy, past_kind}
use Rattle.script.proofs.commands.cluster.Goals as goal

pub returns-in_err-members : goal.returns-in_err-members
returns-in_err-members c = search (rules, by_word, by_line, here, further)

pub returns-in_err-copies : goal.returns-in_err-copies
returns-in_err-copies c = search (rules, by_word, by_line, here, further)

pub returns-in_err-policy : goal.returns-in_err-policy
returns-in_err-policy c = search (rules, by_word, by_line, here, further)

pub returns-in_err-kind : goal.returns-in_err-kind
returns-in_err-kind c = search (rules, by_word, by_line, here, further, past_policy) depth 8

pub returns-in_err-cap : goal.returns-in_err-cap
returns-in_err-cap c =
    let stores = c.in_ok-stores.ensures in
    let members = c.in_ok-members.ensures in
    let copies = c.in_ok-copies.ensures in
    let policy = c.in_ok-policy.ensures in
    let kind = c.in_ok-kind.ensures in
    by_line _ _ _ c.from_residual-in_err-cap.ensures.1
    (past_number _ _ _ _ _ _ _ stores.reads_next stores.line_stays
    (past_number _ _ _ _ _ _ _ members.reads_next members.line_stays
    (past_number _ _ _ _ _ _ _ copies.reads_next copies.line_stays
    (past_policy _ _ _ _ _ _ _ policy.reads_next policy.line_stays
    (past_kind _ _ _ _ _ _ _ kind.reads_next kind.line_stays c.in_err-cap.ensures.reads_last)))))
