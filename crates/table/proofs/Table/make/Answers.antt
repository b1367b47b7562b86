use Rattle.std.proofs.Common.{length, sym, ap, ◌∙◌, subst, rules}
use Rattle.cells.specs.Held.{Standing, held}
use Rattle.cells.proofs.Opens.{held_cleared, cleared_stands}
use Rattle.table.proofs.Table.make.Goals as goal

pub returns-clause-holds_nothing : goal.returns-clause-holds_nothing
returns-clause-holds_nothing c = ap held (c.fill.ensures.after (λ y k. search rules)) ∙ held_cleared (length c.args.cells.now)

pub returns-clause-stands_where_allowed : goal.returns-clause-stands_where_allowed
returns-clause-stands_where_allowed c =
    λ h. subst (λ x. Standing x c.args.cap) (sym (c.fill.ensures.after (λ y k. search rules))) (cleared_stands (length c.args.cells.now) c.args.cap h)
