use Rattle.std.proofs.Common.{◌≡◌, Some, sym, ap, ◌∙◌, rules}
use Rattle.cells.specs.Walk.{sought}
use Rattle.cells.proofs.Calls.{sought_lt, sought_value, sought_none}
use Rattle.table.proofs.TableStore.get.Goals as goal
use Rattle.table.proofs.TableStore.get.Goals.{In_ok-place}

found : (c : In_ok-place) → sought c.args.self.now.cells.now c.args.key ≡ Some c.in_ok-place.place
found c = ap (λ w. w.found) (sym c.walk_for.ensures) ∙ c.in_ok-place.was

pub offset_bounds-cells-place : goal.offset_bounds-cells-place
offset_bounds-cells-place c = let l = sought_lt _ _ _ c.requires _ (found c) in search rules

pub bounds-cells-place : goal.bounds-cells-place
bounds-cells-place c = sought_lt _ _ _ c.requires _ (found c)

pub returns-in_err-place : goal.returns-in_err-place
returns-in_err-place c = c.from_residual.ensures ∙ sym (sought_none _ _ c.args.key c.requires (ap (λ w. w.found) (sym c.walk_for.ensures) ∙ c.in_err-place.was))

pub returns : goal.returns
returns c = c.value.ensures ∙ sought_value _ _ _ c.requires _ (found (goal.at.returns c).In_ok-place)
