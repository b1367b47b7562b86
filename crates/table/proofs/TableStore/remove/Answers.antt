use Rattle.std.proofs.Common.{◌≡◌, Some, is_some, sym, refl, ap, ◌∙◌, subst, rules}
use Rattle.cells.specs.declared.Cell.TheVariants.{Gone}
use Rattle.cells.specs.Walk.{sought}
use Rattle.cells.specs.Held.{Standing, held, write_at}
use Rattle.cells.proofs.Calls.{sought_lt, sought_has, remove_stands}
use Rattle.table.proofs.TableStore.remove.Goals as goal
use Rattle.table.proofs.TableStore.remove.Goals.{In-Some}

found : (c : In-Some) → sought c.args.self.now.cells.now c.args.key ≡ Some c.in-Some.place
found c = ap (λ w. w.found) (sym c.walk_for.ensures) ∙ c.in-Some.is

pub offset_bounds-cells-place : goal.offset_bounds-cells-place
offset_bounds-cells-place c = let l = sought_lt _ _ _ c.requires _ (found (goal.at.offset_bounds-cells-place c).In-Some) in search rules

pub bounds-cells-place : goal.bounds-cells-place
bounds-cells-place c = sought_lt _ _ _ c.requires _ (found (goal.at.bounds-cells-place c).In-Some)

pub returns : goal.returns
returns c =
    let cs = c.args.self.now.cells.now in
    let m = c.args.self.now.cap in
    let e = found (goal.at.returns c).In-Some in
    let w = ap (λ o. write_at o cs Gone) e in
    let s = remove_stands cs m c.args.key c.requires in
    record {
      stands = subst (λ x. Standing x m) w s.0;
      answers_remove = sym (sought_has cs m c.args.key c.requires ∙ ap is_some e);
      pairs_follow_remove = sym (ap held w) ∙ s.1;
      cap_stays = refl;
      struck = (sym w, refl);
    }

pub returns-in_default : goal.returns-in_default
returns-in_default c =
    let cs = c.args.self.now.cells.now in
    let m = c.args.self.now.cap in
    let e = ap (λ w. w.found) (sym c.walk_for.ensures) ∙ c.in_default.is in
    let w = ap (λ o. write_at o cs Gone) e in
    record {
      stands = c.requires;
      answers_remove = sym (sought_has cs m c.args.key c.requires ∙ ap is_some e);
      pairs_follow_remove = sym (ap held w) ∙ (remove_stands cs m c.args.key c.requires).1;
      cap_stays = refl;
      struck = (sym w, refl);
    }
