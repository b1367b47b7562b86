use Rattle.std.proofs.Common.{◌≡◌, false, cond, Some, Ok, Err, is_some, sym, refl, ap, ◌∙◌, subst, arith, rules}
use Rattle.std.proofs.lemmas.Bool.{cond-true, cond-false}
use Rattle.std.specs.Option.{option_or}
use Rattle.pairs.specs.Pairs.{has, insert}
use Rattle.store.specs.declared.Put.TheVariants.{New, Replaced}
use Rattle.store.specs.declared.fault.StoreFault.TheVariants.{Full}
use Rattle.store.specs.Meaning.{FitsWords}
use Rattle.store.specs.Outcomes.{refuses}
use Rattle.cells.specs.declared.Cell.TheVariants.{Live}
use Rattle.cells.specs.Walk.{sought, vacancy}
use Rattle.cells.specs.Held.{Standing, held, write_at}
use Rattle.cells.proofs.Calls.{put_stands, sought_has, refused_full, taken_again, taken_new, place_refused, place_taken, place_lt, place_there}
use Rattle.table.proofs.TableStore.put.Goals as goal
use Rattle.table.proofs.TableStore.put.Goals.{After-or, In-Some, else-is_none-via-then-is_none+else-count-self, else-is_none-via-else-is_none}

-- a put that is refused

pub returns-then-count-self : goal.returns-then-count-self
returns-then-count-self c =
    let cs = c.args.self.now.cells.now in
    let m = c.args.self.now.cap in
    let k = c.args.key in
    let r = refused_full cs m k c.requires (ap (λ w. is_some w.found) (sym c.walk_for-walked.ensures) ∙ c.if-is_none.ensures) (omega arith) in
    record {
      stands = c.requires;
      answers_put = sym (cond-true (refuses (held cs) m k) (Err Full) (Ok (cond (has (held cs) k) Replaced New)) r);
      pairs_follow_put = sym (cond-true (refuses (held cs) m k) (held cs) (insert (held cs) k c.args.value) r);
      cap_stays = refl;
      placed = (sym (ap (λ o. write_at o cs (Live k c.args.value)) (place_refused cs m k c.requires r)), refl);
    }

-- a put that is taken

taken : (c : After-or) → refuses (held c.args.self.now.cells.now) c.args.self.now.cap c.args.key ≡ false
taken c =
    let cs = c.args.self.now.cells.now in
    elim c.else-is_none.branch [
      | else-is_none-via-then-is_none+else-count-self w ↦ taken_new cs c.args.self.now.cap c.args.key c.requires (omega (arith, w.count.ensures, w.if-count-self.false))
      | else-is_none-via-else-is_none w ↦ taken_again cs c.args.self.now.cap c.args.key c.requires (ap (λ u. is_some u.found) (sym c.walk_for-walked.ensures) ∙ w.if-is_none.ensures)
    ]

pub unreachable-requires : goal.unreachable-requires
unreachable-requires c =
    place_there _ _ _ c.requires (taken (goal.at.unreachable-requires c).After-or)
    (ap (λ w. option_or w.found w.free) (sym c.walk_for-walked.ensures) ∙ sym c.or.ensures ∙ c.in_default.is)

written : (c : In-Some) → option_or (sought c.args.self.now.cells.now c.args.key) (vacancy c.args.self.now.cells.now c.args.key) ≡ Some c.in-Some.place
written c = ap (λ w. option_or w.found w.free) (sym c.walk_for-walked.ensures) ∙ sym c.or.ensures ∙ c.in-Some.is

pub offset_bounds-cells-place : goal.offset_bounds-cells-place
offset_bounds-cells-place c = let l = place_lt _ _ _ c.requires _ (written c) in search rules

pub bounds-cells-place : goal.bounds-cells-place
bounds-cells-place c = place_lt _ _ _ c.requires _ (written c)

pub returns : goal.returns
returns c =
    let cs = c.args.self.now.cells.now in
    let m = c.args.self.now.cap in
    let k = c.args.key in
    let v = c.args.value in
    let fit : FitsWords k v = record { key_fits = omega arith; a_fits = search rules; b_fits = search rules } in
    let r = taken (goal.at.returns c).After-or in
    let w = ap (λ o. write_at o cs (Live k v)) (place_taken cs m k c.requires r ∙ written (goal.at.returns c).In-Some) in
    let s = put_stands cs m k c.requires v fit in
    let h : has (held cs) k ≡ is_some c.walk_for-walked.result.found = sought_has cs m k c.requires ∙ ap (λ u. is_some u.found) (sym c.walk_for-walked.ensures) in
    let p : c.map_or.result ≡ cond (is_some c.walk_for-walked.result.found) Replaced New = search rules in
    record {
      stands = subst (λ x. Standing x m) w s.0;
      answers_put = ap Ok (p ∙ ap (λ b. cond b Replaced New) (sym h)) ∙ sym (cond-false (refuses (held cs) m k) (Err Full) (Ok (cond (has (held cs) k) Replaced New)) r);
      pairs_follow_put = sym (ap held w) ∙ s.1;
      cap_stays = refl;
      placed = (sym w, refl);
    }
