-- The laws of walks.
use Rattle.std.proofs.Common.{◌≡◌, ℕ, zero, suc, ◌+◌, ◌-◌, ◌<◌, List, length, Some, None, sym, refl, ap, ◌∙◌, subst, ⊎_elim, arith}
use Rattle.std.proofs.lemmas.Bool.{cases_eq}
use Rattle.store.specs.declared.value.Value.{Value}
use Rattle.pairs.proofs.Maps.{none_some}
use Rattle.cells.specs.declared.Cell.{Cell}
use Rattle.cells.specs.declared.Cell.TheVariants.{Empty, Live, Gone}
use Rattle.cells.specs.Walk.{cell_at, seat, walk_from, vacancy}
use Rattle.cells.specs.Held.{live_one}
use Rattle.cells.specs.Laws.{FirstFree, WalkLaws}
use Rattle.cells.proofs.Steps.{Idle, free_some, seek_sound}
use Rattle.cells.proofs.Plain.{plain_found}

pub idle_one : (c : Cell) → Idle c → live_one c ≡ 0
idle_one Empty h = refl
idle_one (Live j v) h = absurd h
idle_one Gone h = refl

first_from : (n : ℕ) (cs : List Cell) (k p f i : ℕ) → (walk_from n cs k f i).free ≡ Some p → (d : ℕ) × (d < f) × (seat n k (i + d) ≡ p) × (live_one (cell_at cs p) ≡ 0) × ((j : ℕ) → j < d → live_one (cell_at cs (seat n k (i + j))) ≡ 1)
first_from n cs k p zero i h = absurd (none_some None p refl h)
first_from n cs k p (suc f) i h =
    ⊎_elim
    (λ (w : (seat n k i ≡ p) × Idle (cell_at cs (seat n k i))).
    let z : i + 0 ≡ i = omega arith in
    (0, omega arith, ap (seat n k) z ∙ w.0, ap (λ x. live_one (cell_at cs x)) (sym w.0) ∙ idle_one (cell_at cs (seat n k i)) w.1, λ j l. absurd (omega arith)))
    (λ (w : (j : ℕ) × (v : Value) × (cell_at cs (seat n k i) ≡ Live j v) × ((walk_from n cs k f (i + 1)).free ≡ Some p)).
    let r = first_from n cs k p f (i + 1) w.3 in
    let e : i + (r.0 + 1) ≡ (i + 1) + r.0 = omega arith in (
      r.0 + 1,
      let l = r.1 in omega arith,
      ap (seat n k) e ∙ r.2,
      r.3,
      λ j l. ⊎_elim
          (λ (z : j ≡ 0). let g : i + j ≡ i = omega arith in ap (λ x. live_one (cell_at cs (seat n k x))) g ∙ ap live_one w.2)
          (λ (z : j ≡ 0 → ⊥). let g : (i + 1) + (j - 1) ≡ i + j = omega arith in subst (λ x. live_one (cell_at cs (seat n k x)) ≡ 1) g (r.4 (j - 1) (omega arith)))
          (cases_eq j 0),
    ))
    (free_some k (cell_at cs (seat n k i)) (seat n k i) (walk_from n cs k f (i + 1)) p h)

first_free : (cs : List Cell) (k p : ℕ) → vacancy cs k ≡ Some p → FirstFree cs k p
first_free cs k p h =
    let r = first_from (length cs) cs k p (length cs) 0 h in
    let z : 0 + r.0 ≡ r.0 = omega arith in
    record {
      step = r.0;
      within = r.1;
      there = ap (seat (length cs) k) (sym z) ∙ r.2;
      not_live = r.3;
      live_before = λ j l. let y : j ≡ 0 + j = omega arith in ap (λ x. live_one (cell_at cs (seat (length cs) k x))) y ∙ r.4 j l;
    }

pub walk_laws : WalkLaws
walk_laws =
    record {
      found_is_live = λ cs k p e. seek_sound (length cs) cs k (length cs) 0 p e;
      live_is_found = λ cs c p k v s e. plain_found cs s.distinct s.unbroken p k v e;
      free_is_first = first_free;
    }
