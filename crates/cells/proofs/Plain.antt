-- The plain words for a table in order (no key twice, no empty cell between a key's home and its
-- cell) say the same as the working form: every live cell is where the walk for its key stops.
use Rattle.std.proofs.Common.{◌≡◌, ℕ, zero, suc, ◌+◌, ◌-◌, ◌%◌, ◌<◌, ◌≤◌, ◌⊎◌, List, length, Some, None, sym, refl, ap, ◌∙◌, subst, inl, inr, ⊎_elim, mod-lt, mod-eq_of_lt, arith}
use native.Mathlib.Nat.{mod-eq-sub-mod}
use Rattle.std.proofs.lemmas.Bool.{ne_eqb, cases_eq, cases_lt}
use Rattle.store.specs.declared.value.Value.{Value}
use Rattle.pairs.proofs.Maps.{none_some}
use Rattle.cells.specs.declared.Cell.{Cell}
use Rattle.cells.specs.declared.Cell.TheVariants.{Empty, Live, Gone}
use Rattle.cells.specs.Walk.{cell_at, seat, walk_from}
use Rattle.cells.specs.Held.{Distinct, Unbroken}
use Rattle.cells.proofs.Steps.{Found, Passed, live_in, step_some, step_pass, step_hit}
use Rattle.cells.proofs.Holds.{seat_onto}

-- the walk in sums: before the wrap and after it
pub seat_is : (n k i : ℕ) → i < n → ((seat n k i ≡ k % n + i) × (k % n + i < n)) ⊎ ((seat n k i + n ≡ k % n + i) × (k % n < n))
seat_is n k i l =
    let h : k % n < n = mod-lt k (omega arith) in
    ⊎_elim
    (λ (b : k % n + i < n). inl (mod-eq_of_lt b, b))
    (λ (b : n ≤ k % n + i).
    let d : k % n + i - n < n = omega arith in
    let e : seat n k i ≡ k % n + i - n = mod-eq-sub-mod b ∙ mod-eq_of_lt d in
    inr (omega arith, h))
    (cases_lt (k % n + i) n)

pub seat_inj : (n k i j : ℕ) → i < n → j < n → seat n k i ≡ seat n k j → i ≡ j
seat_inj n k i j a b e =
    let h : k % n < n = mod-lt k (omega arith) in
    let x = seat_is n k i a in
    let y = seat_is n k j b in
    ⊎_elim (λ u. ⊎_elim (λ w. omega arith) (λ w. omega arith) y) (λ u. ⊎_elim (λ w. omega arith) (λ w. omega arith) y) x

-- what a walk that ends at p has passed
pub seek_passed : (n : ℕ) (cs : List Cell) (k p f i : ℕ) → (walk_from n cs k f i).found ≡ Some p → (d : ℕ) × (d < f) × (seat n k (i + d) ≡ p) × ((j : ℕ) → j < d → Passed k (cell_at cs (seat n k (i + j))))
seek_passed n cs k p zero i h = absurd (none_some None p refl h)
seek_passed n cs k p (suc f) i h =
    ⊎_elim
    (λ (w : (seat n k i ≡ p) × ((v : Value) × (cell_at cs (seat n k i) ≡ Live k v))).
    let e : i + 0 ≡ i = omega arith in
    (0, omega arith, ap (seat n k) e ∙ w.0, λ j l. absurd (omega arith)))
    (λ (w : Passed k (cell_at cs (seat n k i)) × ((walk_from n cs k f (i + 1)).found ≡ Some p)).
    let r = seek_passed n cs k p f (i + 1) w.1 in
    let e : i + (r.0 + 1) ≡ (i + 1) + r.0 = omega arith in (
      r.0 + 1,
      let l = r.1 in omega arith,
      ap (seat n k) e ∙ r.2,
      λ j l. ⊎_elim
          (λ (z : j ≡ 0). let g : i ≡ i + j = omega arith in subst (λ x. Passed k (cell_at cs (seat n k x))) g w.0)
          (λ (z : j ≡ 0 → ⊥). let g : (i + 1) + (j - 1) ≡ i + j = omega arith in subst (λ x. Passed k (cell_at cs (seat n k x))) g (r.3 (j - 1) (omega arith)))
          (cases_eq j 0),
    ))
    (step_some k (cell_at cs (seat n k i)) (seat n k i) (walk_from n cs k f (i + 1)) p h)

pub seek_reach : (n : ℕ) (cs : List Cell) (k : ℕ) (v : Value) (d f i : ℕ) → d < f → ((j : ℕ) → j < d → Passed k (cell_at cs (seat n k (i + j)))) → cell_at cs (seat n k (i + d)) ≡ Live k v → (walk_from n cs k f i).found ≡ Some (seat n k (i + d))
seek_reach n cs k v d zero i l pass e = absurd (omega arith)
seek_reach n cs k v zero (suc f) i l pass e =
    let z : i + 0 ≡ i = omega arith in
    step_hit k (cell_at cs (seat n k i)) v (seat n k i) _ (ap (λ x. cell_at cs (seat n k x)) (sym z) ∙ e) ∙ ap (λ x. Some (seat n k x)) (sym z)
seek_reach n cs k v (suc d) (suc f) i l pass e =
    let z : i + 0 ≡ i = omega arith in
    let t : i + suc d ≡ (i + 1) + d = omega arith in
    step_pass k (cell_at cs (seat n k i)) (seat n k i) _ (subst (λ x. Passed k (cell_at cs (seat n k x))) z (pass 0 (omega arith)))
    ∙ seek_reach n cs k v d f (i + 1) (omega arith)
    (λ j m. let g : i + (j + 1) ≡ (i + 1) + j = omega arith in subst (λ x. Passed k (cell_at cs (seat n k x))) g (pass (j + 1) (omega arith)))
    (ap (λ x. cell_at cs (seat n k x)) (sym t) ∙ e)
    ∙ ap (λ x. Some (seat n k x)) (sym t)

passed_empty : (k : ℕ) (c : Cell) → Passed k c → c ≡ Empty → ⊥
passed_empty k c h e = subst (Passed k) e h

pub found_unbroken : (cs : List Cell) → Found cs → Unbroken cs
found_unbroken cs h k v i j l e m b =
    let n = length cs in
    let r = seek_passed n cs k (seat n k i) n 0 (h (seat n k i) k v e) in
    let z : 0 + r.0 ≡ r.0 = omega arith in
    let y : 0 + j ≡ j = omega arith in
    let d : r.0 ≡ i = seat_inj n k r.0 i r.1 l (ap (seat n k) (sym z) ∙ r.2) in
    passed_empty k (cell_at cs (seat n k (0 + j))) (r.3 j (omega arith)) (ap (λ x. cell_at cs (seat n k x)) y ∙ b)

passing : (k : ℕ) (c : Cell) → (c ≡ Empty → ⊥) → ((v : Value) → c ≡ Live k v → ⊥) → Passed k c
passing k Empty a b = a refl
passing k (Live j v) a b = ne_eqb j k (λ e. b v (ap (λ x. Live x v) e))
passing k Gone a b = tt

pub plain_found : (cs : List Cell) → Distinct cs → Unbroken cs → Found cs
plain_found cs a u p k v e =
    let n = length cs in
    let l = live_in cs p k v e in
    let o = seat_onto n k p l in
    let z : 0 + o.0 ≡ o.0 = omega arith in
    let at : cell_at cs (seat n k o.0) ≡ Live k v = ap (cell_at cs) o.2 ∙ e in
    seek_reach n cs k v o.0 n 0 o.1
    (λ j m. let y : 0 + j ≡ j = omega arith in
    subst (λ x. Passed k (cell_at cs (seat n k x))) (sym y)
    (passing k (cell_at cs (seat n k j)) (u k v o.0 j o.1 at m)
    (λ w g. let q : seat n k j ≡ seat n k o.0 = a (seat n k j) (seat n k o.0) k w v g at in
    let t = seat_inj n k j o.0 (omega (arith, o.1)) o.1 q in omega arith)))
    (ap (λ x. cell_at cs (seat n k x)) z ∙ at)
    ∙ ap (λ x. Some (seat n k x)) z ∙ ap Some o.2
