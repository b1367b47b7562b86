-- The walk step by step: what one step says, and what a walk meets after a cell is written.
use Rattle.std.proofs.Common.{◌≡◌, ℕ, zero, suc, ◌+◌, ◌<◌, ◌≤◌, true, false, eqb, ◌⊎◌, List, length, set, Some, None, sym, refl, ap, ◌∙◌, subst, inl, inr, ⊎_elim, arith}
use Rattle.std.proofs.lemmas.List.{get_or-set_same, get_or-set_other, get_or_past}
use Rattle.std.proofs.lemmas.Bool.{eq-eqb, cases_eq, cases_lt, cases_Bool, cond-true, cond-false, eqb-true}
use Rattle.store.specs.declared.value.Value.{Value}
use Rattle.pairs.proofs.Maps.{none_some, some_same}
use Rattle.cells.specs.declared.Cell.{Cell}
use Rattle.cells.specs.declared.Cell.TheVariants.{Empty, Live, Gone}
use Rattle.cells.specs.declared.Walked.{Walked}
use Rattle.cells.specs.Walk.{cell_at, seat, walk_step, walk_from, sought}

-- every live cell is where the walk for its key stops
abbrev pub Found : List Cell → Type 0
Found cs = (p k : ℕ) (v : Value) → cell_at cs p ≡ Live k v → sought cs k ≡ Some p

-- not the cell of k
abbrev pub Other : ℕ → Cell → Type 0
Other k Empty = Unit {0}
Other k (Live j v) = eqb j k ≡ false
Other k Gone = Unit {0}

-- the walk for k goes on at such a cell
abbrev pub Passed : ℕ → Cell → Type 0
Passed k Empty = ⊥
Passed k (Live j v) = eqb j k ≡ false
Passed k Gone = Unit {0}

-- not a live cell
abbrev pub Idle : Cell → Type 0
Idle Empty = Unit {0}
Idle (Live j v) = ⊥
Idle Gone = Unit {0}

pub idle_other : (k : ℕ) (c : Cell) → Idle c → Other k c
idle_other k Empty h = tt
idle_other k (Live j v) h = absurd h
idle_other k Gone h = tt

-- one step

pub step_pass : (k : ℕ) (c : Cell) (s : ℕ) (rest : Walked) → Passed k c → (walk_step k c s rest).found ≡ rest.found
step_pass k Empty s rest h = absurd h
step_pass k (Live j v) s rest h = cond-false (eqb j k) (Some s) rest.found h
step_pass k Gone s rest h = refl

pub step_hit : (k : ℕ) (c : Cell) (v : Value) (s : ℕ) (rest : Walked) → c ≡ Live k v → (walk_step k c s rest).found ≡ Some s
step_hit k c v s rest e = ap (λ x. (walk_step k x s rest).found) e ∙ cond-true (eqb k k) (Some s) rest.found (eq-eqb k k refl)

pub step_some : (k : ℕ) (c : Cell) (s : ℕ) (rest : Walked) (p : ℕ) → (walk_step k c s rest).found ≡ Some p → ((s ≡ p) × ((v : Value) × (c ≡ Live k v))) ⊎ (Passed k c × (rest.found ≡ Some p))
step_some k Empty s rest p h = absurd (none_some None p refl h)
step_some k (Live j v) s rest p h =
    ⊎_elim
    (λ (e : eqb j k ≡ true). inl (some_same _ s p (cond-true (eqb j k) (Some s) rest.found e) h, (v, ap (λ x. Live x v) (eqb-true j k e))))
    (λ (e : eqb j k ≡ false). inr (e, sym (cond-false (eqb j k) (Some s) rest.found e) ∙ h))
    (cases_Bool (eqb j k))
step_some k Gone s rest p h = inr (tt, h)

pub step_none : (k j : ℕ) (v : Value) (s : ℕ) (rest : Walked) → (walk_step k (Live j v) s rest).found ≡ None → Passed k (Live j v) × (rest.found ≡ None)
step_none k j v s rest h =
    ⊎_elim
    (λ (e : eqb j k ≡ true). absurd (none_some _ s h (cond-true (eqb j k) (Some s) rest.found e)))
    (λ (e : eqb j k ≡ false). (e, sym (cond-false (eqb j k) (Some s) rest.found e) ∙ h))
    (cases_Bool (eqb j k))

pub free_some : (k : ℕ) (c : Cell) (s : ℕ) (rest : Walked) (p : ℕ) → (walk_step k c s rest).free ≡ Some p → ((s ≡ p) × Idle c) ⊎ ((j : ℕ) × (v : Value) × (c ≡ Live j v) × (rest.free ≡ Some p))
free_some k Empty s rest p h = inl (some_same (Some s) s p refl h, tt)
free_some k (Live j v) s rest p h =
    ⊎_elim
    (λ (e : eqb j k ≡ true). absurd (none_some _ p (cond-true (eqb j k) None rest.free e) h))
    (λ (e : eqb j k ≡ false). inr (j, v, refl, sym (cond-false (eqb j k) None rest.free e) ∙ h))
    (cases_Bool (eqb j k))
free_some k Gone s rest p h = inl (some_same (Some s) s p refl h, tt)

-- cells

pub live_in : (cs : List Cell) (p k : ℕ) (v : Value) → cell_at cs p ≡ Live k v → p < length cs
live_in cs p k v e =
    ⊎_elim (λ (l : p < length cs). l)
    (λ (l : length cs ≤ p). let g = get_or_past cs p Empty l in absurd (let y : ◌≡◌ {A = ℕ} 0 1 = cc in omega arith))
    (cases_lt p (length cs))

pub cell_set : (P : Cell → Type 0) (cs : List Cell) (p : ℕ) (c : Cell) (s : ℕ) → p < length cs → P c → P (cell_at cs s) → P (cell_at (set cs p c) s)
cell_set P cs p c s l here there =
    ⊎_elim
    (λ (e : s ≡ p). subst (λ x. P (cell_at (set cs p c) x)) (sym e) (subst P (sym (get_or-set_same cs p c Empty l)) here))
    (λ (d : s ≡ p → ⊥). subst P (sym (get_or-set_other cs p s c Empty d)) there)
    (cases_eq s p)

-- the walk

pub seek_sound : (n : ℕ) (cs : List Cell) (k f i p : ℕ) → (walk_from n cs k f i).found ≡ Some p → (v : Value) × (cell_at cs p ≡ Live k v)
seek_sound n cs k zero i p h = absurd (none_some None p refl h)
seek_sound n cs k (suc f) i p h =
    ⊎_elim
    (λ w. (w.1.0, subst (λ x. cell_at cs x ≡ Live k w.1.0) w.0 w.1.1))
    (λ w. seek_sound n cs k f (i + 1) p w.1)
    (step_some k (cell_at cs (seat n k i)) (seat n k i) (walk_from n cs k f (i + 1)) p h)

-- another key's walk ends where it did
pub seek_keep : (n : ℕ) (cs : List Cell) (k p : ℕ) (c : Cell) (q : ℕ) → p < length cs → Passed k c → (q ≡ p → ⊥) → (f i : ℕ) → (walk_from n cs k f i).found ≡ Some q → (walk_from n (set cs p c) k f i).found ≡ Some q
seek_keep n cs k p c q l pass ne zero i h = absurd (none_some None q refl h)
seek_keep n cs k p c q l pass ne (suc f) i h =
    ⊎_elim
    (λ (w : (seat n k i ≡ q) × ((v : Value) × (cell_at cs (seat n k i) ≡ Live k v))).
    let d : seat n k i ≡ p → ⊥ = λ e. ne (sym w.0 ∙ e) in
    step_hit k (cell_at (set cs p c) (seat n k i)) w.1.0 (seat n k i) (walk_from n (set cs p c) k f (i + 1)) (get_or-set_other cs p (seat n k i) c Empty d ∙ w.1.1) ∙ ap Some w.0)
    (λ (w : Passed k (cell_at cs (seat n k i)) × ((walk_from n cs k f (i + 1)).found ≡ Some q)).
    step_pass k (cell_at (set cs p c) (seat n k i)) (seat n k i) (walk_from n (set cs p c) k f (i + 1)) (cell_set (Passed k) cs p c (seat n k i) l pass w.0)
    ∙ seek_keep n cs k p c q l pass ne f (i + 1) w.1)
    (step_some k (cell_at cs (seat n k i)) (seat n k i) (walk_from n cs k f (i + 1)) q h)

-- a walk that reaches the written cell of its key, or passes on
hit_or_pass : (cs : List Cell) (k p : ℕ) (v : Value) (s : ℕ) (rest : Walked) → p < length cs → ((s ≡ p → ⊥) → Passed k (cell_at cs s) × (rest.found ≡ Some p)) → (walk_step k (cell_at (set cs p (Live k v)) s) s rest).found ≡ Some p
hit_or_pass cs k p v s rest l go =
    ⊎_elim
    (λ (e : s ≡ p). step_hit k (cell_at (set cs p (Live k v)) s) v s rest (ap (cell_at (set cs p (Live k v))) e ∙ get_or-set_same cs p (Live k v) Empty l) ∙ ap Some e)
    (λ (d : s ≡ p → ⊥).
    step_pass k (cell_at (set cs p (Live k v)) s) s rest (subst (Passed k) (sym (get_or-set_other cs p s (Live k v) Empty d)) (go d).0)
    ∙ (go d).1)
    (cases_eq s p)

-- k's own walk, where k's cell is written again
pub seek_again : (n : ℕ) (cs : List Cell) (k p : ℕ) (v : Value) → p < length cs → (f i : ℕ) → (walk_from n cs k f i).found ≡ Some p → (walk_from n (set cs p (Live k v)) k f i).found ≡ Some p
seek_again n cs k p v l zero i h = absurd (none_some None p refl h)
seek_again n cs k p v l (suc f) i h =
    hit_or_pass cs k p v (seat n k i) (walk_from n (set cs p (Live k v)) k f (i + 1)) l
    (λ d. ⊎_elim (λ w. absurd (d w.0)) (λ w. (w.0, seek_again n cs k p v l f (i + 1) w.1))
    (step_some k (cell_at cs (seat n k i)) (seat n k i) (walk_from n cs k f (i + 1)) p h))

-- k's own walk, where k takes the first cell that is not live
pub seek_new : (n : ℕ) (cs : List Cell) (k p : ℕ) (v : Value) → p < length cs → (f i : ℕ) → (walk_from n cs k f i).found ≡ None → (walk_from n cs k f i).free ≡ Some p → (walk_from n (set cs p (Live k v)) k f i).found ≡ Some p
seek_new n cs k p v l zero i g h = absurd (none_some None p refl h)
seek_new n cs k p v l (suc f) i g h =
    hit_or_pass cs k p v (seat n k i) (walk_from n (set cs p (Live k v)) k f (i + 1)) l
    (λ d. ⊎_elim (λ w. absurd (d w.0))
    (λ (w : (j : ℕ) × (u : Value) × (cell_at cs (seat n k i) ≡ Live j u) × ((walk_from n cs k f (i + 1)).free ≡ Some p)).
    let r = step_none k w.0 w.1 (seat n k i) (walk_from n cs k f (i + 1)) (subst (λ x. (walk_step k x (seat n k i) (walk_from n cs k f (i + 1))).found ≡ None) w.2 g) in
    (subst (Passed k) (sym w.2) r.0, seek_new n cs k p v l f (i + 1) r.1 w.3))
    (free_some k (cell_at cs (seat n k i)) (seat n k i) (walk_from n cs k f (i + 1)) p h))
