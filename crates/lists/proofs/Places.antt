-- Walks over a list by place: a loop that goes from place to place, and what a recursion gives of the rest.
use Rattle.std.proofs.Common.{◌≡◌, ℕ, zero, suc, ◌+◌, ◌<◌, ◌≤◌, List, [], ◌∷◌, length, get_or, drop, Some, None, sym, refl, ap, ◌∙◌, add-one, arith, drop-cons}
use Rattle.std.proofs.lemmas.List.{drop_all}
use Rattle.lists.specs.Numbers.{nth}

pub drop_here : (l : List ℕ) (i x : ℕ) → i < length l → x ≡ get_or l i 0 → drop i l ≡ x ∷ drop (i + 1) l
drop_here l i x h e = drop-cons l i 0 h ∙ ap (λ (y : ℕ). y ∷ drop (suc i) l) (sym e) ∙ ap (λ (j : ℕ). x ∷ drop j l) (sym (add-one i))

-- one place on, for what a recursion F gives
pub onward : {Y : Type 0} (F : List ℕ → Y) (l : List ℕ) (i x : ℕ) (y : Y) → i < length l → x ≡ get_or l i 0 → F (drop i l) ≡ y → F (x ∷ drop (i + 1) l) ≡ y
onward F l i x y h e v = ap F (sym (drop_here l i x h e)) ∙ v

-- behind the last place
pub ended : {Y : Type 0} (F : List ℕ → Y) (l : List ℕ) (i : ℕ) (y : Y) → length l ≤ i → F (drop i l) ≡ y → F [] ≡ y
ended F l i y h v = ap F (sym (drop_all i l h)) ∙ v

pub nth_inside : (l : List ℕ) (i : ℕ) → i < length l → nth l i ≡ Some (get_or l i 0)
nth_inside [] i h = absurd (omega arith)
nth_inside (x ∷ l) zero h = refl
nth_inside (x ∷ l) (suc i) h = nth_inside l i (omega arith)

pub nth_past : (l : List ℕ) (i : ℕ) → length l ≤ i → nth l i ≡ None
nth_past [] i h = refl
nth_past (x ∷ l) zero h = absurd (omega arith)
nth_past (x ∷ l) (suc i) h = nth_past l i (omega arith)
