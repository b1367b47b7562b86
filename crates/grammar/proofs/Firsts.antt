-- The word that a text begins with.
use Rattle.std.proofs.Common.{◌≡◌, ℕ, ◌+◌, ◌<◌, ◌≤◌, cond, not, ◌==◌, List, [], ◌∷◌, ◌++◌, length, get_or, take, drop, sym, refl, ap, ◌∙◌, subst, ⊎_elim, arith}
use Rattle.std.proofs.lemmas.List.Sums.{take_while-cons}
use Rattle.std.proofs.lemmas.Bool.{cases_eq, cases_lt, eq-eqb, ne_eqb}
use Rattle.std.proofs.lemmas.List.{drop_more, drop_all, drop-drop, get_or-drop}
use Rattle.grammar.specs.Slots.{Edge, Spaceless, up_to, Opens, Reads}

pub up_to_space : (c : ℕ) (l : List ℕ) → c ≡ 32 → up_to (c ∷ l) ≡ []
up_to_space c l e = take_while-cons (λ x. not (x == 32)) c l ∙ ap (λ b. cond (not b) (c ∷ up_to l) []) (eq-eqb c 32 e)

pub up_to_other : (c : ℕ) (l : List ℕ) → (c ≡ 32 → ⊥) → up_to (c ∷ l) ≡ c ∷ up_to l
up_to_other c l e = take_while-cons (λ x. not (x == 32)) c l ∙ ap (λ b. cond (not b) (c ∷ up_to l) []) (ne_eqb c 32 e)

-- a word, without a space, and then an edge
pub record Cut (l : List ℕ) (w t : List ℕ) : Type 0 where
  pub whole : l ≡ w ++ t
  pub front : take (length w) l ≡ w
  pub rest : drop (length w) l ≡ t
  pub plain : Spaceless w
  pub edge : Edge t
  pub within : length w ≤ length l

pub up_to_cut : (l : List ℕ) → Cut l (up_to l) (drop (length (up_to l)) l)
up_to_cut [] = record { whole = refl; front = refl; rest = refl; plain = tt; edge = tt; within = omega arith }
up_to_cut (c ∷ l) =
    ⊎_elim
    (λ (e : c ≡ 32). subst (λ w. Cut (c ∷ l) w (drop (length w) (c ∷ l))) (sym (up_to_space c l e)) (record { whole = refl; front = refl; rest = refl; plain = tt; edge = e; within = omega arith }))
    (λ (n : c ≡ 32 → ⊥).
    let h = up_to_cut l in
    subst (λ w. Cut (c ∷ l) w (drop (length w) (c ∷ l))) (sym (up_to_other c l n))
    (record { whole = ap (λ x. c ∷ x) h.whole; front = ap (λ x. c ∷ x) h.front; rest = refl; plain = (n, h.plain); edge = h.edge; within = omega (arith, h.within) }))
    (cases_eq c 32)

pub reads_word : (xs : List ℕ) (i j : ℕ) (w : List ℕ) → i < length xs → get_or xs i 0 ≡ 32 → w ≡ up_to (drop (i + 1) xs) → j ≡ i + 1 + length w → Reads xs i j w
reads_word xs i j w lt e is moved =
    let cut = up_to_cut (drop (i + 1) xs) in
    let past : drop (length w) (drop (i + 1) xs) ≡ drop j xs = drop-drop (length w) (i + 1) xs ∙ ap (λ n. drop n xs) (sym moved) in
    let cut2 : Cut (drop (i + 1) xs) w (drop j xs) = subst (Cut (drop (i + 1) xs) w) past (subst (λ v. Cut (drop (i + 1) xs) v (drop (length v) (drop (i + 1) xs))) (sym is) cut) in
    record {
      word = drop_more xs i 0 lt ∙ (λ k. e k ∷ cut2.whole k);
      edge = cut2.edge;
      moved = moved;
    }

pub plain_word : (w l : List ℕ) → w ≡ up_to l → Spaceless w
plain_word w l e = subst Spaceless (sym e) (up_to_cut l).plain

-- no space at i, since there is another byte, or none
pub no_space : (xs : List ℕ) (i : ℕ) → (i < length xs → get_or xs i 0 ≡ 32 → ⊥) → get_or (drop i xs) 0 0 ≡ 32 → ⊥
no_space xs i other e =
    ⊎_elim
    (λ (lt : i < length xs). other lt (ap (λ n. get_or xs n 0) (omega arith) ∙ sym (get_or-drop i xs 0 0) ∙ e))
    (λ (past : length xs ≤ i). let z : get_or (drop i xs) 0 0 ≡ 0 = ap (λ l. get_or l 0 0) (drop_all i xs past) in omega arith)
    (cases_lt i (length xs))

-- the first word of a line
pub opens_word : (line w : List ℕ) (i j : ℕ) → i ≡ 0 → w ≡ up_to (drop i line) → j ≡ i + length w → Opens line j w
opens_word line w i j z e l =
    let first : w ≡ up_to line = e ∙ ap (λ n. up_to (drop n line)) z in
    let cut : Cut line w (drop (length w) line) = subst (λ v. Cut line v (drop (length v) line)) (sym first) (up_to_cut line) in
    let at : drop (length w) line ≡ drop j line = ap (λ n. drop n line) (omega arith) in
    record { whole = cut.whole ∙ ap (λ t. w ++ t) at; long = omega arith; edge = subst Edge at cut.edge; plain = cut.plain }
