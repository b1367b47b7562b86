-- The first line of a text, and what follows it.
use Rattle.std.proofs.Common.{◌≡◌, ℕ, suc, ◌+◌, ◌<◌, ◌≤◌, not, cond, eqb, ◌==◌, List, [], ◌∷◌, length, take, drop, sym, refl, ap, ◌∙◌, ⊎_elim, arith}
use Rattle.std.proofs.lemmas.Bool.{cases_eq, cond-true, cond-false, eq-eqb, ne_eqb}
use Rattle.std.specs.List.{before_first, after_first}
use Rattle.grammar.specs.Lines.{grown, lines_of, ahead}

ahead_feed : (c : ℕ) (t : List ℕ) → c ≡ 10 → ahead (c ∷ t) ≡ 0
ahead_feed c t e = ap (λ b. cond (not b) (1 + ahead t) 0) (eq-eqb c 10 e)

ahead_other : (c : ℕ) (t : List ℕ) → (c ≡ 10 → ⊥) → ahead (c ∷ t) ≡ suc (ahead t)
ahead_other c t e = ap (λ b. cond (not b) (1 + ahead t) 0) (ne_eqb c 10 e) ∙ omega arith

-- the first line of a text that is not empty, and the lines behind it
after_feed : (c : ℕ) (t : List ℕ) → c ≡ 10 → lines_of (c ∷ t) ≡ take (ahead (c ∷ t)) (c ∷ t) ∷ lines_of (drop (ahead (c ∷ t) + 1) (c ∷ t))
after_feed c t e = cond-true (eqb c 10) _ _ (eq-eqb c 10 e) ∙ ap (λ n. take n (c ∷ t) ∷ lines_of (drop (n + 1) (c ∷ t))) (sym (ahead_feed c t e))

after_other : (c : ℕ) (t : List ℕ) → (c ≡ 10 → ⊥) → grown c (lines_of t) ≡ take (suc (ahead t)) (c ∷ t) ∷ lines_of (drop (suc (ahead t) + 1) (c ∷ t)) → lines_of (c ∷ t) ≡ take (ahead (c ∷ t)) (c ∷ t) ∷ lines_of (drop (ahead (c ∷ t) + 1) (c ∷ t))
after_other c t n rest = cond-false (eqb c 10) _ _ (ne_eqb c 10 n) ∙ rest ∙ ap (λ n. take n (c ∷ t) ∷ lines_of (drop (n + 1) (c ∷ t))) (sym (ahead_other c t n))

pub lines_first : (t : List ℕ) → 0 < length t → lines_of t ≡ before_first (λ c. c == 10) t ∷ lines_of (after_first (λ c. c == 10) t)
lines_first [] h = absurd (omega arith)
lines_first (c ∷ []) h = ⊎_elim (after_feed c []) (λ n. after_other c [] n refl) (cases_eq c 10)
lines_first (c ∷ d ∷ t) h =
    let on = lines_first (d ∷ t) (omega arith) in
    let rest : grown c (lines_of (d ∷ t)) ≡ take (suc (ahead (d ∷ t))) (c ∷ d ∷ t) ∷ lines_of (drop (suc (ahead (d ∷ t)) + 1) (c ∷ d ∷ t)) = ap (grown c) on ∙ ap (λ n. (c ∷ take (ahead (d ∷ t)) (d ∷ t)) ∷ lines_of (drop n (c ∷ d ∷ t))) (add_one' (ahead (d ∷ t))) in
    ⊎_elim (after_feed c (d ∷ t)) (λ n. after_other c (d ∷ t) n rest) (cases_eq c 10)
  where
    add_one' : (n : ℕ) → suc (n + 1) ≡ suc n + 1
    add_one' n = omega arith

-- a text has no more lines than bytes
grown_longer : (c : ℕ) (ls : List (List ℕ)) → length (grown c ls) ≤ suc (length ls)
grown_longer c [] = omega arith
grown_longer c (l ∷ ls) = omega arith

pub lines_within : (t : List ℕ) → length (lines_of t) ≤ length t
lines_within [] = omega arith
lines_within (c ∷ t) =
    let h = lines_within t in
    ⊎_elim
    (λ (e : c ≡ 10). let same : lines_of (c ∷ t) ≡ [] ∷ lines_of t = cond-true (eqb c 10) _ _ (eq-eqb c 10 e) in omega (arith, ap length same))
    (λ (n : c ≡ 10 → ⊥). let same : lines_of (c ∷ t) ≡ grown c (lines_of t) = cond-false (eqb c 10) _ _ (ne_eqb c 10 n) in omega (arith, ap length same, grown_longer c (lines_of t)))
    (cases_eq c 10)
