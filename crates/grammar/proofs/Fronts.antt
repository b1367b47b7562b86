-- How far a text goes with the words of a list.
use Rattle.std.proofs.Common.{◌≡◌, ℕ, zero, suc, ◌+◌, ◌<◌, ◌≤◌, max, Bool, true, ◌&&◌, eqb, ◌==◌, cond, ltb, List, [], ◌∷◌, ◌++◌, length, get_or, take, Ok, Err, IsUtf8, Result, sym, refl, ap, ◌∙◌, subst, inl, inr, ⊎_elim, arith, Bor, MatchResult}
use Rattle.std.proofs.lemmas.Bool.{cases_eq, cases_lt, cond-false, eq-eqb, ne_eqb, ltb-true, and_parts}
use Rattle.std.proofs.lemmas.Str.{IsUtf8-from_ascii}
use Rattle.std.specs.List.{AllByRecursion as All, prefix_len, zip}
use Rattle.std.specs.Result.{result_unwrap_or}
use Rattle.grammar.specs.Languages.{Begins, Stops, OneOf}
use Rattle.grammar.specs.Slots.{common, furthest}

pub common_same : (x y : ℕ) (xs ys : List ℕ) → x ≡ y → common (x ∷ xs) (y ∷ ys) ≡ suc (common xs ys)
common_same x y xs ys e = ap (λ b. cond b (1 + common xs ys) 0) (eq-eqb x y e) ∙ omega arith

pub common_apart : (x y : ℕ) (xs ys : List ℕ) → (x ≡ y → ⊥) → common (x ∷ xs) (y ∷ ys) ≡ 0
common_apart x y xs ys e = cond-false (eqb x y) _ _ (ne_eqb x y e)

-- the pairs of bytes that agree, from the first on
pub common_pairs : (xs ys : List ℕ) → prefix_len (λ p. p.0 == p.1) (zip xs ys) ≡ common xs ys
common_pairs [] ys = refl
common_pairs (x ∷ xs) [] = refl
common_pairs (x ∷ xs) (y ∷ ys) = ap (λ n. cond (x == y) (1 + n) 0) (common_pairs xs ys)

common_within : (w a : List ℕ) → common w a ≤ length w
common_within [] a = omega arith
common_within (x ∷ w) [] = omega arith
common_within (x ∷ w) (y ∷ a) =
    ⊎_elim (λ (e : x ≡ y). let h = common_within w a in omega (arith, common_same x y w a e))
    (λ (n : x ≡ y → ⊥). omega (arith, common_apart x y w a n)) (cases_eq x y)

-- the common front begins the word
common_front : (w a : List ℕ) → (rest : List ℕ) × (take (common w a) w ++ rest ≡ a)
common_front [] a = (a, refl)
common_front (x ∷ w) [] = ([], refl)
common_front (x ∷ w) (y ∷ a) =
    ⊎_elim
    (λ (e : x ≡ y). let (rest, h) = common_front w a in (rest, rw (common_same x y w a e) (ap (λ l. x ∷ l) h ∙ ap (λ z. z ∷ a) e)))
    (λ (n : x ≡ y → ⊥). (y ∷ a, rw (common_apart x y w a n) refl)) (cases_eq x y)

-- and no longer one does
common_most : (k : ℕ) (w a rest : List ℕ) → k ≤ length w → take k w ++ rest ≡ a → k ≤ common w a
common_most zero w a rest h e = omega arith
common_most (suc k) [] a rest h e = absurd (omega arith)
common_most (suc k) (x ∷ w) [] rest h e = absurd (let z : ◌≡◌ {A = ℕ} 0 1 = cc in omega arith)
common_most (suc k) (x ∷ w) (y ∷ a) rest h e =
    let head : x ≡ y = cc in
    let tail : take k w ++ rest ≡ a = cc in
    let on = common_most k w a rest (omega arith) tail in
    omega (arith, common_same x y w a head)

furthest_within : (ws : List (List ℕ)) (w : List ℕ) → furthest ws w ≤ length w
furthest_within [] w = omega arith
furthest_within (a ∷ ws) w = let h = common_within w a in let k = furthest_within ws w in omega arith

furthest_begins : (a : List ℕ) (ws : List (List ℕ)) (w : List ℕ) → Begins (OneOf (a ∷ ws)) (take (furthest (a ∷ ws) w) w)
furthest_begins a [] w =
    let (rest, h) = common_front w a in
    let m : max (common w a) 0 ≡ common w a = omega arith in
    (rest, inl (rw m h))
furthest_begins a (b ∷ ws) w =
    ⊎_elim
    (λ (l : furthest (b ∷ ws) w < common w a).
    let (rest, h) = common_front w a in
    let m : furthest (a ∷ b ∷ ws) w ≡ common w a = omega arith in
    subst (λ n. Begins (OneOf (a ∷ b ∷ ws)) (take n w)) (sym m) (rest, inl h))
    (λ (l : common w a ≤ furthest (b ∷ ws) w).
    let (rest, h) = furthest_begins b ws w in
    let m : furthest (a ∷ b ∷ ws) w ≡ furthest (b ∷ ws) w = omega arith in
    subst (λ n. Begins (OneOf (a ∷ b ∷ ws)) (take n w)) (sym m) (rest, inr h))
    (cases_lt (furthest (b ∷ ws) w) (common w a))

furthest_most : (ws : List (List ℕ)) (w : List ℕ) (k : ℕ) → k ≤ length w → Begins (OneOf ws) (take k w) → k ≤ furthest ws w
furthest_most [] w k h (rest, none) = absurd none
furthest_most (a ∷ ws) w k h (rest, inl e) = let m = common_most k w a rest h e in omega arith
furthest_most (a ∷ ws) w k h (rest, inr more) = let m = furthest_most ws w k h (rest, more) in omega arith

furthest_stops : (ws : List (List ℕ)) → 0 < length ws → (w : List ℕ) → (OneOf ws w → ⊥) → (k : ℕ) → k ≡ furthest ws w → Stops (OneOf ws) w k
furthest_stops [] some w none k e = absurd (omega arith)
furthest_stops (a ∷ ws) some w none k e = subst (Stops (OneOf (a ∷ ws)) w) (sym e) (record {
  within = furthest_within (a ∷ ws) w;
  begins = furthest_begins a ws w;
  leaves = λ l b. let m = furthest_most (a ∷ ws) w (furthest (a ∷ ws) w + 1) (omega arith) b in omega arith;
  none = none;
})

-- bytes that are no text are no word, and the empty text stands for them
not_word : {E : Type 0} (bytes : List ℕ) (r : Result (Bor (List ℕ)) E) (d : Bor (List ℕ)) (X : E → Type 0) (name : Bor (List ℕ)) → MatchResult r (λ s. (s.now ≡ bytes) × IsUtf8 bytes) (λ e. (IsUtf8 bytes → ⊥) × X e) → name ≡ result_unwrap_or r d → (w : List ℕ) → IsUtf8 w → (name.now ≡ w → ⊥) → bytes ≡ w → ⊥
not_word bytes (Ok s) d X name h e w u other b = other (ap (λ s. s.now) e ∙ h.0 ∙ b)
not_word bytes (Err x) d X name h e w u other b = h.0 (subst IsUtf8 (sym b) u)

abbrev pub plain : List ℕ → Bool
plain [] = true
plain (c ∷ cs) = ltb c 128 && plain cs

plain_at : (w : List ℕ) → plain w ≡ true → (i : ℕ) → get_or w i 0 < 128
plain_at [] h i = omega arith
plain_at (c ∷ w) h zero = ltb-true c 128 (and_parts _ _ h).0
plain_at (c ∷ w) h (suc i) = plain_at w (and_parts _ _ h).1 i

plain_text : (w : List ℕ) → plain w ≡ true → IsUtf8 w
plain_text w h = IsUtf8-from_ascii w (plain_at w h)

abbrev pub all_plain : List (List ℕ) → Bool
all_plain [] = true
all_plain (w ∷ ws) = plain w && all_plain ws

-- a text that was compared with every word of a list, and is none of them, stops where it goes furthest with one
module _ {E : Type 0} (bytes : List ℕ) (r : Result (Bor (List ℕ)) E) (d : Bor (List ℕ)) (X : E → Type 0) (name : Bor (List ℕ)) (said : MatchResult r (λ s. (s.now ≡ bytes) × IsUtf8 bytes) (λ e. (IsUtf8 bytes → ⊥) × X e)) (named : name ≡ result_unwrap_or r d) where
  none_of : (ws : List (List ℕ)) → all_plain ws ≡ true → All (λ w. name.now ≡ w → ⊥) ws → OneOf ws bytes → ⊥
  none_of [] h a o = o
  none_of (w ∷ ws) h a (inl e) = not_word bytes r d X name said named w (plain_text w (and_parts _ _ h).0) a.0 e
  none_of (w ∷ ws) h a (inr o) = none_of ws (and_parts _ _ h).1 a.1 o

  pub literal_stops : (ws : List (List ℕ)) → 0 < length ws → all_plain ws ≡ true → All (λ w. name.now ≡ w → ⊥) ws → (k : ℕ) → k ≡ furthest ws bytes → Stops (OneOf ws) bytes k
  literal_stops ws some h a k e = furthest_stops ws some bytes (none_of ws h a) k e
