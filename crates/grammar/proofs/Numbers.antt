-- Which bytes begin a number.
use Rattle.std.proofs.Common.{Some, ◌≡◌, ℕ, ◌+◌, ◌*◌, ◌^◌, ◌<◌, ◌≤◌, List, [], ◌∷◌, ◌++◌, length, get_or, take, drop, decimal, sym, refl, ap, ◌∙◌, subst, ⊎_elim, append_assoc, append-nil, arith, length-append, take-append-drop}
use Rattle.std.specs.Str.Parse.{AllDigits, digits_value, digits_value_after}
use Rattle.std.specs.Char.{digit_value}
use Rattle.std.proofs.lemmas.Str.Parse.{IsNumeralModel, numerals_by_value, tells_digits}
use Rattle.std.proofs.lemmas.Int.Digits.{digits_push, digits_value_push}
use Rattle.std.proofs.lemmas.List.{length-take-le, take_more, take_all}
use Rattle.std.specs.Option.{SomeIff}
use Rattle.std.proofs.lemmas.Fmt.{decimal-digits_value, digits_decimal, digits_value-decimal, first_decimal, decimal_nonempty, decimal_digit}
use Rattle.std.proofs.lemmas.Bool.{cases_eq}
use Rattle.grammar.specs.Languages.{Begins, Stops}
use Rattle.grammar.specs.Slots.{In, number}
use Rattle.grammar.specs.Spelling.{WritesNumber}

pub own : IsNumeralModel (AllDigits 10) (digits_value 10)
own = numerals_by_value (AllDigits 10) tells_digits

-- digits with no leading zero, of a number that fits
pub record Good (p : List ℕ) : Type 0 where
  pub digits : AllDigits 10 p
  pub plain : get_or p 0 0 ≡ 48 → length p ≤ 1
  pub fits : digits_value 10 p < 2 ^ 64

pub good_decimal : (p : List ℕ) → Good p → 0 < length p → p ≡ decimal (digits_value 10 p)
good_decimal p g h = sym (decimal-digits_value own p g.digits h (λ e. let x = g.plain e in omega arith) g.fits)

pub good_begins : (p : List ℕ) → Good p → Begins (In number) p
good_begins [] g = (48 ∷ [], (0, omega arith, sym (decimal_digit 0 (omega arith))))
good_begins (c ∷ p) g = ([], (digits_value 10 (c ∷ p), g.fits, rw append-nil (good_decimal (c ∷ p) g (omega arith))))

digits_front : (p q : List ℕ) → AllDigits 10 (p ++ q) → AllDigits 10 p
digits_front [] q d = tt
digits_front (c ∷ p) q d = (d.0, digits_front p q d.1)

value_front : (p q : List ℕ) (n : ℕ) → digits_value_after 10 n (p ++ q) ≡ digits_value_after 10 (digits_value_after 10 n p) q
value_front [] q n = refl
value_front (c ∷ p) q n = value_front p q (n * 10 + digit_value c)

value_grows : (q : List ℕ) (n : ℕ) → n ≤ digits_value_after 10 n q
value_grows [] n = omega arith
value_grows (c ∷ q) n = let h = value_grows q (n * 10 + digit_value c) in omega arith

plain_front : (p q : List ℕ) (n : ℕ) → n < 2 ^ 64 → p ++ q ≡ decimal n → get_or p 0 0 ≡ 48 → length p ≤ 1
plain_front [] q n h e z = omega arith
plain_front (c ∷ p) q n h e z =
    ⊎_elim
    (λ (zero : n ≡ 0). let e2 : (c ∷ p) ++ q ≡ 48 ∷ [] = e ∙ ap decimal zero ∙ decimal_digit 0 (omega arith) in omega (arith, simp length-append at (ap length e2)))
    (λ (more : n ≡ 0 → ⊥).
    let first = first_decimal n (omega arith) h in
    let same : c ≡ get_or (decimal n) 0 0 = ap (λ l. get_or l 0 0) e in
    absurd (omega arith))
    (cases_eq n 0)

pub begins_good : (p : List ℕ) → Begins (In number) p → Good p
begins_good p (q, (n, h, e)) = record {
  digits = digits_front p q (subst (AllDigits 10) (sym e) (digits_decimal own n h));
  plain = plain_front p q n h e;
  fits =
      let same = digits_value-decimal own n h in
      let split = value_front p q 0 in
      let grows = value_grows q (digits_value 10 p) in
      let whole = ap (digits_value 10) e in
      omega arith;
}

-- one more byte goes on with a number: a digit that is not behind a leading zero, while the number fits
pub good_more : (p : List ℕ) (b : ℕ) → Good p → (digit_value b < 10) × (digits_value 10 p * 10 + digit_value b < 2 ^ 64) → (0 < length p → digits_value 10 p ≡ 0 → ⊥) → Good (p ++ b ∷ [])
good_more p b g (low, fits) some = record {
  digits = digits_push 10 p b g.digits low;
  plain = more_plain p g some;
  fits = omega (arith, digits_value_push 10 p b);
}
  where
    more_plain : (p : List ℕ) → Good p → (0 < length p → digits_value 10 p ≡ 0 → ⊥) → get_or (p ++ b ∷ []) 0 0 ≡ 48 → length (p ++ b ∷ []) ≤ 1
    more_plain [] g some e = omega arith
    more_plain (c ∷ []) g some e = absurd (some (omega arith) (ap (λ x. digits_value 10 (x ∷ [])) e))
    more_plain (c ∷ d ∷ p) g some e = let l = g.plain e in absurd (omega arith)

pub zero_stops : (p : List ℕ) (b : ℕ) → Good p → 0 < length p → digits_value 10 p ≡ 0 → Good (p ++ b ∷ []) → ⊥
zero_stops p b g some zero h =
    let e : p ≡ 48 ∷ [] = good_decimal p g some ∙ ap decimal zero ∙ decimal_digit 0 (omega arith) in
    let l : length (p ++ b ∷ []) ≤ 1 = h.plain (ap (λ l. get_or (l ++ b ∷ []) 0 0) e) in
    omega (arith, length-append p (b ∷ []), ap length e)

digit_last : (p : List ℕ) (b : ℕ) → AllDigits 10 (p ++ b ∷ []) → digit_value b < 10
digit_last [] b d = d.0
digit_last (c ∷ p) b d = digit_last p b d.1

pub other_stops : (p : List ℕ) (b : ℕ) → ((digit_value b < 10) × (digits_value 10 p * 10 + digit_value b < 2 ^ 64) → ⊥) → Good (p ++ b ∷ []) → ⊥
other_stops p b other h = other (digit_last p b h.digits, omega (arith, h.fits, digits_value_push 10 p b))

-- what begins a text begins one still when it is cut shorter
pub begins_front : (L : List ℕ → Type 0) (p q : List ℕ) → Begins L (p ++ q) → Begins L p
begins_front L p q (rest, h) = (q ++ rest, rw append_assoc at h)

pub whole_begins : (L : List ℕ → Type 0) (l : List ℕ) (k : ℕ) → L l → Begins L (take k l)
whole_begins L l k h = (drop k l, rw take-append-drop h)

-- n is the number that the first i bytes of w write
pub record Front (w : List ℕ) (i n : ℕ) : Type 0 where
  pub within : i ≤ length w
  pub good : Good (take i w)
  pub value : n ≡ digits_value 10 (take i w)

pub front_none : (w : List ℕ) → Front w 0 0
front_none w = record { within = omega arith; good = record { digits = tt; plain = λ _. omega arith; fits = omega arith }; value = refl }

-- a byte that goes on with it, and one that does not
pub front_more : (w : List ℕ) (i n m : ℕ) → i < length w → Front w i n → (0 < i → n ≡ 0 → ⊥) → SomeIff (Some m) ((digit_value (get_or w i 0) < 10) × (n * 10 + digit_value (get_or w i 0) < 2 ^ 64)) (n * 10 + digit_value (get_or w i 0)) → Front w (i + 1) m
front_more w i n m lt f some ((low, fits), e) =
    let long = length-take-le i w f.within in
    let more = take_more w i 0 lt in
    let fit : digits_value 10 (take i w) * 10 + digit_value (get_or w i 0) < 2 ^ 64 = let v = f.value in omega arith in
    record {
      within = omega arith;
      good = rw more (good_more (take i w) (get_or w i 0) f.good (low, fit) (λ s z. some (omega arith) (f.value ∙ z)));
      value = rw more (let v = f.value in let p = digits_value_push 10 (take i w) (get_or w i 0) in omega arith);
    }

front_stops : (w : List ℕ) (i : ℕ) → i < length w → Good (take i w) → (Good (take i w ++ get_or w i 0 ∷ []) → ⊥) → Stops (In number) w i
front_stops w i lt g off =
    let never : Begins (In number) (take (i + 1) w) → ⊥ = λ b. off (begins_good _ (rw (take_more w i 0 lt) at b)) in
    record {
      within = omega arith;
      begins = good_begins _ g;
      leaves = λ _ b. never b;
      none = λ h. never (whole_begins (In number) w (i + 1) h);
    }

pub front_zero : (w : List ℕ) (i n : ℕ) → i < length w → Front w i n → 0 < i → n ≡ 0 → Stops (In number) w i
front_zero w i n lt f some zero =
    front_stops w i lt f.good (zero_stops _ _ f.good (omega (arith, length-take-le i w f.within)) (sym f.value ∙ zero))

pub front_other : (w : List ℕ) (i n : ℕ) → i < length w → Front w i n → ((digit_value (get_or w i 0) < 10) × (n * 10 + digit_value (get_or w i 0) < 2 ^ 64) → ⊥) → Stops (In number) w i
front_other w i n lt f other =
    front_stops w i lt f.good (other_stops _ _ (λ h. other (h.0, let v = f.value in omega (arith, h.1))))

-- the whole text, and no text
pub front_whole : (w : List ℕ) (i n : ℕ) → Front w i n → length w ≤ i → 0 < length w → WritesNumber n w
front_whole w i n f end some =
    let good : Good w = rw take_all at f.good in
    let same : n ≡ digits_value 10 w = rw take_all at f.value in
    (omega (arith, good.fits), good_decimal w good some ∙ ap decimal (sym same))

pub empty_stops : (w : List ℕ) → length w ≡ 0 → Stops (In number) w 0
empty_stops [] e = record {
  within = omega arith;
  begins = good_begins [] (record { digits = tt; plain = λ _. omega arith; fits = omega arith });
  leaves = λ l. absurd (omega arith);
  none = λ (n, h, e). let s = decimal_nonempty n h in let z : 0 ≡ length (decimal n) = ap length e in omega arith;
}
empty_stops (c ∷ w) e = absurd (omega arith)
