-- Which words are numbers.
use Rattle.std.proofs.Common.{◌≡◌, ℕ, ◌^◌, ◌<◌, true, ◌⊎◌, List, [], ◌∷◌, length, get_or, Ok, Err, decimal, Result, sym, ap, ◌∙◌, inl, inr, arith, MatchOption}
use Rattle.std.specs.Result.{result_ok}
use Rattle.std.specs.Str.Parse.{ParsesUnsigned, digits_value}
use Rattle.std.specs.Str.{all_ascii_digits}
use Rattle.std.proofs.lemmas.Bool.{cases_eq}
use Rattle.std.proofs.lemmas.Str.Parse.{IsNumeralModel, numerals_by_value, tells_all_ascii_digits, parse_plain}
use Rattle.std.proofs.lemmas.Fmt.{first_decimal, decimal_digit, decimal-digits_value, parse-decimal}
use Rattle.locator.specs.Questions.{Writes}

own : IsNumeralModel (λ ds. all_ascii_digits ds ≡ true) (digits_value 10)
own = numerals_by_value (λ ds. all_ascii_digits ds ≡ true) tells_all_ascii_digits

-- the first byte of a written number is a digit, and 0 only of the number 0
pub first_byte : (n : ℕ) → n < 2 ^ 64 → (decimal n ≡ 48 ∷ []) ⊎ (48 < get_or (decimal n) 0 0)
first_byte n h = elim (cases_eq n 0) [
  | inl e ↦ inl (ap decimal e ∙ decimal_digit 0 (omega arith))
  | inr q ↦ inr (first_decimal n (grind arith) h)
]

pub no_zero_first : (w : List ℕ) → 1 < length w → get_or w 0 0 ≡ 48 → (n : ℕ) → Writes w n → ⊥
no_zero_first w l z n (h, e) = elim (first_byte n h) [
  | inl q ↦ (let d = ap length (e ∙ q) in omega arith)
  | inr q ↦ (let d = ap (λ (u : List ℕ). get_or u 0 0) e in omega arith)
]

pub no_plus_first : (w : List ℕ) → get_or w 0 0 ≡ 43 → (n : ℕ) → Writes w n → ⊥
no_plus_first w z n (h, e) = elim (first_byte n h) [
  | inl q ↦ (let d = ap (λ (u : List ℕ). get_or u 0 0) (e ∙ q) in omega arith)
  | inr q ↦ (let d = ap (λ (u : List ℕ). get_or u 0 0) e in omega arith)
]

-- what is parsed is what was written
pub parsed : {E : Type 0} (w : List ℕ) (r : Result ℕ E) → ParsesUnsigned 64 10 w r → (get_or w 0 0 ≡ 43 → ⊥) → (1 < length w → get_or w 0 0 ≡ 48 → ⊥) →
    MatchOption (result_ok r) ((n : ℕ) → Writes w n → ⊥) (λ n. Writes w n)
parsed {E} w (Ok x) h plus zero-first =
    let c = parse_plain own {E = E} 64 w (Ok x) h plus in
    let short : get_or w 0 0 ≡ 48 → length w ≡ 1 = λ e. (let some : 0 < length w = c.0.1 in let n = λ (l : 1 < length w). zero-first l e in grind arith) in
    (rw c.1 c.0.2, sym (decimal-digits_value own w c.0.0 c.0.1 short c.0.2) ∙ ap decimal (sym c.1))
parsed {E} w (Err d) h plus zero-first = λ n s. (let q : Err d ≡ Ok n = parse-decimal 64 n w (Err d) s.0 s.0 s.1 h in let z : ◌≡◌ {A = ℕ} 0 1 = cc in omega arith)
