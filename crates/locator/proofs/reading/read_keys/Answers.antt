use Rattle.std.proofs.Common.{◌≡◌, ℕ, ◌+◌, ◌<◌, List, [], ◌∷◌, ◌++◌, map, length, get_or, take, drop, vec_items, string_bytes, decimal, ◌-◌, ◌∙◌, ap, subst, sym, inl, inr, arith, length-drop}
use Rattle.std.proofs.lemmas.Grind.{common_steps}
use Rattle.std.proofs.lemmas.Bool.{cases_eq}
use Rattle.std.proofs.lemmas.List.{get_or-map, length-map, take_more, map-append, get_or-drop}
use Rattle.locator.specs.declared.words.WordFault.{WordFault}
use Rattle.locator.specs.declared.words.Reason.TheVariants.{NotANumber}
use Rattle.locator.specs.declared.words.LocateFault.TheVariants.{Word}
use Rattle.locator.specs.Questions.{Text, texts, Writes, NoKey}
use Rattle.locator.proofs.WordsRead.{handed_up}
use Rattle.locator.proofs.reading.read_keys.Goals as goal

-- one word more, and its key
keys_more : (ks : List ℕ) (ws : List Text) (i k : ℕ) → i < length ws → get_or ws i [] ≡ decimal k → map decimal ks ≡ take i ws → map decimal (ks ++ k ∷ []) ≡ take (i + 1) ws
keys_more ks ws i k h w e = grind (arith, common_steps, map-append, take_more)

-- the first of the words behind the third that is no number
bad_key : (ws rest : List Text) (i : ℕ) (f : WordFault) → rest ≡ drop 3 ws → i < length rest → f.place ≡ 3 + i → f.reason ≡ NotANumber →
    ((j : ℕ) → j < i → (n : ℕ) × Writes (get_or rest j []) n) → ((n : ℕ) → Writes (get_or rest i []) n → ⊥) → NoKey ws (Word f)
bad_key ws rest i f e h p r before here =
    let l = ap length e in
    let d = length-drop 3 ws in
    let at : (j : ℕ) → get_or rest j [] ≡ get_or ws (3 + j) [] = λ j. ap (λ (u : List Text). get_or u j []) e ∙ get_or-drop 3 ws j [] in (
      omega arith,
      (omega arith),
      r,
      (λ j low high. let k : 3 + (j - 3) ≡ j = omega arith in subst (λ (u : ℕ). (n : ℕ) × Writes (get_or ws u []) n) k (subst (λ (u : Text). (n : ℕ) × Writes u n) (at (j - 3)) (before (j - 3) (omega arith)))),
      λ n w. here n (subst (λ (u : Text). Writes u n) (ap (λ (u : ℕ). get_or ws u []) p ∙ sym (at i)) w),
    )

pub loop-i-preserved : goal.loop-i-preserved
loop-i-preserved c =
    let i = c.loop-i.i in
    let ws = texts c.unwrap_or-rest.result.now in
    let t = get_or-map string_bytes c.unwrap_or-rest.result.now i c.index-rest-i.result [] c.loop-i-test.true ∙ ap string_bytes (sym c.index-rest-i.is) in
    let l = length-map c.unwrap_or-rest.result.now string_bytes in
    let w : Writes (get_or ws i []) c.in_ok-key.key = grind (arith, common_steps) in
    let more = keys_more (vec_items c.loop-i.keys) ws i c.in_ok-key.key (omega arith) w.1 c.loop-i.invariant.1 in (
      c.loop-i.invariant.0,
      ap (map decimal) c.in_ok-push.ensures.items ∙ more,
      λ j h. elim (cases_eq j i) [ inl e ↦ subst (λ (u : ℕ). (n : ℕ) × Writes (get_or ws u []) n) (sym e) (c.in_ok-key.key, w) | inr q ↦ c.loop-i.invariant.2 j (grind arith) ],
    )

pub returns-in_err-key : goal.returns-in_err-key
returns-in_err-key c =
    let i = c.loop-i.i in
    let ws = texts c.args.words.now in
    let f = c.in_err-key.field-0.0 in
    let t = get_or-map string_bytes c.unwrap_or-rest.result.now i c.index-rest-i.result [] c.loop-i-test.true ∙ ap string_bytes (sym c.index-rest-i.is) in
    let l = length-map c.unwrap_or-rest.result.now string_bytes in
    let e : f ≡ c.at.result = grind (arith, common_steps) in
    let none : (n : ℕ) → Writes (get_or (texts c.unwrap_or-rest.result.now) i []) n → ⊥ = grind (arith, common_steps) in
    handed_up c.from_residual.result (Word f) _ (NoKey ws) c.from_residual.ensures.1
    (bad_key ws (texts c.unwrap_or-rest.result.now) i f c.loop-i.invariant.0 (omega arith) (ap (λ (u : WordFault). u.place) e ∙ c.at.ensures.0) (ap (λ (u : WordFault). u.reason) e ∙ c.at.ensures.1) c.loop-i.invariant.2 none)
