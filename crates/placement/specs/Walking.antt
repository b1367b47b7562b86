-- Jump is a lawful placement.
use Rattle.std.specs.Prelude.{◌≡◌, ℕ, zero, suc, ◌+◌, ◌-◌, ◌*◌, ◌/◌, ◌%◌, ◌^◌, ◌<◌, ◌≤◌, true, false, List, [], ◌∷◌, ◌++◌, length, ◌==◌, ◌≢◌, nat_lt, slice_index, slice_index_or, refl}
use Rattle.std.proofs.Common.{sym, ap, subst, ◌∙◌, inl, inr, arith}
use Rattle.std.proofs.lemmas.Bool.Decides.{nat_tests}
use Rattle.std.proofs.lemmas.Bool.{cases_lt, cond-true, cond-false, cond_both, ne_eqb, eq-eqb, both_ways, lt-ltb, le-ltb, ltb-true, ltb-false}
use Rattle.std.proofs.lemmas.Nat.{le-div, mod_below, mul-le, shr_below}
use Rattle.lists.specs.Numbers.{member, Distinct, without}
use Rattle.placement.specs.Laws.{Lawful}
use Rattle.placement.specs.Jump.{next_state, leap, walk, position, is_last, jump, Walks, stop, step}
use Rattle.lists.proofs.Members.{without_length, member_at}

pub state_fits : (s : ℕ) → next_state s < 2 ^ 64
state_fits s = mod_below (s * 2862933555777941757 + 1) (2 ^ 64) (omega arith)

-- a leap goes up
pub leap_up : (s b : ℕ) → s < 2 ^ 64 → b < leap s b
leap_up s b h =
    let t : s / 2 ^ 33 < 2 ^ 31 = shr_below s 31 33 h in
    let m : (b + 1) * (s / 2 ^ 33 + 1) ≤ (b + 1) * 2 ^ 31 = mul-le (b + 1) (s / 2 ^ 33 + 1) (b + 1) (2 ^ 31) (omega arith) (omega arith) in
    let d : b + 1 ≤ leap s b = le-div (b + 1) ((b + 1) * 2 ^ 31) (s / 2 ^ 33 + 1) (omega arith) m in
    omega arith

module _ (n : ℕ) where
  pub walk_up : (f s b : ℕ) → b ≤ walk f s b n
  walk_up zero s b = omega arith
  walk_up (suc f) s b =
      let u : b < leap (next_state s) b = leap_up (next_state s) b (state_fits s) in
      let ih : leap (next_state s) b ≤ walk f (next_state s) (leap (next_state s) b) n = walk_up f (next_state s) (leap (next_state s) b) in
      cond_both (nat_lt (leap (next_state s) b) n) (walk f (next_state s) (leap (next_state s) b) n) b (λ v. b ≤ v)
      (λ _. omega arith) (λ _. omega arith)

  pub walk_below : (f s b : ℕ) → b < n → walk f s b n < n
  walk_below zero s b h = h
  walk_below (suc f) s b h =
      cond_both (nat_lt (leap (next_state s) b) n) (walk f (next_state s) (leap (next_state s) b) n) b (λ v. v < n)
      (λ e. walk_below f (next_state s) (leap (next_state s) b) (ltb-true (leap (next_state s) b) n e)) (λ _. h)

  -- steps past the number of positions change nothing
  pub walk_enough : (f g s b : ℕ) → n ≤ b + f → n ≤ b + g → b < n → walk f s b n ≡ walk g s b n
  walk_enough zero g s b p q h = absurd (omega arith)
  walk_enough (suc f) zero s b p q h = absurd (omega arith)
  walk_enough (suc f) (suc g) s b p q h =
      let u : b < leap (next_state s) b = leap_up (next_state s) b (state_fits s) in
      elim (cases_lt (leap (next_state s) b) n) [
        | inl e ↦ (let ih : walk f (next_state s) (leap (next_state s) b) n ≡ walk g (next_state s) (leap (next_state s) b) n = walk_enough f g (next_state s) (leap (next_state s) b) (omega arith) (omega arith) e in
            cond-true (nat_lt (leap (next_state s) b) n) _ _ (lt-ltb (leap (next_state s) b) n e) ∙ ih ∙ sym (cond-true (nat_lt (leap (next_state s) b) n) _ _ (lt-ltb (leap (next_state s) b) n e)))
        | inr e ↦ cond-false (nat_lt (leap (next_state s) b) n) _ _ (le-ltb (leap (next_state s) b) n e) ∙ sym (cond-false (nat_lt (leap (next_state s) b) n) _ _ (le-ltb (leap (next_state s) b) n e))
      ]

-- where one more position does not take the walk, it stands where it stood
pub walk_stays : (n f s b : ℕ) → walk f s b (suc n) < n → walk f s b n ≡ walk f s b (suc n)
walk_stays n zero s b h = refl
walk_stays n (suc f) s b h =
    let ih : walk f (next_state s) (leap (next_state s) b) (suc n) < n → walk f (next_state s) (leap (next_state s) b) n ≡ walk f (next_state s) (leap (next_state s) b) (suc n) = walk_stays n f (next_state s) (leap (next_state s) b) in
    let up : leap (next_state s) b ≤ walk f (next_state s) (leap (next_state s) b) (suc n) = walk_up (suc n) f (next_state s) (leap (next_state s) b) in
    grind (arith, nat_tests)

pub position_below : (k n : ℕ) → 0 < n → position k n < n
position_below k n h = walk_below n n k 0 h

pub position_stays : (k n : ℕ) → position k (suc n) < n → position k n ≡ position k (suc n)
position_stays k n h = walk_enough n n (suc n) k 0 (omega arith) (omega arith) (omega arith) ∙ walk_stays n (suc n) k 0 h

-- lists and their last
pub last_push : (R : List ℕ) (s : ℕ) → is_last (R ++ s ∷ []) s ≡ true
last_push [] s = eq-eqb s s refl
last_push (x ∷ []) s = eq-eqb s s refl
last_push (x ∷ y ∷ R) s = last_push (y ∷ R) s

pub last_member : (R : List ℕ) (m : ℕ) → is_last R m ≡ true → member m R ≡ true
last_member [] m h = grind (arith, nat_tests)
last_member (x ∷ []) m h = grind (arith, nat_tests)
last_member (x ∷ y ∷ R) m h =
    let ih : member m (y ∷ R) ≡ true = last_member (y ∷ R) m h in
    grind (arith, nat_tests)

pub last_at : (R : List ℕ) (m i : ℕ) → is_last R m ≡ true → suc i ≡ length R → slice_index R i ≡ m
last_at [] m i h e = absurd (omega arith)
last_at (x ∷ []) m zero h e = grind (arith, nat_tests)
last_at (x ∷ []) m (suc i) h e = absurd (omega arith)
last_at (x ∷ y ∷ R) m zero h e = absurd (omega arith)
last_at (x ∷ y ∷ R) m (suc i) h e = last_at (y ∷ R) m i h (omega arith)

pub without_last_past : (x y : ℕ) (R : List ℕ) (m : ℕ) → Distinct (x ∷ y ∷ R) → is_last (y ∷ R) m ≡ true → without m (x ∷ y ∷ R) ≡ x ∷ without m (y ∷ R)
without_last_past x y R m d h = cond-false (x == m) _ _ (ne_eqb x m (λ e. both_ways (member x (y ∷ R)) d.0 (ap (λ (u : ℕ). member u (y ∷ R)) e ∙ last_member (y ∷ R) m h)))

pub without_last_at : (R : List ℕ) (m i : ℕ) → Distinct R → is_last R m ≡ true → suc i < length R → slice_index (without m R) i ≡ slice_index R i
without_last_at [] m i d h l = absurd (omega arith)
without_last_at (x ∷ []) m i d h l = absurd (omega arith)
without_last_at (x ∷ y ∷ R) m zero d h l = ap (λ (u : List ℕ). slice_index u 0) (without_last_past x y R m d h)
without_last_at (x ∷ y ∷ R) m (suc i) d h l =
    ap (λ (u : List ℕ). slice_index u (suc i)) (without_last_past x y R m d h) ∙ without_last_at (y ∷ R) m i d.1 h (omega arith)

pub jump_same : (k : ℕ) (R : List ℕ) (m : ℕ) → Distinct R → is_last R m ≡ true → 2 ≤ length R → (slice_index R (position k (length R)) ≢ m) →
    slice_index (without m R) (position k (length (without m R))) ≡ slice_index R (position k (length R))
jump_same k R m d h two ne =
    let n : ℕ = length (without m R) in
    let len : n + 1 ≡ length R = without_length m R (last_member R m h) in
    let len2 : length R ≡ suc n = omega arith in
    let b : position k (length R) < length R = position_below k (length R) (omega arith) in
    let at : suc (position k (length R)) ≡ length R → ⊥ = λ e. ne (last_at R m (position k (length R)) h e) in
    let c : position k (length R) < n = grind arith in
    let e : position k n ≡ position k (suc n) = position_stays k n (rw len2 at c) in
    let e2 : position k n ≡ position k (length R) = e ∙ ap (position k) (sym len2) in
    ap (λ (u : ℕ). slice_index (without m R) u) e2 ∙ without_last_at R m (position k (length R)) d h (omega arith)

pub jump_lawful : Lawful jump
unfolding jump
jump_lawful = record {
  greatest_fits = (omega arith, omega arith);
  nearer_end = λ k R r. refl;
  size = λ k R r ros. (let a : 1 ≤ length R = ros.some in omega arith);
  apart = λ k R r ros. (refl, tt);
  within = λ k R r ros s h. (let e : slice_index_or R (position k (length R)) 0 ≡ s = grind (arith, nat_tests) in rw (← e) (member_at R (position k (length R)) (position_below k (length R) ros.some)));
  last_may_leave = λ R s ros. last_push R s;
  others_stay = λ k R r ros m i l two s n h. (let e : slice_index_or R (position k (length R)) 0 ≡ s = grind (arith, nat_tests) in
      let q = jump_same k R m ros.distinct l two (λ z. n (sym e ∙ z)) in
      let q2 : slice_index_or (without m R) (position k (length (without m R))) 0 ≡ s = q ∙ e in
      cond-true (slice_index (without m R) (position k (length (without m R))) == s) true false (eq-eqb _ _ q2));
  untouched = λ k R r ros m i l two h. ap (λ (u : ℕ). u ∷ []) (jump_same k R m ros.distinct l two (λ z. grind (arith, nat_tests)));
}

-- the code's state, which wraps twice
pub wrapped : (s : ℕ) → ((s * 2862933555777941757) % 2 ^ 64 + 1) % 2 ^ 64 ≡ next_state s
wrapped s = omega arith

pub walk_on : (n s b : ℕ) → b < n → leap (next_state s) b < n → walk (n - leap (next_state s) b) (next_state s) (leap (next_state s) b) n ≡ walk (n - b) s b n
walk_on n s b h l =
    let e : n - b ≡ suc (n - (b + 1)) = omega arith in
    let u : b < leap (next_state s) b = leap_up (next_state s) b (state_fits s) in
    walk_enough n (n - leap (next_state s) b) (n - (b + 1)) (next_state s) (leap (next_state s) b) (omega arith) (omega arith) l
    ∙ sym (cond-true (nat_lt (leap (next_state s) b) n) _ _ (lt-ltb (leap (next_state s) b) n l))
    ∙ ap (λ (f : ℕ). walk f s b n) (sym e)

pub walk_off : (n s b : ℕ) → b < n → n ≤ leap (next_state s) b → walk (n - b) s b n ≡ b
walk_off n s b h l =
    let e : n - b ≡ suc (n - (b + 1)) = omega arith in
    ap (λ (f : ℕ). walk f s b n) e ∙ cond-false (nat_lt (leap (next_state s) b) n) _ _ (le-ltb (leap (next_state s) b) n l)

-- a turn of the code's loop, at the state that it has
module _ (n s b u : ℕ) (e : u ≡ next_state s) (h : b < n) where
  pub turn_up : b < leap u b
  turn_up = leap_up u b (rw e (state_fits s))

  pub turn_on : leap u b < n → walk (n - leap u b) u (leap u b) n ≡ walk (n - b) s b n
  turn_on = subst (λ (v : ℕ). leap v b < n → walk (n - leap v b) v (leap v b) n ≡ walk (n - b) s b n) (sym e) (walk_on n s b h)

  pub turn_off : n ≤ leap u b → walk (n - b) s b n ≡ b
  turn_off = subst (λ (v : ℕ). n ≤ leap v b → walk (n - b) s b n ≡ b) (sym e) (walk_off n s b h)

pub last_is : (R : List ℕ) (m i : ℕ) → suc i ≡ length R → (slice_index R i == m) ≡ is_last R m
last_is [] m i e = absurd (omega arith)
last_is (x ∷ []) m zero e = refl
last_is (x ∷ []) m (suc i) e = absurd (omega arith)
last_is (x ∷ y ∷ R) m zero e = absurd (omega arith)
last_is (x ∷ y ∷ R) m (suc i) e = last_is (y ∷ R) m i (omega arith)

walks : (n f s b : ℕ) → n ≤ b + f → b < n → Walks n s b (walk f s b n)
walks n zero s b p h = absurd (omega arith)
walks n (suc f) s b p h =
    let u : b < leap (next_state s) b = leap_up (next_state s) b (state_fits s) in
    let v : ℕ = walk f (next_state s) (leap (next_state s) b) n in
    cond_both (nat_lt (leap (next_state s) b) n) v b (λ r. Walks n s b r)
    (λ e. let l : leap (next_state s) b < n = ltb-true (leap (next_state s) b) n e in step s b v l (walks n f (next_state s) (leap (next_state s) b) (omega arith) l))
    (λ e. stop s b (ltb-false (leap (next_state s) b) n e))

pub position_walks : (k n : ℕ) → 1 ≤ n → Walks n k 0 (position k n)
position_walks k n h = walks n n k 0 (omega arith) h
