-- Packed words: the number at a place, one more behind the last, one taken out.
use Rattle.std.proofs.Common.{◌≡◌, ℕ, zero, suc, ◌+◌, ◌*◌, ◌/◌, ◌%◌, ◌^◌, ◌<◌, ◌≤◌, List, [], ◌∷◌, ◌++◌, length, get_or, take, sym, refl, ap, ◌∙◌, lt_of_lt_of_le, div-one, mul_left_comm, arith, pow_pos, pow_mono}
use Rattle.std.proofs.lemmas.Nat.{shr-shr, shr_split, one_shl, mod_below, mod-pow-add, pow-add, mul-le, shl_whole}
use Rattle.std.specs.List.{AllByRecursion}
use Rattle.placement.specs.Packing.{unpack, cut}

pub length_unpack : (w n : ℕ) → length (unpack w n) ≡ n
length_unpack w zero = refl
length_unpack w (suc n) = ap suc (length_unpack (w / 16) n)

pub get_or_unpack : (w n i : ℕ) → i < n → get_or (unpack w n) i 0 ≡ (w / 2 ^ (4 * i)) % 16
get_or_unpack w zero i h = absurd (omega arith)
get_or_unpack w (suc n) zero h = ap (λ (x : ℕ). x % 16) (sym (div-one w))
get_or_unpack w (suc n) (suc i) h =
    let e : 4 + 4 * i ≡ 4 * suc i = omega arith in
    get_or_unpack (w / 16) n i (omega arith) ∙ ap (λ (x : ℕ). x % 16) (shr-shr w 4 (4 * i) ∙ ap (λ (x : ℕ). w / 2 ^ x) e)

pub unpack_push : (w n s : ℕ) → w < 2 ^ (4 * n) → s < 16 → unpack (w + s * 2 ^ (4 * n)) (suc n) ≡ unpack w n ++ s ∷ []
unpack_push w zero s h l =
    let a : w ≡ 0 = omega arith in
    let b : (w + s * 1) % 16 ≡ s = omega arith in
    ap (λ (x : ℕ). x ∷ []) b
unpack_push w (suc n) s h l =
    let e : 4 * suc n ≡ 4 + 4 * n = omega arith in
    let p : 2 ^ (4 * suc n) ≡ 16 * 2 ^ (4 * n) = ap (λ (x : ℕ). 2 ^ x) e ∙ pow-add 2 4 (4 * n) in
    let q : s * 2 ^ (4 * suc n) ≡ 16 * (s * 2 ^ (4 * n)) = ap (λ (x : ℕ). s * x) p ∙ mul_left_comm s 16 (2 ^ (4 * n)) in
    let a : (w + s * 2 ^ (4 * suc n)) % 16 ≡ w % 16 = omega arith in
    let b : (w + s * 2 ^ (4 * suc n)) / 16 ≡ w / 16 + s * 2 ^ (4 * n) = omega arith in
    let c : w / 16 < 2 ^ (4 * n) = omega arith in
    rw (a, b) (ap (λ (x : List ℕ). w % 16 ∷ x) (unpack_push (w / 16) n s c l))

-- the word after a push is short enough
pub push_short : (w n s : ℕ) → w < 2 ^ (4 * n) → s < 16 → w + s * 2 ^ (4 * n) < 2 ^ (4 * (n + 1))
push_short w n s h l =
    let e : 4 * (n + 1) ≡ 4 + 4 * n = omega arith in
    let p : 2 ^ (4 * (n + 1)) ≡ 16 * 2 ^ (4 * n) = ap (λ (x : ℕ). 2 ^ x) e ∙ pow-add 2 4 (4 * n) in
    let t : s * 2 ^ (4 * n) ≤ 15 * 2 ^ (4 * n) = mul-le s (2 ^ (4 * n)) 15 (2 ^ (4 * n)) (omega arith) (omega arith) in
    omega arith

pub push_fits : (w n s : ℕ) → n < 16 → w < 2 ^ (4 * n) → s < 16 → w + s * 2 ^ (4 * n) < 2 ^ 64
push_fits w n s m h l =
    let a : w + s * 2 ^ (4 * n) < 2 ^ (4 * (n + 1)) = push_short w n s h l in
    let b : 4 * (n + 1) ≤ 64 = omega arith in
    let c : 2 ^ (4 * (n + 1)) ≤ 2 ^ 64 = pow_mono b in
    lt_of_lt_of_le a c

pub shifted : (s n : ℕ) → s < 16 → n < 16 → (s * 2 ^ (4 * n)) % 2 ^ 64 ≡ s * 2 ^ (4 * n)
shifted s n l m = shl_whole s 4 (4 * n) 64 l (omega arith)

sixteen_more : (i : ℕ) → 2 ^ (4 * suc i) ≡ 16 * 2 ^ (4 * i)
sixteen_more i = let e : 4 * suc i ≡ 4 + 4 * i = omega arith in ap (λ (x : ℕ). 2 ^ x) e ∙ pow-add 2 4 (4 * i)

low_more : (w i : ℕ) → w % 2 ^ (4 * suc i) ≡ (w / 16 % 2 ^ (4 * i)) * 16 + w % 16
low_more w i = let e : 4 * suc i ≡ 4 * i + 4 = omega arith in ap (λ (x : ℕ). w % 2 ^ x) e ∙ mod-pow-add w (4 * i) 4

high_more : (w i : ℕ) → w / 2 ^ (4 * suc i) ≡ w / 16 / 2 ^ (4 * i)
high_more w i = let e : 4 + 4 * i ≡ 4 * suc i = omega arith in sym (shr-shr w 4 (4 * i) ∙ ap (λ (x : ℕ). w / 2 ^ x) e)

-- what lies past the first n numbers does not count
pub unpack_low : (w n : ℕ) → unpack (w % 2 ^ (4 * n)) n ≡ unpack w n
unpack_low w zero = refl
unpack_low w (suc n) =
    let e = low_more w n in
    let a : (w % 2 ^ (4 * suc n)) % 16 ≡ w % 16 = omega arith in
    let b : (w % 2 ^ (4 * suc n)) / 16 ≡ w / 16 % 2 ^ (4 * n) = omega arith in
    rw (a, b) (ap (λ (x : List ℕ). w % 16 ∷ x) (unpack_low (w / 16) n))

pub unpack_pushed : (w n s : ℕ) → s < 16 → unpack (w % 2 ^ (4 * n) + s * 2 ^ (4 * n)) (suc n) ≡ unpack w n ++ s ∷ []
unpack_pushed w n s l =
    unpack_push (w % 2 ^ (4 * n)) n s (mod_below w (2 ^ (4 * n)) (pow_pos (4 * n))) l ∙ ap (λ (x : List ℕ). x ++ s ∷ []) (unpack_low w n)

-- one taken out of a word, the later ones moved down
pub unpack_cut : (i n w : ℕ) → i ≤ n → unpack (w % 2 ^ (4 * i) + w / 2 ^ (4 * i) / 16 * 2 ^ (4 * i)) n ≡ cut i (unpack w (suc n))
unpack_cut zero n w h =
    let e : w % 1 + w / 1 / 16 * 1 ≡ w / 16 = omega arith in
    ap (λ (x : ℕ). unpack x n) e
unpack_cut (suc i) zero w h = absurd (omega arith)
unpack_cut (suc i) (suc n) w h =
    let l = low_more w i in
    let p : (w / 2 ^ (4 * suc i)) / 16 * 2 ^ (4 * suc i) ≡ 16 * (w / 16 / 2 ^ (4 * i) / 16 * 2 ^ (4 * i)) =
    ap (λ (x : ℕ). x / 16 * 2 ^ (4 * suc i)) (high_more w i) ∙ ap (λ (x : ℕ). w / 16 / 2 ^ (4 * i) / 16 * x) (sixteen_more i)
    ∙ mul_left_comm (w / 16 / 2 ^ (4 * i) / 16) 16 (2 ^ (4 * i)) in
    let a : (w % 2 ^ (4 * suc i) + w / 2 ^ (4 * suc i) / 16 * 2 ^ (4 * suc i)) % 16 ≡ w % 16 = omega arith in
    let b : (w % 2 ^ (4 * suc i) + w / 2 ^ (4 * suc i) / 16 * 2 ^ (4 * suc i)) / 16 ≡ w / 16 % 2 ^ (4 * i) + w / 16 / 2 ^ (4 * i) / 16 * 2 ^ (4 * i) = omega arith in
    rw (a, b) (ap (λ (x : List ℕ). w % 16 ∷ x) (unpack_cut i n (w / 16) (omega arith)))

-- a front of a word's numbers
pub take_unpack : (m n w : ℕ) → m ≤ n → take m (unpack w n) ≡ unpack w m
take_unpack zero n w h = refl
take_unpack (suc m) zero w h = absurd (omega arith)
take_unpack (suc m) (suc n) w h = ap (λ (x : List ℕ). w % 16 ∷ x) (take_unpack m n (w / 16) (omega arith))

-- the code's sums and shifts stay within a word
pub low_fits : (w i : ℕ) → i < 16 → w % ((1 * 2 ^ (4 * i)) % 2 ^ 64) ≡ w % 2 ^ (4 * i)
low_fits w i h = ap (λ (x : ℕ). w % x) (one_shl (4 * i) 64 (omega arith))

pub pushed_fits : (w n s : ℕ) → n < 16 → s < 16 → w % 2 ^ (4 * n) + s * 2 ^ (4 * n) < 2 ^ 64
pushed_fits w n s h l = push_fits (w % 2 ^ (4 * n)) n s h (mod_below w (2 ^ (4 * n)) (pow_pos (4 * n))) l

pub cut_fits : (w i : ℕ) → w < 2 ^ 64 → w % 2 ^ (4 * i) + w / 2 ^ (4 * i) / 16 * 2 ^ (4 * i) < 2 ^ 64
cut_fits w i h =
    let P : ℕ = 2 ^ (4 * i) in
    let a : w / P * P + w % P ≡ w = shr_split w (4 * i) in
    let b : w / P / 16 * P ≤ w / P * P = mul-le (w / P / 16) P (w / P) P (omega arith) (omega arith) in
    omega arith

pub cut_high : (w i : ℕ) → w < 2 ^ 64 → (w / 2 ^ (4 * i) / 16 * 2 ^ (4 * i)) % 2 ^ 64 ≡ w / 2 ^ (4 * i) / 16 * 2 ^ (4 * i)
cut_high w i h = let a = cut_fits w i h in omega arith

-- each number of a word is below sixteen
pub unpack_small : (w n : ℕ) → AllByRecursion (λ s. s < 16) (unpack w n)
unpack_small w zero = tt
unpack_small w (suc n) = (mod_below w 16 (omega arith), unpack_small (w / 16) n)
