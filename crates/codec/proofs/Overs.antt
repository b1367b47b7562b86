-- Bytes written over others: what is written, and what stays before and behind it.
use Rattle.std.proofs.Common.{◌≡◌, ℕ, ◌+◌, ◌-◌, ◌<◌, ◌≤◌, List, ◌++◌, length, take, drop, sym, refl, ap, ◌∙◌, subst, ⊎_elim, arith, length-take}
use Rattle.std.proofs.lemmas.List.{append_assoc, length-take-le, length-append, length-drop, take_at, take-take, take-append-le, drop_at, drop-drop, get_or-take, get_or-drop, get_or_past}
use Rattle.std.proofs.lemmas.Bool.{cases_lt}
use borrow.Rule.Slice.PartMut.{put_mid}
use Rattle.codec.specs.Words.{over, Bytes}

pub length_over : (bs : List ℕ) (o : ℕ) (ws : List ℕ) → o + length ws ≤ length bs → length (over bs o ws) ≡ length bs
unfolding over
length_over bs o ws h =
    let l = length-take-le o bs (omega arith) in
    let d = length-drop (o + length ws) bs in
    let a = length-append (take o bs) (ws ++ drop (o + length ws) bs) in
    let b = length-append ws (drop (o + length ws) bs) in
    omega arith

-- two writes, one behind the other
pub over_over : (bs : List ℕ) (o : ℕ) (xs ys : List ℕ) (n : ℕ) → n ≡ o + length xs → o + length xs ≤ length bs → over (over bs o xs) n ys ≡ over bs o (xs ++ ys)
unfolding over
over_over bs o xs ys n e h =
    let l = length-take-le o bs (omega arith) in
    let p = take o bs ++ xs in
    let q = drop (o + length xs) bs in
    let lp : length p ≡ n = length-append (take o bs) xs ∙ omega arith in
    let s : take o bs ++ (xs ++ q) ≡ p ++ q = sym (append_assoc (take o bs) xs q) in
    let t : take n (p ++ q) ≡ p = take_at p q n lp in
    let d : drop (n + length ys) (p ++ q) ≡ drop (o + length (xs ++ ys)) bs =
    sym (drop-drop (length ys) n (p ++ q)) ∙ ap (drop (length ys)) (drop_at p q n lp) ∙ drop-drop (length ys) (o + length xs) bs
    ∙ ap (λ m. drop m bs) (let z = length-append xs ys in omega arith) in
    ap (λ z. take n z ++ (ys ++ drop (n + length ys) z)) s
    ∙ ap (λ z. z ++ (ys ++ drop (n + length ys) (p ++ q))) t
    ∙ ap (λ z. p ++ (ys ++ z)) d
    ∙ append_assoc (take o bs) xs (ys ++ drop (o + length (xs ++ ys)) bs)
    ∙ ap (λ z. take o bs ++ z) (sym (append_assoc xs ys (drop (o + length (xs ++ ys)) bs)))

pub take_over : (bs : List ℕ) (o : ℕ) (ws : List ℕ) (m : ℕ) → o ≤ length bs → m ≤ o → take m (over bs o ws) ≡ take m bs
unfolding over
take_over bs o ws m h l =
    let e = length-take-le o bs h in
    take-append-le m (take o bs) (ws ++ drop (o + length ws) bs) (omega arith) ∙ take-take m o bs l

pub over_in : (bs : List ℕ) (o : ℕ) (ws : List ℕ) → o ≤ length bs → take (length ws) (drop o (over bs o ws)) ≡ ws
unfolding over
over_in bs o ws h =
    ap (take (length ws)) (drop_at (take o bs) (ws ++ drop (o + length ws) bs) o (length-take-le o bs h)) ∙ take_at ws (drop (o + length ws) bs) (length ws) refl

pub drop_over : (bs : List ℕ) (o : ℕ) (ws : List ℕ) (m : ℕ) → o ≤ length bs → o + length ws ≤ m → drop m (over bs o ws) ≡ drop m bs
unfolding over
drop_over bs o ws m h l =
    let e = length-take-le o bs h in
    let q = drop (o + length ws) bs in
    ap (λ z. drop z (take o bs ++ (ws ++ q))) (let z : m ≡ o + (m - o) = omega arith in z)
    ∙ sym (drop-drop (m - o) o (take o bs ++ (ws ++ q))) ∙ ap (drop (m - o)) (drop_at (take o bs) (ws ++ q) o e)
    ∙ ap (λ z. drop z (ws ++ q)) (let z : m - o ≡ length ws + (m - o - length ws) = omega arith in z)
    ∙ sym (drop-drop (m - o - length ws) (length ws) (ws ++ q)) ∙ ap (drop (m - o - length ws)) (drop_at ws q (length ws) refl)
    ∙ drop-drop (m - o - length ws) (o + length ws) bs ∙ ap (λ z. drop z bs) (let z : o + length ws + (m - o - length ws) ≡ m = omega arith in z)

-- a write through a part of a slice
pub put_mid_over : (a k : ℕ) (xs ys zs : List ℕ) → ys ≡ zs → k ≡ length zs → put_mid a k xs ys ≡ over xs a zs
unfolding over
put_mid_over a k xs ys zs e f =
    ap (λ z. take a xs ++ (z ++ drop k (drop a xs))) e ∙ ap (λ z. take a xs ++ (zs ++ z)) (drop-drop k a xs ∙ ap (λ m. drop (a + m) xs) f)

-- a part of bytes is bytes
pub bytes_take : (n : ℕ) (bs : List ℕ) → Bytes bs → Bytes (take n bs)
bytes_take n bs h i = ⊎_elim
    (λ (l : i < n). subst (λ x. x < 256) (sym (get_or-take n bs i 0 l)) (h i))
    (λ (l : n ≤ i). subst (λ x. x < 256) (sym (get_or_past (take n bs) i 0 (let e = length-take n bs in omega arith))) (omega arith))
    (cases_lt i n)

pub bytes_drop : (n : ℕ) (bs : List ℕ) → Bytes bs → Bytes (drop n bs)
bytes_drop n bs h i = subst (λ x. x < 256) (sym (get_or-drop n bs i 0)) (h (n + i))
