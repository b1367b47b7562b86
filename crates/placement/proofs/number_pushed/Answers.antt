use Rattle.std.proofs.Common.{◌≡◌, ℕ, ◌+◌, ◌*◌, ◌%◌, ◌^◌, ◌<◌, sym, ap, ◌∙◌, subst, add-one}
use Rattle.placement.specs.Packing.{unpack}
use Rattle.placement.proofs.Digits.{unpack_pushed, pushed_fits, low_fits, shifted}
use Rattle.placement.proofs.number_pushed.Goals as goal

-- the word that the code makes, without its wrapping
made : (w n s : ℕ) → n < 16 → s < 16 → w % ((1 * 2 ^ (4 * n)) % 2 ^ 64) + (s * 2 ^ (4 * n)) % 2 ^ 64 ≡ w % 2 ^ (4 * n) + s * 2 ^ (4 * n)
made w n s h l = ap (λ (x : ℕ). x + (s * 2 ^ (4 * n)) % 2 ^ 64) (low_fits w n h) ∙ ap (λ (x : ℕ). w % 2 ^ (4 * n) + x) (shifted s n l h)

pub overflow_add-result : goal.overflow_add-result
overflow_add-result c = record { fits = subst (λ (x : ℕ). x < 2 ^ 64) (sym (made c.args.word c.args.len c.args.number c.requires.0 c.requires.1)) (pushed_fits c.args.word c.args.len c.args.number c.requires.0 c.requires.1) }

pub returns : goal.returns
returns c =
    let w = c.args.word in
    let n = c.args.len in
    let s = c.args.number in
    ap (λ (x : ℕ). unpack x (n + 1)) (made w n s c.requires.0 c.requires.1)
    ∙ ap (λ (x : ℕ). unpack (w % 2 ^ (4 * n) + s * 2 ^ (4 * n)) x) (add-one n) ∙ unpack_pushed w n s c.requires.1
