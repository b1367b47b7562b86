use Rattle.std.proofs.Common.{◌≡◌, ℕ, ◌+◌, ◌*◌, ◌/◌, ◌%◌, ◌^◌, ◌<◌, sym, ap, ◌∙◌, add-one}
use Rattle.placement.specs.Packing.{unpack, cut}
use Rattle.placement.proofs.Digits.{unpack_cut, cut_high, low_fits}
use Rattle.placement.proofs.number_cut.Goals as goal

-- the word that the code makes, without its wrapping
made : (w i : ℕ) → i < 16 → w < 2 ^ 64 →
    w % ((1 * 2 ^ (4 * i)) % 2 ^ 64) + (w / 2 ^ (4 * i) / 16 * 2 ^ (4 * i)) % 2 ^ 64 ≡ w % 2 ^ (4 * i) + w / 2 ^ (4 * i) / 16 * 2 ^ (4 * i)
made w i h f =
    ap (λ (x : ℕ). x + (w / 2 ^ (4 * i) / 16 * 2 ^ (4 * i)) % 2 ^ 64) (low_fits w i h) ∙ ap (λ (x : ℕ). w % 2 ^ (4 * i) + x) (cut_high w i f)

pub returns : goal.returns
returns c n h =
    let w = c.args.word in
    let i = c.args.place in
    ap (λ (x : ℕ). unpack x n) (made w i c.requires c.ranges.word.fits) ∙ unpack_cut i n w h ∙ ap (λ (x : ℕ). cut i (unpack w x)) (sym (add-one n))
