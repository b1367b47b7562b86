-- A change of one store of a row: what it leaves of the others, and of the first ones.
use Rattle.std.proofs.Common.{◌≡◌, ℕ, ◌<◌, List, length, take, set, sym, ap, ◌∙◌, length-set, get_or-take}
use Rattle.std.proofs.Math.Seq.{take-set-lt}
use Rattle.std.proofs.lemmas.List.{get_or-set_same, get_or-set_other}
use Rattle.store.specs.Meaning.{Meaning, nothing}
use Rattle.store.specs.Stores.{nth, change_at}

module _ (st : List Meaning) (s : ℕ) (f : Meaning → Meaning) where
  pub change_length : length (change_at st s f) ≡ length st
  change_length = length-set st s (f (nth st s))

  pub change_same : s < length st → nth (change_at st s f) s ≡ f (nth st s)
  change_same l = get_or-set_same st s (f (nth st s)) nothing l

  pub change_other : (q : ℕ) → (q ≡ s → ⊥) → nth (change_at st s f) q ≡ nth st q
  change_other q d = get_or-set_other st s q (f (nth st s)) nothing d

  pub change_take : (n : ℕ) → s < n → take n (change_at st s f) ≡ change_at (take n st) s f
  change_take n h = take-set-lt n st s (f (nth st s)) h ∙ ap (λ (m : Meaning). set (take n st) s (f m)) (sym (get_or-take n st s nothing h))
