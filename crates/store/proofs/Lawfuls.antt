-- The calls keep the laws of a store.
use Rattle.std.proofs.Common.{◌≡◌, ℕ, ◌+◌, ◌≤◌, cond, List, length, arith}
use Rattle.std.proofs.lemmas.Bool.{cond_both}
use Rattle.std.proofs.lemmas.Bool.Decides.{nat_tests}
use Rattle.pairs.specs.Pairs.{Pair, has, insert, erase}
use Rattle.pairs.proofs.Maps.{insert_ascends, erase_ascends, insert_each, erase_each, length_insert, length_erase}
use Rattle.store.specs.declared.value.Value.{Value}
use Rattle.store.specs.Meaning.{FitsWords, Lawful, most}
use Rattle.store.specs.Outcomes.{refuses, put_pairs}

pub put_lawful : (ps : List (Pair Value)) (c k : ℕ) (v : Value) → Lawful ps c → FitsWords k v → Lawful (put_pairs ps c k v) c
put_lawful ps c k v h f =
    cond_both (refuses ps c k) ps (insert ps k v) (λ x. Lawful x c) (λ _. h)
    (λ n.
    let l : length (insert ps k v) ≡ length ps + cond (has ps k) 0 1 = length_insert ps k v h.ordered in
    let a : length ps ≤ most = h.few in
    let b : c ≤ most = h.cap_few in
    record { ordered = insert_ascends ps k v h.ordered; words = insert_each FitsWords ps k v h.words f; few = grind (arith, nat_tests); cap_few = b })

pub erase_lawful : (ps : List (Pair Value)) (c k : ℕ) → Lawful ps c → Lawful (erase ps k) c
erase_lawful ps c k h =
    let l = length_erase ps k in
    let a = h.few in
    record { ordered = erase_ascends ps k h.ordered; words = erase_each FitsWords ps k h.ordered h.words; few = omega arith; cap_few = h.cap_few }
