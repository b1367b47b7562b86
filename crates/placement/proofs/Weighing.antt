-- Stores sorted beside their weights are the stores sorted by them.
use Rattle.std.proofs.Common.{◌≡◌, ℕ, ◌+◌, ◌<◌, ◌≤◌, List, [], ◌∷◌, ◌++◌, map, length, take, set, sym, refl, ap, ◌∙◌, subst, append_assoc, arith}
use Rattle.std.specs.List.{AllByRecursion as All}
use Rattle.std.specs.List.Sorted.{IsPermutation}
use Rattle.std.proofs.lemmas.List.{take-map, take_more_set, length-map, length-take-le}
use Rattle.std.proofs.lemmas.List.Sorted.{length_permutation}
use Rattle.std.proofs.ByRecursion.{All-map, All-take, all_shuffled}
use Rattle.order.specs.Sorting.{sort}
use Rattle.order.proofs.Sorts.{sort_map}
use Rattle.placement.specs.declared.rendezvous.Candidate.{Candidate}
use Rattle.placement.specs.Rendezvous.{weight, ahead}
use Rattle.placement.specs.Candidates.{candidate, heavier, store_of, Numbered}

stores_back : (k : ℕ) (l : List ℕ) → map store_of (map (candidate k) l) ≡ l
stores_back k [] = refl
stores_back k (x ∷ l) = ap (λ (u : List ℕ). x ∷ u) (stores_back k l)

-- a turn of the loop that weighs
pub weigh_more : (k i s w : ℕ) (left : List ℕ) (room : List Candidate) → i < length room → w ≡ weight k s →
    take (i + 1) (set room i (record { weight = record { 0 = w }; store = s })) ++ map (candidate k) left ≡ take i room ++ map (candidate k) (s ∷ left)
weigh_more k i s w left room l e =
    let c : Candidate = record { weight = record { 0 = w }; store = s } in
    ap (λ (u : List Candidate). u ++ map (candidate k) left) (take_more_set room i c l)
    ∙ append_assoc (take i room) (c ∷ []) (map (candidate k) left)
    ∙ ap (λ (v : ℕ). take i room ++ (record { weight = record { 0 = v }; store = s } ∷ map (candidate k) left)) e

-- a rearrangement of the members' candidates, and its first n
module _ (k n : ℕ) (R : List ℕ) (cs new : List Candidate) (weighed : cs ≡ map (candidate k) R) where
  pub front_length : IsPermutation cs new → n ≤ length R → length (take n new) ≡ n
  front_length p h =
      let l : length new ≡ length R = length_permutation cs new p ∙ ap length weighed ∙ length-map R (candidate k) in
      length-take-le n new (omega arith)

  pub front_numbered : IsPermutation cs new → All (λ s. s < 16) R → All Numbered (take n new)
  front_numbered p small =
      let a : All Numbered cs = subst (All Numbered) (sym weighed) (All-map Numbered (candidate k) R small) in
      All-take Numbered n new (all_shuffled Numbered cs new p a)

  pub front_stores : take n new ≡ take n (sort heavier cs) → map store_of (take n new) ≡ take n (sort (ahead k) R)
  front_stores e =
      ap (map store_of) (e ∙ ap (λ (u : List Candidate). take n (sort heavier u)) weighed ∙ ap (take n) (sort_map (candidate k) heavier R) ∙ take-map (candidate k) n (sort (ahead k) R))
      ∙ stores_back k (take n (sort (ahead k) R))
