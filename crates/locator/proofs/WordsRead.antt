-- From the words that were read to the question, or to the first word that is wrong.
use Rattle.std.proofs.Common.{◌≡◌, ℕ, zero, suc, ◌<◌, ◌≤◌, List, [], get_or, IsErrAnd, Ok, Err, Result, sym, subst, arith, MatchResult}
use Rattle.placement.specs.declared.policies.Policy.{Policy}
use Rattle.locator.specs.declared.words.Reason.{Reason}
use Rattle.locator.specs.declared.words.LocateFault.{LocateFault}
use Rattle.locator.specs.declared.words.LocateFault.TheVariants.{Word, Memory}
use Rattle.locator.specs.Questions.{Text, policy_word, Writes, Right, Says, NoKey, Refuses}

-- the words before a place are right, from what was read of them
pub right_before : (ws : List Text) (k : ℕ) (p : Policy) → (0 < k → get_or ws 0 [] ≡ policy_word p) → (1 < k → (n : ℕ) × Writes (get_or ws 1 []) n × (1 ≤ n) × (n ≤ 16)) →
    ((j : ℕ) → 2 ≤ j → j < k → (n : ℕ) × Writes (get_or ws j []) n) → (j : ℕ) → j < k → Right j (get_or ws j [])
right_before ws k p a b d zero h = (p, a h)
right_before ws k p a b d (suc zero) h = b h
right_before ws k p a b d (suc (suc j)) h = d (suc (suc j)) (omega arith) h

pub key_wrong : (ws : List Text) (e : LocateFault) (p : Policy) → get_or ws 0 [] ≡ policy_word p → ((n : ℕ) × Writes (get_or ws 1 []) n × (1 ≤ n) × (n ≤ 16)) →
    ((n : ℕ) × Writes (get_or ws 2 []) n) → NoKey ws e → Refuses ws e
key_wrong ws Memory p a b d k = tt
key_wrong ws (Word f) p a b d k = record {
  before = right_before ws f.place p (λ _. a) (λ _. b) later;
  here = subst (λ (r : Reason). Says r ws f.place) (sym k.2) ((let l : 3 ≤ f.place = k.0 in omega arith), k.1, k.4);
}
  where
    later : (j : ℕ) → 2 ≤ j → j < f.place → (n : ℕ) × Writes (get_or ws j []) n
    later zero l h = absurd (omega arith)
    later (suc zero) l h = absurd (omega arith)
    later (suc (suc zero)) l h = d
    later (suc (suc (suc j))) l h = k.3 (suc (suc (suc j))) (omega arith) h

-- the exit of a `?` that hands a fault up
pub handed_up : {T : Type 0} (r : Result T LocateFault) (e : LocateFault) (P : T → Type 0) (Q : LocateFault → Type 0) → IsErrAnd r (λ y. y ≡ e) → Q e → MatchResult r P Q
handed_up (Ok x) e P Q h q = absurd h
handed_up (Err y) e P Q h q = subst Q (sym h) q
