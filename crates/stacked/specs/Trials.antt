-- What a store of these pairs and this cap answers when it is asked for its cap, and k is put, read,
-- taken out and read again.
use Rattle.std.specs.Prelude.{ℕ, List, None}
use Rattle.pairs.specs.Pairs.{Pair, find, has}
use Rattle.store.specs.declared.value.Value.{Value}
use Rattle.store.specs.Outcomes.{put_answer, put_pairs}
use Rattle.stacked.specs.declared.trial.Trial.{Trial}

abbrev pub trial_of : List (Pair Value) → ℕ → ℕ → Value → Trial
trial_of ps c k v =
    record {
      cap = c;
      put = put_answer ps c k;
      got = find (put_pairs ps c k v) k;
      removed = has (put_pairs ps c k v) k;
      after = None;
    }
