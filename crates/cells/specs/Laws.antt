-- What a walk meets, in plain words.
use Rattle.std.specs.Prelude.{◌≡◌, ℕ, ◌<◌, List, length, Some}
use Rattle.store.specs.declared.value.Value.{Value}
use Rattle.cells.specs.declared.Cell.{Cell}
use Rattle.cells.specs.declared.Cell.TheVariants.{Live}
use Rattle.cells.specs.Walk.{cell_at, seat, sought, vacancy}
use Rattle.cells.specs.Held.{live_one, Standing}

-- p is the first place of the walk for k whose cell is not live
pub record FirstFree (cs : List Cell) (k p : ℕ) : Type 0 where
  pub step : ℕ
  pub within : step < length cs
  pub there : seat (length cs) k step ≡ p
  pub not_live : live_one (cell_at cs p) ≡ 0
  pub live_before : (j : ℕ) → j < step → live_one (cell_at cs (seat (length cs) k j)) ≡ 1

pub record WalkLaws : Type 0 where
  -- what the walk finds is a live cell of its key
  pub found_is_live : (cs : List Cell) (k p : ℕ) → sought cs k ≡ Some p → (v : Value) × (cell_at cs p ≡ Live k v)
  -- in a standing table the walk finds every key that is held
  pub live_is_found : (cs : List Cell) (c p k : ℕ) (v : Value) → Standing cs c → cell_at cs p ≡ Live k v → sought cs k ≡ Some p
  -- the cell for a new pair is the first of the walk that is not live
  pub free_is_first : (cs : List Cell) (k p : ℕ) → vacancy cs k ≡ Some p → FirstFree cs k p
