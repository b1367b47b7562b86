-- The memory that stores are made over.
use Rattle.std.specs.Prelude.{◌≡◌, ℕ, ◌+◌, ◌*◌, ◌≤◌, length}
use Rattle.simulation.specs.declared.building.Memory.{Memory}
use Rattle.simulation.specs.Vacant.{cells_for, bytes_for}

-- enough for n stores, of a cap that a run gives
pub record Room (n : ℕ) (m : Memory) : Type 0 where
  pub low : 1 ≤ m.cap
  pub high : m.cap ≤ 64
  pub cells : n * cells_for m.cap ≤ length m.cells.now
  pub bytes : n * bytes_for m.cap ≤ length m.bytes.now

-- what is left behind the memory of n stores
pub record Left (n : ℕ) (m rest : Memory) : Type 0 where
  pub cap : rest.cap ≡ m.cap
  pub cells : length rest.cells.now + n * cells_for m.cap ≡ length m.cells.now
  pub bytes : length rest.bytes.now + n * bytes_for m.cap ≡ length m.bytes.now
