-- What the functions inside the crate need of a row and of a core: facts of every known part and of every state in range.
use Rattle.std.specs.Prelude.{ℕ, ◌+◌, ◌≤◌, ◌<◌, ◌≡◌, true}
use Rattle.parts.specs.declared.table.Row.{Row}
use Rattle.device.specs.declared.state.Core.{Core}
use Rattle.device.specs.Device.{busy, held}
use Rattle.device.specs.Operation.{cells_of}

-- the values and the device ID of the part are words, and its values have a bit 7
pub record InWords (r : Row) : Type 0 where
  pub values : r.width ≤ 16
  pub bit-7 : 8 ≤ r.width
  pub identity : r.device < 65536

-- the cells of what runs, and of what is suspended, are among the n lent ones
pub record RunsInside (r : Row) (k : Core) (n : ℕ) : Type 0 where
  pub inside : busy k ≡ true → (cells_of r k.running).first + (cells_of r k.running).count ≤ n
  pub held-inside : held k ≡ true → (cells_of r k.suspended).first + (cells_of r k.suspended).count ≤ n
