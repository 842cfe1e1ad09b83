-- What the functions inside the crate ask of a row: facts of every part's.
use Rattle.std.specs.Prelude.{ℕ, ◌≤◌, ◌<◌}
use Rattle.parts.specs.Time.{time_of}
use Rattle.parts.specs.declared.table.Row.{Row}

-- a row whose codes are words and whose times are no longer than the longest of the table
pub record CodesAndTimesFit (r : Row) : Type 0 where
  pub sector : r.sector_code < 65536
  pub block : r.block_code < 65536
  pub time : (command : ℕ) → time_of r command ≤ 140000
