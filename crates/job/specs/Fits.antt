-- What the functions inside the crate ask of a job that was not refused.
use Rattle.std.specs.Prelude.{ℕ, ◌+◌, ◌*◌, ◌≤◌, ◌<◌, ◌≡◌}
use Rattle.job.specs.declared.loader.Job.{Job}
use Rattle.job.specs.declared.run.Tally.{Tally}

-- n image values; the range's addresses and a sector's cells are in bounds; the width is a part's
pub record JobFits (j : Job) (n : ℕ) : Type 0 where
  pub count : j.count ≡ n
  pub range : j.first + j.count ≤ 4194304
  pub some : 0 < j.size
  pub most : j.size ≤ 4096
  pub narrow : j.row.width ≤ 16

-- no job sends more cycles
abbrev pub MOST-CYCLES : ℕ
MOST-CYCLES = 2147483648

-- counts of n cycles: none above n, and their µs
pub record CountsFit (t : Tally) (n : ℕ) : Type 0 where
  pub erases : t.erases ≤ n
  pub programs : t.programs ≤ n
  pub polls : t.polls ≤ n
  pub scans : t.scans ≤ n
  pub confirms : t.confirms ≤ n
  pub time : t.time ≤ n * 4294967295
