-- The bill's counts as sums over a list of cycles alone, and its formulas: no chip in them.
use Rattle.std.specs.Prelude.{ℕ, ◌+◌, ◌*◌, ◌≤◌, ◌≡◌, List, [], ◌∷◌}
use Rattle.parts.specs.Names.{PROGRAM, SECTOR}
use Rattle.parts.specs.Time.{polls_of}
use Rattle.driver.specs.Machine.{confirm_after}
use Rattle.job.specs.declared.loader.Job.{Job}
use Rattle.job.specs.declared.run.Tally.{Tally}
use Rattle.job.specs.Run.{Sent, tally, counted_of}

-- two counts together
abbrev pub plus : Tally → Tally → Tally
plus t u =
    tally (t.erases + u.erases) (t.programs + u.programs) (t.polls + u.polls) (t.scans + u.scans) (t.confirms + u.confirms)
    (t.time + u.time)

-- nothing counted
abbrev pub no_tally : Tally
no_tally = tally 0 0 0 0 0 0

-- the counts of a list
unfoldable pub tally_of : List Sent → Tally
tally_of [] = no_tally
tally_of (s ∷ ss) = plus (counted_of no_tally s.purpose s.cycle.elapsed) (tally_of ss)

-- N of a job's command
abbrev pub N : Job → ℕ → ℕ
N j command = polls_of j.row command j.p

-- the µs of an operation: N polls p apart, and the confirming read
abbrev pub operation_time : Job → ℕ → ℕ
operation_time j command = N j command * j.p + confirm_after

-- the bill's formulas, of t, the counts of n cycles: at most e erases and c programs;
-- s cells to be read, of which those of an erased sector are read once less
pub record FollowsFormulas (j : Job) (t : Tally) (n s e c : ℕ) : Type 0 where
  pub polls : t.polls ≡ t.erases * N j SECTOR + t.programs * N j PROGRAM
  pub spent : t.time ≡ t.polls * j.p + t.confirms * confirm_after
  pub confirms : t.confirms ≡ t.erases + t.programs
  pub scans : t.scans + t.erases * j.size ≡ s
  pub erases : t.erases ≤ e
  pub programs : t.programs ≤ c
  -- six writes an erase, four a program
  pub cycles : n ≡ t.scans + t.polls + t.confirms + t.erases * 6 + t.programs * 4
