-- The run of a right job is the playing of its one list, and no driver in it ends with anything but 0.
use Prim.Native.Nat.{ℕ, ◌+◌, ◌*◌, ◌/◌, ◌≤◌, ◌<◌}
use mathlib.Core.Path.{◌≡◌, refl}
use mathlib.Core.List.{List}
use native.Mathlib.Nat.{div-add-mod', zero-mod}
use native.Mathlib.Omega.{arith}
use lib.ListN.{length, take, replicate, length-replicate}
use Rattle.parts.specs.Table.{row_of}
use Rattle.job.specs.declared.loader.Job.{Job}
use Rattle.job.specs.Loader.{turned, next_sector}
use Rattle.job.specs.Run.{world, none_sent, play_of, run_from, stop_from}
use Rattle.job.specs.Sent.{sent_of}
use Rattle.job.proofs.AcceptedJob.{AcceptedJob}
use Rattle.job.proofs.Rest.{Rest}
use Rattle.job.proofs.Sectors.{sectors}

module _ (j : Job) (image : List ℕ) (R : AcceptedJob j image) (cells : List ℕ) (whole : length cells ≡ (row_of j.part).cells) (some : 0 < j.size) (most : j.size ≤ 4096) where
  -- from the first sector's first read on, whatever was kept before, the cycles to come are the one list
  pub all_rest : (seen : List ℕ) → length seen ≡ 4096 → Rest j image (turned seen (next_sector j 0)) (world cells none_sent) (sent_of j image cells)
  all_rest seen long =
      let z : j.first + 0 ≡ j.first = omega arith in
      let e : 0 + j.count / j.size * j.size ≡ j.count = omega (arith, div-add-mod' j.count j.size, R.whole) in
      rw z at
      (sectors j image R some most (j.count / j.size) 0 seen (world cells none_sent) e (zero-mod j.size) long (record { rest = refl; whole = whole }))

  -- k cycles run are the first k of the one list played
  pub runs : (k : ℕ) → run_from j image cells k ≡ play_of j.part (world cells none_sent) (take k (sent_of j image cells))
  unfolding Rest
  runs k = (all_rest (replicate 4096 0) (length-replicate {A = ℕ} 4096 0) k).0

  -- neither 11 nor 12, nor any other number, comes: the loader goes on, or has stopped with 0
  pub never-stops-short : (k : ℕ) → stop_from j image cells k ≡ 0
  unfolding Rest
  never-stops-short k = (all_rest (replicate 4096 0) (length-replicate {A = ℕ} 4096 0) k).1.0
