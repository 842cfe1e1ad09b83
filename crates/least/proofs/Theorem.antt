-- The theorems of this crate, for any width w, sector size S and table times tp and te.
-- The range is the n sectors from sector f on; it lies within the cells.
use mathlib.Core.Path.{◌≡◌}
use mathlib.Core.Logic.{◌⊎◌, ⊎_elim}
use mathlib.Core.List.{List}
use Prim.Native.Nat.{ℕ, ◌+◌, ◌*◌, ◌≤◌, ◌<◌}
use native.Mathlib.Omega.{arith}
use lib.ListN.{length, get_or, take, drop}
use Rattle.parts.specs.Width.{value_of}
use Rattle.least.specs.Operations.{Op, operate_all, Holds, cost_all}
use Rattle.least.specs.LeastTime.{least_time}
use Rattle.least.specs.Job.{job_ops, after_job}
use Rattle.least.proofs.Lists.{middle, map_at, begin-alike, end-alike}
use Rattle.least.proofs.Bound.{operate_all-length, bound}
use Rattle.least.proofs.Run.{found-length, sectors-cost, start, job-run, job-begins, job-ends}

module _ (w S tp te f n : ℕ) (cells image : List ℕ) where
  -- Any operations after which the range holds the image take at least the least time.
  pub optimal : (ops : List Op) → (f + n) * S ≤ length cells → Holds w S f n (operate_all w S ops cells) image
      → least_time w S tp te f n cells image ≤ cost_all tp te ops
  optimal ops inside h = bound w S tp te f n ops cells image inside h

  -- The job's operations take exactly the least time.
  pub job-cost : cost_all tp te (job_ops w S f n cells image) ≡ least_time w S tp te f n cells image
  job-cost = sectors-cost w S tp te n f (drop (f * S) cells) image

  -- So they take no more than any operations after which the range holds the image.
  pub job-best : (ops : List Op) → (f + n) * S ≤ length cells → Holds w S f n (operate_all w S ops cells) image
      → cost_all tp te (job_ops w S f n cells image) ≤ cost_all tp te ops
  job-best ops inside h = omega (arith, job-cost, optimal ops inside h)

module _ (w S f n : ℕ) (cells image : List ℕ) (inside : (f + n) * S ≤ length cells) (whole : length image ≡ n * S) where
  -- After the job the range holds the image.
  pub job-holds : Holds w S f n (after_job w S f n cells image) image
  job-holds i h =
      let run = job-run w S f n cells image inside whole in
      let at : i < length run.found = omega (arith, found-length w S run) in
      rw (run.ends, middle (take (f * S) cells) run.found _ (f * S) i (start w S f n cells image inside whole).before at)
      (map_at (value_of w) run.found image i run.values)

  -- Every cell outside the range is the word that it was, and the number of cells is what it was.
  pub job-elsewhere : (length (after_job w S f n cells image) ≡ length cells)
      × ((i : ℕ) → (i < f * S) ⊎ ((f + n) * S ≤ i) → get_or (after_job w S f n cells image) i 0 ≡ get_or cells i 0)
  job-elsewhere = (
    operate_all-length w S (job_ops w S f n cells image) cells,
    λ i. ⊎_elim (begin-alike _ cells (f * S) i (job-begins w S f n cells image inside whole))
        (end-alike _ cells ((f + n) * S) i (job-ends w S f n cells image inside whole)),
  )
