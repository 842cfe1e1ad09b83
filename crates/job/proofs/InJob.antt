-- A loader in its job: its sector lies in the image, its cell in the sector.
use Prim.Native.Nat.{◌+◌, ◌≤◌, ◌<◌}
use mathlib.Core.Path.{◌≡◌}
use mathlib.Core.Bool.{true}
use borrow.Author.Tests.{leb-true, ltb-true, le-leb, lt-ltb}
use Rattle.parts.proofs.Every.{both}
use Rattle.job.specs.declared.loader.Job.{Job}
use Rattle.job.specs.declared.loader.Loader.{Loader}
use Rattle.job.specs.Loader.{in_job}

pub in-sector : (j : Job) (l : Loader) → in_job j l ≡ true → (l.base + j.size ≤ j.count) × (l.at < j.size)
unfolding in_job
in-sector j l e = let w = both _ _ e in (leb-true _ _ w.0, ltb-true _ _ w.1)

pub sector-in : (j : Job) (l : Loader) → l.base + j.size ≤ j.count → l.at < j.size → in_job j l ≡ true
unfolding in_job
sector-in j l a b = simp (le-leb _ _ a, lt-ltb _ _ b)
