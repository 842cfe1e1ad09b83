use Prim.Native.Nat.{◌-◌}
use mathlib.Core.Path.{◌≡◌}
use lib.ListN.{length}
use Rattle.job.proofs.Loop.{Going, end_from}
use Rattle.job.proofs.run.run.Given as goal

abbrev pub invariant-loop-held : goal.invariant-loop-held
invariant-loop-held l = (length l.cells ≡ length l.initial.cells) × Going l.work.job l.work.image.now l.k (end_from l.work.job l.work.image.now l.initial.cells l.k) l.seen l.turn l.cells l.held

abbrev pub decreases-loop-held : goal.decreases-loop-held
decreases-loop-held l = l.k - l.held.sent
