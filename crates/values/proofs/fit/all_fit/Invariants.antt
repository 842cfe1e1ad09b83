use Rattle.std.proofs.Common.{◌≡◌, drop}
use Rattle.values.specs.Fit.{fit_all}
use Rattle.values.proofs.fit.all_fit.Given as goal

abbrev pub invariant-loop-x : goal.invariant-loop-x
invariant-loop-x l = fit_all l.width (drop l.x-index l.image) ≡ fit_all l.width l.image
