use Rattle.std.proofs.Common.{◌≡◌}
use Rattle.jobfile.proofs.Values.{written}
use Rattle.jobfile.proofs.image.read_values.Given as goal

abbrev pub invariant-loop-i : goal.invariant-loop-i
invariant-loop-i l = l.image ≡ written l.bytes l.initial.image l.i
