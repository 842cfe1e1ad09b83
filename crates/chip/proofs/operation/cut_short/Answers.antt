use Rattle.device.proofs.Leaves.{program-there}
use Rattle.chip.proofs.operation.cut_short.Goals as goal

pub bounds-cells-o : goal.bounds-cells-o
bounds-cells-o c = program-there c.args.row c.args.o _ c.if-o-eq-PROGRAM.true c.requires

pub bounds-cells-o-then-o-eq-PROGRAM : goal.bounds-cells-o-then-o-eq-PROGRAM
bounds-cells-o-then-o-eq-PROGRAM c = program-there c.args.row c.args.o _ c.if-o-eq-PROGRAM.true c.requires
