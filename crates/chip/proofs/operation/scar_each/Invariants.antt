use Rattle.std.proofs.Common.{◌≡◌, ◌++◌, map, take, drop, bit_or}
use Rattle.parts.specs.Width.{value_of}
use Rattle.chip.proofs.operation.scar_each.Given as goal

abbrev pub invariant-loop-cell : goal.invariant-loop-cell
invariant-loop-cell l =
    l.cells ≡ map (λ x. bit_or (value_of l.width x) l.scar) (take l.cell-index l.initial.cells) ++ drop l.cell-index l.initial.cells
