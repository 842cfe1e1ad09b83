use Rattle.std.proofs.Common.{◌≡◌, ◌∙◌, ◌+◌, ◌-◌, arith, take, drop, refl}
use Rattle.std.proofs.lemmas.Simd.{splat_is_map}
use Rattle.parts.specs.Width.{blank_of}
use Rattle.parts.proofs.Values.{blank-word}
use Rattle.device.specs.Operation.{complete_on, finished}
use Rattle.device.proofs.Leaves.{program-there, came-back, map_same, finished-erase}
use Rattle.chip.proofs.operation.complete.Goals as goal

pub bounds-cells-o : goal.bounds-cells-o
bounds-cells-o c = program-there c.args.part.row c.args.o _ c.if-o-eq-PROGRAM.true c.requires

pub bounds-cells-o-then-o-eq-PROGRAM : goal.bounds-cells-o-then-o-eq-PROGRAM
bounds-cells-o-then-o-eq-PROGRAM c = program-there c.args.part.row c.args.o _ c.if-o-eq-PROGRAM.true c.requires

pub returns : goal.returns
unfolding complete_on
returns c =
    let g = c.args in
    let s = c.cells_of-span.result in
    let k = s.first + s.count - s.first in
    let e : c.blank.result ≡ blank_of g.part.row.width = c.blank.ensures ∙ blank-word _ g.part.in_words.values in
    came-back (finished g.part.row g.o) g.part.row g.o g.cells.now c.fill.new.self s k c.cells_of-span.ensures (omega arith)
    (c.fill.ensures.after (λ y h. h)
    ∙ splat_is_map (take k (drop s.first g.cells.now)) _ c.blank.result refl
    ∙ map_same (λ x. c.blank.result) (finished g.part.row g.o) (λ x. e ∙ finished-erase g.part.row g.o x c.if-o-eq-PROGRAM.false) (take k (drop s.first g.cells.now)))
