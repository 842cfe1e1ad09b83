use Rattle.std.proofs.Common.{ℕ, bit_or, rules, get_or}
use Rattle.std.proofs.lemmas.List.{get_or_default}
use Rattle.std.proofs.lemmas.List.Edits.{map_over_more}
use Rattle.parts.specs.Width.{value_of}
use Rattle.chip.proofs.operation.scar_each.Goals as goal

pub loop-cell-preserved : goal.loop-cell-preserved
loop-cell-preserved c =
    let f = λ (x : ℕ). bit_or (value_of c.args.width x) c.args.scar in
    let l = c.loop-cell in
    let old = get_or l.cells l.cell-index 0 in
    rw c.value.ensures (map_over_more f c.args.cells.now l.cells l.cell-index old (search rules) l.invariant (get_or_default l.cells l.cell-index 0 old (search rules)))
