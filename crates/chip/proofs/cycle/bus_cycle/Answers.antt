use mathlib.Core.Path.{sym}
use Rattle.device.proofs.Settled.{ready-settle, ready-act, whole-cycle, refused-whole}
use Rattle.chip.proofs.cycle.bus_cycle.Goals as goal

pub settle-core-requires : goal.settle-core-requires
settle-core-requires c =
    let g = c.args in let o = c.in-Ok in
    (ready-settle g.part o.known.row g.cells.now g.cells.now g.device g.device g.device.core g.cycle o.ensures.row (sym o.ensures.answer)).1

pub act-requires : goal.act-requires
act-requires c =
    let g = c.args in let o = c.in-Ok in let s = c.settle-core in
    let all = ready-act g.part o.known.row g.cells.now s.new.cells g.device c.with_core.result s.result g.cycle o.ensures.row (sym o.ensures.answer)
    s.ensures.1 s.ensures.0 c.with_core.ensures in
    record { runs_inside = all.1.0; cells_value = all.1.1 }

pub returns-in-Ok : goal.returns-in-Ok
returns-in-Ok c =
    let g = c.args in let o = c.in-Ok in let s = c.settle-core in
    whole-cycle g.part o.known.row g.cells.now s.new.cells g.device c.with_core.result s.result g.cycle o.ensures.row (sym o.ensures.answer)
    s.ensures.1 s.ensures.0 c.with_core.ensures c.act.result c.act.new.cells c.act.ensures.0 c.act.ensures.1

pub returns-in-Err : goal.returns-in-Err
returns-in-Err c = let g = c.args in let e = c.in-Err in rw c.number.ensures (refused-whole g.part g.cells.now g.device g.cycle e.refusal e.ensures.answer)
