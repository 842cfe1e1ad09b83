use Prim.Native.Nat.{◌+◌, ◌-◌}
use mathlib.Core.Path.{◌≡◌, sym}
use native.Mathlib.Omega.{arith}
use lib.ListN.{length}
use Rattle.job.proofs.Billing.{image-few, range-fits, kept, timed, few-sent, bills, job-known, refuses-load}
use Rattle.job.proofs.bill.load.Goals as goal

pub overflow_cast-image : goal.overflow_cast-image
overflow_cast-image c = let g = c.args in omega (arith, image-few g.part g.first g.image.now g.cells.now g.wp g.p (sym c.in-Ok.ensures.answer))

pub invariant_of-run : goal.invariant_of-run
invariant_of-run c = let g = c.args in
    record { fits = rw (job-known c.in-Ok.ensures.row c.job_on-job.ensures) (kept g.part g.first g.image.now g.cells.now g.wp g.p (sym c.in-Ok.ensures.answer)) }

pub slice_bounds-sum-end : goal.slice_bounds-sum-end
slice_bounds-sum-end c = let g = c.args in
    omega (arith, range-fits g.part g.first g.image.now g.cells.now g.wp g.p (sym c.in-Ok.ensures.answer), c.run-ended.auto.cells)

pub invariant_of-bill : goal.invariant_of-bill
invariant_of-bill c = let g = c.args in
    record { fits = rw (job-known c.in-Ok.ensures.row c.job_on-job.ensures) (timed g.part g.first g.image.now g.cells.now g.wp g.p (sym c.in-Ok.ensures.answer)) }

pub returns-in-Ok : goal.returns-in-Ok
returns-in-Ok c = let g = c.args in
    let z = sym c.in-Ok.ensures.answer in
    let j = job-known c.in-Ok.ensures.row c.job_on-job.ensures in
    let t = c.sum-total.ensures in
    let e : g.first + length g.image.now - g.first ≡ length g.image.now = omega arith in
    bills g.part g.first g.image.now g.cells.now g.wp g.p z 2147483648 (few-sent g.part g.first g.image.now g.cells.now g.wp g.p z)
    _ _ _ _ (rw j at c.run-ended.ensures.0) (rw j at c.run-ended.ensures.1) (rw (c.in-Ok.ensures.row, e) at t) (rw j at c.bill.ensures)

pub returns-in-Err : goal.returns-in-Err
returns-in-Err c = let g = c.args in let e = c.in-Err in
    rw c.from.ensures (refuses-load g.part g.first g.image.now g.cells.now g.wp g.p e.refusal e.ensures.answer)
