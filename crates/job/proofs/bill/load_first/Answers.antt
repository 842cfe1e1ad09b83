use mathlib.Core.Path.{sym}
use native.Mathlib.Omega.{arith}
use Rattle.job.proofs.Billing.{image-few, kept, few-sent, reports, job-known, refuses-report}
use Rattle.job.proofs.bill.load_first.Goals as goal

pub overflow_cast-image : goal.overflow_cast-image
overflow_cast-image c = let g = c.args in omega (arith, image-few g.part g.first g.image.now g.cells.now g.wp g.p (sym c.in-Ok.ensures.answer))

pub invariant_of-run : goal.invariant_of-run
invariant_of-run c = let g = c.args in
    record { fits = rw (job-known c.in-Ok.ensures.row c.job_on-job.ensures) (kept g.part g.first g.image.now g.cells.now g.wp g.p (sym c.in-Ok.ensures.answer)) }

pub returns-in-Ok : goal.returns-in-Ok
returns-in-Ok c = let g = c.args in
    let z = sym c.in-Ok.ensures.answer in
    let j = job-known c.in-Ok.ensures.row c.job_on-job.ensures in
    let f = c.min.ensures in
    reports g.part g.first g.image.now g.cells.now g.wp g.p z (few-sent g.part g.first g.image.now g.cells.now g.wp g.p z)
    g.k _ _ _ (rw (j, f) at c.run.ensures.0) (rw (j, f) at c.run.ensures.1) c.write_report.ensures

pub returns-in-Err : goal.returns-in-Err
returns-in-Err c = let g = c.args in let e = c.in-Err in
    rw c.from.ensures (refuses-report g.part g.first g.image.now g.cells.now g.wp g.p g.k e.refusal e.ensures.answer)
