use mathlib.Core.Path.{sym, ap, ◌∙◌}
use native.Mathlib.Omega.{arith}
use Rattle.job.specs.Loading.{LoadTurned}
use Rattle.job.proofs.Billing.{job-known}
use Rattle.job.proofs.InRange.{turns-job}
use Rattle.job.proofs.loading.Loading.turn.Goals as goal

pub returns-in-Ok : goal.returns-in-Ok
returns-in-Ok c = let g = c.args in
    let e = sym (turns-job g.self g.image.now g.seen.now g.read (sym c.in-Ok.ensures.answer) (omega arith)) in
    let t = rw (job-known c.in-Ok.ensures.row c.job_on-job.ensures) at c.job_turn.ensures in
    (t.0 ∙ ap (λ (t : LoadTurned). t.turn) e, t.1 ∙ ap (λ (t : LoadTurned). t.seen) e)
