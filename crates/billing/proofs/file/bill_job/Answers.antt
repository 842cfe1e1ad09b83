use Rattle.std.proofs.Common.{replicate, arith, ℕ}
use lib.Seq.{length-take-le}
use Rattle.std.proofs.lemmas.List.{length-replicate}
use Rattle.billing.proofs.Asked.{of_values}
use Rattle.billing.proofs.file.bill_job.Goals as goal

pub returns : goal.returns
returns c =
    let given = c.args in
    of_values given.file.now given.asked _ _ _ (length-take-le given.asked.count (replicate 10240 0) (omega (arith, length-replicate {A = ℕ} 10240 0))) c.read_image.ensures c.load.ensures.0
