-- Each exported function's promise determines its result and every lent value. Stated on the promise that is made from the source.
use mathlib.Core.Path.{◌≡◌, refl, sym, ◌∙◌}
use contract.Lifetimes.{Lfts}
use borrow.Fn.Kinds.{Dens, ended_of, res_t}
use denote.Triple.Clauses.{AtExit}
use Rattle.parts.proofs.Unique.{Unique}
use Rattle.jobfile.proofs.trailer.read_job.Kinds as read-job-kinds
use Rattle.jobfile.proofs.trailer.read_job.Reads as read-job-reads
use Rattle.jobfile.proofs.image.read_image.Kinds.{ps, r}
use Rattle.jobfile.proofs.image.read_image.Reads.{Post}

pub read-job-unique : Unique read-job-kinds.ps read-job-kinds.r read-job-reads.Post
read-job-unique κs a x y s t p q = p ∙ sym q

-- any two outcomes of a read image that the promise allows leave the same image
pub read-image-unique : (κs : Lfts 2) (a : Dens κs ps) (x y : (res_t r κs).Denot) (s t : AtExit (ended_of 2 ps r) κs)
    → Post κs a x s → Post κs a y t → (x ≡ y) × (s.1.1.0.now ≡ t.1.1.0.now)
read-image-unique κs a x y s t p q = (refl, p ∙ sym q)
