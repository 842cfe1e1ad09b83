-- The round trip, of what the exported functions promise: whatever they hand back of a job file that was made is what it was made from.
use mathlib.Core.Path.{◌≡◌, ap, ◌∙◌}
use mathlib.Core.Bool.{Bool}
use mathlib.Core.List.{List}
use Prim.Native.Nat.{ℕ, ◌*◌, ◌^◌, ◌<◌}
use contract.Lifetimes.{Lfts}
use borrow.Fn.Kinds.{Dens, ended_of, res_t}
use denote.Triple.Clauses.{AtExit}
use lib.ListN.{length}
use Rattle.jobfile.specs.JobFile.{asks, job_of}
use Rattle.jobfile.specs.Made.{Below, file_of}
use Rattle.jobfile.proofs.RoundTrip.{round_trip}
use Rattle.jobfile.proofs.trailer.read_job.Kinds as job-kinds
use Rattle.jobfile.proofs.trailer.read_job.Reads as job-reads
use Rattle.jobfile.proofs.image.read_image.Kinds as image-kinds
use Rattle.jobfile.proofs.image.read_image.Reads as image-reads

module _
    (remarks : List ℕ) (part : ℕ) (wp : Bool) (first p : ℕ) (image : List ℕ)
    (part-fits : part < 2 ^ 16) (first_fits : first < 2 ^ 32) (p-fits : p < 2 ^ 16) (size_fits : 2 * length image < 2 ^ 32) (values-fit : Below (2 ^ 16) image)
  where
    -- what read_job hands back
    pub read-job-back : (κs : Lfts 1) (a : Dens κs job-kinds.ps) (x : (res_t job-kinds.r κs).Denot) (s : AtExit (ended_of 1 job-kinds.ps job-kinds.r) κs)
        → a.0.now ≡ file_of remarks part wp first p image
        → job-reads.Post κs a x s → x ≡ asks part wp first p (length remarks) (length image)
    read-job-back κs a x s e post =
        post ∙ (ap job_of e ∙ (round_trip remarks part wp first p image part-fits first_fits p-fits size_fits values-fit).0)

    -- what read_image leaves in an image of the size that read_job names, from the byte that it names
    pub read-image-back : (κs : Lfts 2) (a : Dens κs image-kinds.ps) (x : (res_t image-kinds.r κs).Denot) (s : AtExit (ended_of 2 image-kinds.ps image-kinds.r) κs)
        → a.0.now ≡ file_of remarks part wp first p image → a.1.0 ≡ length remarks → length a.1.1.0.now ≡ length image
        → image-reads.Post κs a x s → s.1.1.0.now ≡ image
    read-image-back κs a x s e f g post =
        post ∙ rw (e, f, g) (round_trip remarks part wp first p image part-fits first_fits p-fits size_fits values-fit).1
