-- Each exported function's promise determines its result: any two results that it allows are equal. Stated on the promise that is made from the source.
use Rattle.parts.proofs.Unique.{Unique}
use Rattle.parts.proofs.Told.{told-unique}
use Rattle.request.proofs.refusal.check_job.Kinds as check-job-kinds
use Rattle.request.proofs.refusal.check_job.Reads as check-job-reads
use Rattle.request.proofs.refusal.check_begin.Kinds as check-begin-kinds
use Rattle.request.proofs.refusal.check_begin.Reads as check-begin-reads
use Rattle.request.proofs.refusal.check_standing.Kinds as check-standing-kinds
use Rattle.request.proofs.refusal.check_standing.Reads as check-standing-reads
use Rattle.request.proofs.refusal.check_standing_on.Kinds as check-standing-on-kinds
use Rattle.request.proofs.refusal.check_standing_on.Reads as check-standing-on-reads

pub check-job-unique : Unique check-job-kinds.ps check-job-kinds.r check-job-reads.Post
check-job-unique κs a x y s t p q = told-unique x y _ _ p.0 p.1 q.0 q.1

pub check-begin-unique : Unique check-begin-kinds.ps check-begin-kinds.r check-begin-reads.Post
check-begin-unique κs a x y s t p q = told-unique x y _ _ p.0 p.1 q.0 q.1

pub check-standing-unique : Unique check-standing-kinds.ps check-standing-kinds.r check-standing-reads.Post
check-standing-unique κs a x y s t p q = told-unique x y _ _ p.0 p.1 q.0 q.1

pub check-standing-on-unique : Unique check-standing-on-kinds.ps check-standing-on-kinds.r check-standing-on-reads.Post
check-standing-on-unique κs a x y s t p q = told-unique x y _ _ p.0 p.1 q.0 q.1
