-- Each exported function's promise determines its result, the lent cells and the readings that it keeps. Stated on the promise that is made from the source.
use mathlib.Core.Path.{◌≡◌, sym, ◌∙◌}
use contract.Lifetimes.{Lfts}
use borrow.Fn.Kinds.{Dens, ended_of, res_t}
use denote.Triple.Clauses.{AtExit}
use Rattle.parts.proofs.Unique.{Unique}
use Rattle.job.proofs.bill.load.Kinds as load-kinds
use Rattle.job.proofs.bill.load.Reads as load-reads
use Rattle.job.proofs.bill.load_first.Kinds as load-first-kinds
use Rattle.job.proofs.bill.load_first.Reads as load-first-reads
use Rattle.job.proofs.loading.begin_load.Kinds as begin-load-kinds
use Rattle.job.proofs.loading.begin_load.Reads as begin-load-reads
use Rattle.job.proofs.loading.is_ending.Kinds as is-ending-kinds
use Rattle.job.proofs.loading.is_ending.Reads as is-ending-reads
use Rattle.job.proofs.loading.Loading.turn.Kinds as turn-kinds
use Rattle.job.proofs.loading.Loading.turn.Reads as turn-reads
use Rattle.job.proofs.bill.BillFromRefusal.from.Kinds as refused-bill-kinds
use Rattle.job.proofs.bill.BillFromRefusal.from.Reads as refused-bill-reads
use Rattle.job.proofs.bill.ReportFromRefusal.from.Kinds as refused-report-kinds
use Rattle.job.proofs.bill.ReportFromRefusal.from.Reads as refused-report-reads

-- any two outcomes of a job that the promise allows have the same bill and leave the same cells
pub load-unique : (κs : Lfts 2) (a : Dens κs load-kinds.ps) (x y : (res_t load-kinds.r κs).Denot)
    (s t : AtExit (ended_of 2 load-kinds.ps load-kinds.r) κs)
    → load-reads.Post κs a x s → load-reads.Post κs a y t → (x ≡ y) × (s.1.0.now ≡ t.1.0.now)
load-unique κs a x y s t p q = (p.0 ∙ sym q.0, p.1 ∙ sym q.1)

-- any two outcomes of the first cycles of a job that the promise allows have the same report and leave the same cells
pub load-first-unique : (κs : Lfts 2) (a : Dens κs load-first-kinds.ps) (x y : (res_t load-first-kinds.r κs).Denot)
    (s t : AtExit (ended_of 2 load-first-kinds.ps load-first-kinds.r) κs)
    → load-first-reads.Post κs a x s → load-first-reads.Post κs a y t → (x ≡ y) × (s.1.0.now ≡ t.1.0.now)
load-first-unique κs a x y s t p q = (p.0 ∙ sym q.0, p.1 ∙ sym q.1)

-- any two outcomes of a begin that the promise allows are the same
pub begin-load-unique : (κs : Lfts 1) (a : Dens κs begin-load-kinds.ps) (x y : (res_t begin-load-kinds.r κs).Denot)
    (s t : AtExit (ended_of 1 begin-load-kinds.ps begin-load-kinds.r) κs)
    → begin-load-reads.Post κs a x s → begin-load-reads.Post κs a y t → x ≡ y
begin-load-unique κs a x y s t p q = p ∙ sym q

-- any two outcomes of a turn that the promise allows are the same, and keep the same readings
pub turn-unique : (κs : Lfts 2) (a : Dens κs turn-kinds.ps) (x y : (res_t turn-kinds.r κs).Denot)
    (s t : AtExit (ended_of 2 turn-kinds.ps turn-kinds.r) κs)
    → turn-reads.Post κs a x s → turn-reads.Post κs a y t → (x ≡ y) × (s.1.1.0.now ≡ t.1.1.0.now)
turn-unique κs a x y s t p q = (p.0 ∙ sym q.0, p.1 ∙ sym q.1)

pub is-ending-unique : Unique is-ending-kinds.ps is-ending-kinds.r is-ending-reads.Post
is-ending-unique κs a x y s t p q = p ∙ sym q

pub refused-bill-unique : Unique refused-bill-kinds.ps refused-bill-kinds.r refused-bill-reads.Post
refused-bill-unique κs a x y s t p q = p ∙ sym q

pub refused-report-unique : Unique refused-report-kinds.ps refused-report-kinds.r refused-report-reads.Post
refused-report-unique κs a x y s t p q = p ∙ sym q
