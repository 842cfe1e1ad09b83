-- Each exported function's promise determines its result and what the lent slice holds afterwards: any two outcomes that it
-- allows are equal. Stated on the promise that is made from the source.
use Prim.Native.Nat.{ℕ}
use mathlib.Core.Path.{◌≡◌, refl, sym, ◌∙◌}
use mathlib.Core.List.{List}
use contract.Lifetimes.{Lfts}
use borrow.Fn.Kinds.{ParamKind, ResultKind, Out, Dens, ended_of, res_t}
use denote.Triple.Clauses.{AtExit}
use Rattle.parts.proofs.Unique.{Unique}
use Rattle.station.proofs.figures.station_figure.Kinds as figure-kinds
use Rattle.station.proofs.figures.station_figure.Reads as figure-reads
use Rattle.station.proofs.figures.station_figure_answer.Kinds as answer-kinds
use Rattle.station.proofs.figures.station_figure_answer.Reads as answer-reads
use Rattle.station.proofs.machine.station_start.Kinds as start-kinds
use Rattle.station.proofs.machine.station_start.Reads as start-reads
use Rattle.station.proofs.machine.station_step.Kinds as step-kinds
use Rattle.station.proofs.machine.station_step.Reads as step-reads
use Rattle.station.proofs.cycle.station_fresh.Kinds as fresh-kinds
use Rattle.station.proofs.cycle.station_fresh.Reads as fresh-reads
use Rattle.station.proofs.cycle.station_read.Kinds as read-kinds
use Rattle.station.proofs.cycle.station_read.Reads as read-reads
use Rattle.station.proofs.cycle.station_write.Kinds as write-kinds
use Rattle.station.proofs.cycle.station_write.Reads as write-reads
use Rattle.station.proofs.cycle.station_idle.Kinds as idle-kinds
use Rattle.station.proofs.cycle.station_idle.Reads as idle-reads
use Rattle.station.proofs.cycle.station_cut.Kinds as cut-kinds
use Rattle.station.proofs.cycle.station_cut.Reads as cut-reads
use Rattle.station.proofs.file.station_job.Kinds as job-kinds
use Rattle.station.proofs.file.station_job.Reads as job-reads
use Rattle.station.proofs.file.station_image.Kinds as image-kinds
use Rattle.station.proofs.file.station_image.Reads as image-reads
use Rattle.station.proofs.load.station_load.Kinds as load-kinds
use Rattle.station.proofs.load.station_load.Reads as load-reads
use Rattle.station.proofs.load.station_load_first.Kinds as load-first-kinds
use Rattle.station.proofs.load.station_load_first.Reads as load-first-reads
use Rattle.station.proofs.loading.station_begin.Kinds as begin-kinds
use Rattle.station.proofs.loading.station_begin.Reads as begin-reads
use Rattle.station.proofs.loading.station_turn.Kinds as turn-kinds
use Rattle.station.proofs.loading.station_turn.Reads as turn-reads
use Rattle.station.proofs.file.station_bill.Kinds as bill-kinds
use Rattle.station.proofs.file.station_bill.Reads as bill-reads
use Rattle.station.proofs.figures.station_write_address.Kinds as write-address-kinds
use Rattle.station.proofs.figures.station_write_address.Reads as write-address-reads
use Rattle.station.proofs.figures.station_write_data.Kinds as write-data-kinds
use Rattle.station.proofs.figures.station_write_data.Reads as write-data-reads
use Rattle.station.proofs.figures.station_write_answer.Kinds as write-answer-kinds
use Rattle.station.proofs.figures.station_write_answer.Reads as write-answer-reads

-- the result, and the lent slice
abbrev UniqueLent : {n : ℕ} (ps : List (ParamKind n)) (r : ResultKind n) → Out n ps r → ((κs : Lfts n) → AtExit (ended_of n ps r) κs → List ℕ) → Type 0
UniqueLent {n} ps r Post held =
    (κs : Lfts n) (a : Dens κs ps) (x y : (res_t r κs).Denot) (s t : AtExit (ended_of n ps r) κs)
    → Post κs a x s → Post κs a y t → (x ≡ y) × (held κs s ≡ held κs t)

pub figure-unique : Unique figure-kinds.ps figure-kinds.r figure-reads.Post
figure-unique κs a x y s t p q = p ∙ sym q

pub answer-unique : Unique answer-kinds.ps answer-kinds.r answer-reads.Post
answer-unique κs a x y s t p q = p ∙ sym q

pub start-unique : Unique start-kinds.ps start-kinds.r start-reads.Post
start-unique κs a x y s t p q = p ∙ sym q

pub step-unique : Unique step-kinds.ps step-kinds.r step-reads.Post
step-unique κs a x y s t p q = p ∙ sym q

pub fresh-unique : Unique fresh-kinds.ps fresh-kinds.r fresh-reads.Post
fresh-unique κs a x y s t p q = p ∙ sym q

pub read-unique : UniqueLent read-kinds.ps read-kinds.r read-reads.Post (λ κs s. s.1.0.now)
read-unique κs a x y s t p q = (p.0 ∙ sym q.0, p.1 ∙ sym q.1)

pub write-unique : UniqueLent write-kinds.ps write-kinds.r write-reads.Post (λ κs s. s.1.0.now)
write-unique κs a x y s t p q = (p.0 ∙ sym q.0, p.1 ∙ sym q.1)

pub idle-unique : UniqueLent idle-kinds.ps idle-kinds.r idle-reads.Post (λ κs s. s.1.0.now)
idle-unique κs a x y s t p q = (p.0 ∙ sym q.0, p.1 ∙ sym q.1)

pub cut-unique : UniqueLent cut-kinds.ps cut-kinds.r cut-reads.Post (λ κs s. s.1.0.now)
cut-unique κs a x y s t p q = (p.0 ∙ sym q.0, p.1 ∙ sym q.1)

pub job-unique : Unique job-kinds.ps job-kinds.r job-reads.Post
job-unique κs a x y s t p q = p ∙ sym q

pub image-unique : UniqueLent image-kinds.ps image-kinds.r image-reads.Post (λ κs s. s.1.1.0.now)
image-unique κs a x y s t p q = (refl, p ∙ sym q)

pub load-unique : UniqueLent load-kinds.ps load-kinds.r load-reads.Post (λ κs s. s.1.0.now)
load-unique κs a x y s t p q = (p.0 ∙ sym q.0, p.1 ∙ sym q.1)

pub load-first-unique : UniqueLent load-first-kinds.ps load-first-kinds.r load-first-reads.Post (λ κs s. s.1.0.now)
load-first-unique κs a x y s t p q = (p.0 ∙ sym q.0, p.1 ∙ sym q.1)

pub begin-unique : Unique begin-kinds.ps begin-kinds.r begin-reads.Post
begin-unique κs a x y s t p q = p ∙ sym q

pub turn-unique : UniqueLent turn-kinds.ps turn-kinds.r turn-reads.Post (λ κs s. s.1.1.0.now)
turn-unique κs a x y s t p q = (p.0 ∙ sym q.0, p.1 ∙ sym q.1)

pub bill-unique : Unique bill-kinds.ps bill-kinds.r bill-reads.Post
bill-unique κs a x y s t p q = p ∙ sym q

pub write-address-unique : Unique write-address-kinds.ps write-address-kinds.r write-address-reads.Post
write-address-unique κs a x y s t p q = p ∙ sym q

pub write-data-unique : Unique write-data-kinds.ps write-data-kinds.r write-data-reads.Post
write-data-unique κs a x y s t p q = p ∙ sym q

pub write-answer-unique : Unique write-answer-kinds.ps write-answer-kinds.r write-answer-reads.Post
write-answer-unique κs a x y s t p q = p ∙ sym q
