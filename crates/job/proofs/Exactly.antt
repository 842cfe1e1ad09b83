-- The bill of a job that is not refused follows document 01's formulas.
use Prim.Native.Nat.{ℕ, ◌+◌, ◌*◌, ◌/◌}
use mathlib.Core.Path.{◌≡◌, refl, ◌∙◌}
use mathlib.Core.Bool.{Bool}
use mathlib.Core.List.{List}
use native.Mathlib.Nat.{zero-add}
use native.Mathlib.Omega.{arith}
use borrow.Author.Tests.{eq-eqb}
use lib.ListN.{length}
use Rattle.parts.specs.Names.{PROGRAM, SECTOR}
use Rattle.parts.specs.Width.{sector_size}
use Rattle.parts.specs.Table.{row_of}
use Rattle.parts.specs.Time.{polls_of}
use Rattle.driver.specs.Machine.{confirm_after}
use Rattle.request.specs.Refusal.{job_refusal}
use Rattle.job.specs.declared.loader.Job.{Job}
use Rattle.job.specs.declared.bill.Bill.{Bill}
use Rattle.job.specs.Run.{world, none_sent}
use Rattle.job.specs.Sent.{sent_of}
use Rattle.job.specs.Formulas.{tally_of}
use Rattle.job.specs.Bill.{job_from, full_of, played_all, load_of}
use Rattle.job.proofs.Accepts.{passed}
use Rattle.job.proofs.Counts.{play-tally, job-fair, time-most}

-- document 01's formulas of a bill: saved is what is left of the time in which every sector is erased and every cell programmed
pub record BillFollows (part : ℕ) (image : List ℕ) (p : ℕ) (b : Bill) : Type 0 where
  pub polls : b.polls ≡ b.erases * polls_of (row_of part) SECTOR p + b.programs * polls_of (row_of part) PROGRAM p
  pub spent : b.spent ≡ b.polls * p + b.confirms * confirm_after
  pub confirms : b.confirms ≡ b.erases + b.programs
  pub scans : b.scans + b.erases * sector_size (row_of part).width ≡ length image + length image
  pub saved : b.saved + b.spent
      ≡ length image / sector_size (row_of part).width * (polls_of (row_of part) SECTOR p * p + confirm_after)
      + length image * (polls_of (row_of part) PROGRAM p * p + confirm_after)
  pub answer : b.answer ≡ 0

-- The bill of a job that is not refused follows them.
pub bill-follows : (part : ℕ) (cells : List ℕ) (first : ℕ) (image : List ℕ) (wp : Bool) (p : ℕ) → job_refusal part (length cells) first image wp p ≡ 0
    → BillFollows part image p (load_of part cells first image wp p).bill
unfolding load_of full_of
bill-follows part cells first image wp p accepted =
    let j : Job = job_from part first (length image) wp p in
    let ok = passed part (length cells) first image wp p accepted in
    let f = job-fair j image ok.right cells ok.whole in
    let t : (played_all part cells first image wp p).held.tally ≡ tally_of (sent_of j image cells)
    = play-tally part (world cells none_sent) (sent_of j image cells) ∙ simp zero-add in
    rw (eq-eqb (job_refusal part (length cells) first image wp p) 0 accepted)
    (record {
      polls = rw t f.polls;
      spent = rw t f.spent;
      confirms = rw t f.confirms;
      scans = rw t f.scans;
      saved = rw t (omega (arith, time-most j image ok.right cells ok.whole));
      answer = refl;
    })
