-- What the two calls need of a job that is not refused, and what they hand back.
use Prim.Native.Nat.{ℕ, zero, suc, ◌+◌, ◌*◌, ◌/◌, ◌≤◌}
use mathlib.Core.Path.{◌≡◌, refl, sym, ap, ap₂, ◌∙◌}
use mathlib.Core.Bool.{Bool}
use mathlib.Core.List.{List}
use native.Mathlib.Nat.{div-le_self, mul-le-mul}
use native.Mathlib.Omega.{arith}
use lib.ListN.{length, take, drop}
use lib.Seq.{take_all}
use Rattle.std.specs.Prelude.{min}
use Rattle.std.proofs.lemmas.List.{take_min}
use borrow.Author.Tests.{ne_eqb}
use Rattle.parts.specs.Table.{row_of}
use Rattle.parts.specs.Refused.{number_of}
use Rattle.parts.specs.declared.refusal.Refusal.{Refusal}
use Rattle.parts.specs.declared.table.Row.{Row}
use Rattle.parts.proofs.Told.{number_of-positive}
use Rattle.parts.specs.Time.{time_of}
use Rattle.parts.proofs.Sound.{width-most, cells-most, time-most}
use Rattle.parts.proofs.Ranges.{sector-some}
use Rattle.driver.specs.Machine.{confirm_after}
use Rattle.driver.proofs.Ready.{rounded-le}
use Rattle.job.specs.declared.loader.Job.{Job}
use Rattle.job.specs.declared.run.Held.{Held}
use Rattle.job.specs.declared.run.RunEnd.{RunEnd}
use Rattle.job.specs.declared.bill.Bill.{Bill}
use Rattle.job.specs.declared.bill.Report.{Report}
use Rattle.job.specs.Fits.{JobFits}
use Rattle.values.specs.Total.{sum_of}
use Rattle.request.specs.Refusal.{job_refusal}
use Rattle.job.specs.Run.{World, world, none_sent, play_of, run_from, stop_from, run_end}
use Rattle.job.specs.Sent.{sent_of}
use Rattle.job.specs.Formulas.{N, operation_time}
use Rattle.job.specs.Bill.{FullTimeFits, job_on, job_from, refused_bill, refused_report, bill_of, billed, reported, played, played_all, report_of, load_of}
use Rattle.job.proofs.Accepts.{Passed, passed, sector-most}
use Rattle.job.proofs.Runs.{runs, never-stops-short}
use Rattle.job.proofs.Counts.{length_most}

-- ---- a full job's time fits
module _ (j : Job) (t : FullTimeFits j) where
  time-few : (command : ℕ) → command ≤ 1 → time_of j.row command ≤ 140000
  time-few zero h = t.program
  time-few (suc zero) h = t.erase
  time-few (suc (suc c)) h = absurd (omega arith)

  pub polls-fit : (command : ℕ) → command ≤ 1 → N j command * j.p ≤ 140000 * 1000
  polls-fit command h = let n : N j command ≤ 140000 = omega (arith, rounded-le (time_of j.row command) j.p, time-few command h) in mul-le-mul n t.p

  operation-few : (command : ℕ) → command ≤ 1 → operation_time j command ≤ 150000000
  unfolding confirm_after
  operation-few command h = omega (arith, polls-fit command h)

  pub sectors-few : j.count / j.size ≤ 4194304
  sectors-few = omega (arith, div-le_self j.count j.size, t.count)

  pub erases-fit : j.count / j.size * operation_time j 1 ≤ 4194304 * 150000000
  erases-fit = mul-le-mul sectors-few (operation-few 1 (omega arith))

  pub programs-fit : j.count * operation_time j 0 ≤ 4194304 * 150000000
  programs-fit = mul-le-mul t.count (operation-few 0 (omega arith))

-- ---- a job that is not refused
module _ (part first : ℕ) (image cells : List ℕ) (wp : Bool) (p : ℕ) (z : job_refusal part (length cells) first image wp p ≡ 0) where
  abbrev j : Job
  j = job_from part first (length image) wp p

  ok : Passed part (length cells) first image wp p
  ok = passed part (length cells) first image wp p z

  pub range-fits : first + length image ≤ length cells
  range-fits = omega (arith, ok.right.range, ok.whole)

  pub image-few : first + length image ≤ 4194304
  image-few = omega (arith, ok.right.range, cells-most part ok.right.known)

  pub kept : JobFits j (length image)
  kept = record { count = refl; range = image-few; some = sector-some (row_of part).width; most = sector-most (row_of part).width; narrow = width-most part ok.right.known }

  pub timed : FullTimeFits j
  timed =
      record {
        some = sector-some (row_of part).width;
        count = omega (arith, image-few);
        p = ok.right.most;
        erase = time-most part ok.right.known 1 (omega arith);
        program = time-most part ok.right.known 0 (omega arith);
      }

  -- no job sends more cycles than the limit
  pub few-sent : length (sent_of j image cells) ≤ 2147483648
  few-sent = length_most j image ok.right cells ok.whole

  pub runs-first : (k : ℕ) → run_from j image cells k ≡ played part cells first image wp p k
  runs-first k = runs j image ok.right cells ok.whole (sector-some (row_of part).width) (sector-most (row_of part).width) k

  -- neither 11 nor 12, nor any other number, comes in an accepted job
  pub never-short : (k : ℕ) → stop_from j image cells k ≡ 0
  never-short k = never-stops-short j image ok.right cells ok.whole (sector-some (row_of part).width) (sector-most (row_of part).width) k

  -- k cycles, or as many as the limit allows
  module _ (few : length (sent_of j image cells) ≤ 2147483648) where
    take-few : (k : ℕ) → take (min k 2147483648) (sent_of j image cells) ≡ take k (sent_of j image cells)
    take-few k =
        let ss = sent_of j image cells in
        sym (take_min (min k 2147483648) ss) ∙ (ap (λ (n : ℕ). take n ss) (shorter (length ss) few) ∙ take_min k ss)
      where
        shorter : (n : ℕ) → n ≤ 2147483648 → min (min k 2147483648) n ≡ min k n
        shorter n h = omega arith

    pub few-played : (k : ℕ) → run_from j image cells (min k 2147483648) ≡ played part cells first image wp p k
    few-played k = runs-first (min k 2147483648) ∙ ap (play_of part (world cells none_sent)) (take-few k)

    pub reports : (k : ℕ) (e : RunEnd) (cells' : List ℕ) (r : Report) → e ≡ run_end (run_from j image cells (min k 2147483648)).held (stop_from j image cells (min k 2147483648))
        → cells' ≡ (run_from j image cells (min k 2147483648)).cells → r ≡ reported e.held e.answer
        → (r ≡ (report_of part cells first image wp p k).report) × (cells' ≡ (report_of part cells first image wp p k).cells)
    unfolding report_of
    reports k e cells' r qe qc qr =
        let h : e.held ≡ (played part cells first image wp p k).held = ap (λ (e : RunEnd). e.held) qe ∙ ap (λ (w : World). w.held) (few-played k) in
        let n : e.answer ≡ 0 = ap (λ (e : RunEnd). e.answer) qe ∙ never-short (min k 2147483648) in
        rw z
        (qr ∙ ap₂ {A = Held} {B = ℕ} {C = Report} reported h n, qc ∙ ap (λ (w : World). w.cells) (few-played k))

  -- n cycles are all of them
  module _ (n : ℕ) (few : length (sent_of j image cells) ≤ n) where
    all-played : run_from j image cells n ≡ played_all part cells first image wp p
    all-played = runs-first n ∙ ap (play_of part (world cells none_sent)) (take_all n (sent_of j image cells) few)

    pub bills : (e : RunEnd) (cells' : List ℕ) (sum : ℕ) (b : Bill) → e ≡ run_end (run_from j image cells n).held (stop_from j image cells n) → cells' ≡ (run_from j image cells n).cells
        → sum ≡ sum_of (row_of part).width (take (length image) (drop first cells')) → b ≡ bill_of j e.held.tally sum e.answer
        → (b ≡ (load_of part cells first image wp p).bill) × (cells' ≡ (load_of part cells first image wp p).cells)
    unfolding load_of
    bills e cells' sum b qe qc qs qb =
        let w : world cells' e.held ≡ played_all part cells first image wp p = ap₂ {A = List ℕ} {B = Held} {C = World} world qc (ap (λ (e : RunEnd). e.held) qe) ∙ all-played in
        let m : e.answer ≡ 0 = ap (λ (e : RunEnd). e.answer) qe ∙ never-short n in
        rw z
        (qb ∙ (ap₂ {A = ℕ} {B = ℕ} {C = Bill} (bill_of j e.held.tally) qs m ∙ ap (billed part first image wp p) w), ap (λ (w : World). w.cells) w)

-- ---- a job of a part's row, and a job that is refused
pub job-known : {r : Row} {part first count p : ℕ} {wp : Bool} {j : Job} → r ≡ row_of part → j ≡ job_on r part first count wp p → j ≡ job_from part first count wp p
job-known {part = part} {first = first} {count = count} {p = p} {wp = wp} e q = q ∙ ap (λ (r : Row). job_on r part first count wp p) e

module _ (part first : ℕ) (image cells : List ℕ) (wp : Bool) (p : ℕ) where
  abbrev refused : ℕ
  refused = job_refusal part (length cells) first image wp p

  pub refuses-load : (e : Refusal) → number_of e ≡ refused
      → (refused_bill (number_of e) ≡ (load_of part cells first image wp p).bill) × (cells ≡ (load_of part cells first image wp p).cells)
  unfolding load_of
  refuses-load e q = rw (← q, ne_eqb (number_of e) 0 (number_of-positive e)) (refl, refl)

  pub refuses-report : (k : ℕ) (e : Refusal) → number_of e ≡ refused
      → (refused_report (number_of e) ≡ (report_of part cells first image wp p k).report) × (cells ≡ (report_of part cells first image wp p k).cells)
  unfolding report_of
  refuses-report k e q = rw (← q, ne_eqb (number_of e) 0 (number_of-positive e)) (refl, refl)

-- what the check proves a full job's time by
pub ruleset times = (polls-fit, sectors-few, erases-fit, programs-fit)
