-- The job, the second call, and the bill.
use Rattle.std.specs.Prelude.{ℕ, ◌+◌, ◌-◌, ◌*◌, ◌/◌, ◌≤◌, ◌<◌, Bool, List, eqb, length, take, drop}
use Rattle.parts.specs.Names.{PROGRAM, SECTOR}
use Rattle.parts.specs.Pick.{pick}
use Rattle.parts.specs.Width.{sector_size}
use Rattle.parts.specs.Table.{row_of}
use Rattle.parts.specs.Time.{time_of}
use Rattle.parts.specs.declared.table.Row.{Row}
use Rattle.job.specs.declared.loader.Job.{Job}
use Rattle.job.specs.declared.run.Tally.{Tally}
use Rattle.job.specs.declared.run.Held.{Held}
use Rattle.job.specs.declared.bill.Bill.{Bill}
use Rattle.job.specs.declared.bill.Report.{Report}
use Rattle.values.specs.Total.{sum_of}
use Rattle.request.specs.Refusal.{job_refusal}
use Rattle.job.specs.Run.{World, world, no_last, none_sent, play_of}
use Rattle.job.specs.Sent.{sent_of}
use Rattle.job.specs.Formulas.{operation_time}

-- a job that was not refused: on a part that was looked up, and by the part's number
abbrev pub job_on : Row → ℕ → ℕ → ℕ → Bool → ℕ → Job
job_on r part first count wp p = record { part = part; row = r; size = sector_size r.width; first = first; count = count; wp = wp; p = p }

abbrev pub job_from : ℕ → ℕ → ℕ → Bool → ℕ → Job
job_from part first count wp p = job_on (row_of part) part first count wp p

-- ---- the bill
-- the time of a full job: every sector erased and every cell programmed
unfoldable pub full_of : Job → ℕ
full_of j = j.count / j.size * operation_time j SECTOR + j.count * operation_time j PROGRAM

-- spent is the µs of the cycles sent; saved what is left of the full job's time; last the number that the loader stopped with
abbrev pub bill_of : Job → Tally → ℕ → ℕ → Bill
bill_of j t sum n =
    record {
      saved = full_of j - t.time;
      spent = t.time;
      erases = t.erases;
      programs = t.programs;
      polls = t.polls;
      scans = t.scans;
      confirms = t.confirms;
      sum = sum;
      answer = n;
    }

abbrev pub refused_bill : ℕ → Bill
refused_bill n = record { saved = 0; spent = 0; erases = 0; programs = 0; polls = 0; scans = 0; confirms = 0; sum = 0; answer = n }

-- ---- the report of a second call: what is held, and the number that the loader stopped with
abbrev pub reported : Held → ℕ → Report
reported h n =
    record {
      answer = n;
      sent = h.sent;
      last = h.last;
      reply = h.reply;
      erases = h.tally.erases;
      programs = h.tally.programs;
      polls = h.tally.polls;
      scans = h.tally.scans;
      confirms = h.tally.confirms;
      time = h.tally.time;
    }

abbrev pub refused_report : ℕ → Report
refused_report n = record { answer = n; sent = 0; last = no_last; reply = 0; erases = 0; programs = 0; polls = 0; scans = 0; confirms = 0; time = 0 }

-- ---- the two calls: from a fresh device the one list, or its first k cycles, goes through the bus cycle
abbrev pub played : ℕ → List ℕ → ℕ → List ℕ → Bool → ℕ → ℕ → World
played part cells first image wp p k = play_of part (world cells none_sent) (take k (sent_of (job_from part first (length image) wp p) image cells))

abbrev pub played_all : ℕ → List ℕ → ℕ → List ℕ → Bool → ℕ → World
played_all part cells first image wp p = play_of part (world cells none_sent) (sent_of (job_from part first (length image) wp p) image cells)

pub record Reported : Type 0 where
  pub cells : List ℕ
  pub report : Report

unfoldable pub report_of : ℕ → List ℕ → ℕ → List ℕ → Bool → ℕ → ℕ → Reported
report_of part cells first image wp p k =
    pick (eqb (job_refusal part (length cells) first image wp p) 0)
    (record { cells = (played part cells first image wp p k).cells; report = reported (played part cells first image wp p k).held 0 })
    (record { cells = cells; report = refused_report (job_refusal part (length cells) first image wp p) })

pub record Loaded : Type 0 where
  pub cells : List ℕ
  pub bill : Bill

-- sum: the values of the range afterwards; the answer is 0
abbrev pub billed : ℕ → ℕ → List ℕ → Bool → ℕ → World → Bill
billed part first image wp p w =
    bill_of (job_from part first (length image) wp p) w.held.tally (sum_of (row_of part).width (take (length image) (drop first w.cells))) 0

unfoldable pub load_of : ℕ → List ℕ → ℕ → List ℕ → Bool → ℕ → Loaded
load_of part cells first image wp p =
    pick (eqb (job_refusal part (length cells) first image wp p) 0)
    (record { cells = (played_all part cells first image wp p).cells; bill = billed part first image wp p (played_all part cells first image wp p) })
    (record { cells = cells; bill = refused_bill (job_refusal part (length cells) first image wp p) })

-- ---- inside the crate
-- the numbers of a job that its full time needs
pub record FullTimeFits (j : Job) : Type 0 where
  pub some : 0 < j.size
  pub count : j.count ≤ 4194304
  pub p : j.p ≤ 1000
  pub erase : time_of j.row SECTOR ≤ 140000
  pub program : time_of j.row PROGRAM ≤ 140000
