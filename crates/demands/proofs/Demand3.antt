-- Demand 3 is met. What is proved stands in specs/Demand3.antt.
use mathlib.Core.Path.{◌≡◌, refl, ap, ◌∙◌}
use mathlib.Core.Bool.{Bool, true, false}
use native.Mathlib.Omega.{arith}
use lib.Dec.{ltb}
use lib.ListN.{length}
use Rattle.parts.specs.Pick.{pick}
use Rattle.device.specs.Device.{idle}
use Rattle.device.proofs.Idle.{idle-later}
use Rattle.job.specs.Bill.{Loaded, load_of, refused_bill}
use Rattle.jobfile.specs.JobFile.{malformed}
use Rattle.billing.specs.File.{bill_of_file}
use Rattle.invoice.proofs.Billed.{invoice, partly, least, job-rivals, table-time}
use Rattle.invoice.proofs.Alone.{sector-by-sector}
use Rattle.demands.specs.Calls.{ToLoad, to_load, to_load_first, refused_job, ToRead, to_bill, job_asked, refused_file}
use Rattle.demands.specs.Controller.{station_to_load, station_to_load_first, station_to_bill}
use Rattle.demands.specs.Demand3.{Demand3}

-- a file that is not refused: its job is not, and its bill is the job's
module _ (g : ToRead) where
  abbrev j : ToLoad
  j = job_asked g

  abbrev done : Loaded
  done = load_of j.part j.cells j.first j.image j.wp j.p

  taken : refused_file g ≡ 0 → (refused_job j ≡ 0) × (bill_of_file g.file ≡ done.bill)
  unfolding bill_of_file
  taken = by (ltb 20480 (length g.file)) (malformed g.file)
    where
      by : (t u : Bool) → pick t 13 (pick u 13 (refused_job j)) ≡ 0
          → (refused_job j ≡ 0) × (pick t (refused_bill 13) (pick u (refused_bill 13) done.bill) ≡ done.bill)
      by true u e = absurd (omega arith)
      by false true e = absurd (omega arith)
      by false false e = (e, refl)

pub demand-3 : Demand3
demand-3 =
    record {
      load-bills = λ c accepted. let j = to_load c in
          rw (c.promise.0, c.promise.1) (invoice j.part j.cells j.first j.image j.wp j.p accepted);
      no-rival-is-quicker = λ c accepted d cs rival. let j = to_load c in
          rw (c.promise.0, ← table-time j.part j.cells j.first j.image j.wp j.p accepted)
          (least j.part j.cells j.first j.image j.wp j.p accepted d cs rival);
      idle-end-will-do = λ d i. ap idle (idle-later d i) ∙ i;
      job-is-a-rival = λ c accepted. let j = to_load c in
          job-rivals j.part j.cells j.first j.image j.wp j.p accepted;
      load-first-plays = λ c accepted. let j = (to_load_first c).job in
          rw (c.promise.0, c.promise.1) (partly j.part j.cells j.first j.image j.wp j.p accepted (to_load_first c).k);
      sector-by-sector = λ c accepted. let j = to_load c in
          sector-by-sector j.part j.cells j.wp j.p j.first j.image accepted;
      bill-file-bills = λ c accepted. let j = job_asked (to_bill c) in
          let w = taken (to_bill c) accepted in
          rw (c.promise ∙ w.1) (invoice j.part j.cells j.first j.image j.wp j.p w.0);
      station-load-bills = λ c accepted. let j = station_to_load c in
          rw (c.promise.0, c.promise.1) (invoice j.part j.cells j.first j.image j.wp j.p accepted);
      station-load-first-plays = λ c accepted. let j = (station_to_load_first c).job in
          rw (c.promise.0, c.promise.1) (partly j.part j.cells j.first j.image j.wp j.p accepted (station_to_load_first c).k);
      station-bill-bills = λ c accepted. let j = job_asked (station_to_bill c) in
          let w = taken (station_to_bill c) accepted in
          rw (c.promise ∙ w.1) (invoice j.part j.cells j.first j.image j.wp j.p w.0);
    }
