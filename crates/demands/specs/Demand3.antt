-- Demand 3, the invoice. For every accepted job on an idle chip with no power cut: the range ends holding the image, no
-- other cell has changed; the bill's erases, programs, polls, scans, confirming reads and time are those of the cycles sent
-- and follow the formulas; and no list of bus cycles does it in less.
use Rattle.std.specs.Prelude.{◌+◌, ◌*◌, ◌/◌, ◌≤◌, ◌≡◌, true, List, length}
use Rattle.parts.specs.Names.{PROGRAM, SECTOR}
use Rattle.parts.specs.Width.{sector_size}
use Rattle.parts.specs.Table.{row_of}
use Rattle.parts.specs.Time.{time_of}
use Rattle.device.specs.declared.state.Device.{Device}
use Rattle.device.specs.declared.cycle.Cycle.{Cycle}
use Rattle.device.specs.Device.{fresh_device, idle}
use Rattle.device.specs.Cycle.{chip}
use Rattle.device.specs.Trace.{started_in}
use Rattle.device.specs.Recent.{later}
use Rattle.job.specs.declared.bill.Bill.{Bill}
use Rattle.job.specs.Bill.{Loaded, load_of}
use Rattle.invoice.specs.Started.{table_time}
use Rattle.invoice.specs.Invoice.{sent_cycles, sectors_alone, Invoice, Partly, Rival}
use Rattle.demands.specs.Calls.{LoadCall, to_load, load_left, LoadFirstCall, to_load_first, load_first_left, refused_job, BillFileCall, to_bill, job_asked, refused_file}
use Rattle.demands.specs.Controller.{StationLoadCall, StationLoadFirstCall, station_to_load, station_to_load_first, station_load_left, station_load_first_left, StationBillCall, station_to_bill}

-- what a job leaves on the cells, beside a bill
abbrev pub with_bill : Bill → Loaded → Loaded
with_bill b l = record { cells = l.cells; bill = b }

pub record Demand3 : Type 0 where
  -- The range holds the image and no other cell has changed; the bill's erases and programs are the operations that the
  -- cycles sent start; polls, spent, scans, confirms, saved and sum follow the formulas; every scan and every confirming read
  -- shows the value of its cell (document 02, Wish 1); the answer is 0. The lines of `Invoice` say each of these.
  pub load-bills : (c : LoadCall) → let j = to_load c in refused_job j ≡ 0
      → Invoice j.part j.cells j.first j.image j.wp j.p (load_left c)
  -- No rival, that is no list of bus cycles from the same cells and any idle device, at any WP# levels and times, without
  -- cut, block or chip erase, that ends idle with the image in the range, starts operations whose table times add up to
  -- less than those of the bill's erases and programs.
  pub no-rival-is-quicker : (c : LoadCall) → let j = to_load c in refused_job j ≡ 0
      → (d : Device) (cs : List Cycle) → Rival j.part j.cells j.first j.image d cs
      → c.back.erases * time_of (row_of j.part) SECTOR + c.back.programs * time_of (row_of j.part) PROGRAM
      ≤ table_time (row_of j.part) (started_in j.part (chip j.cells d) cs)
  -- A rival has to end on a device that is idle some time later: one that ends idle does.
  pub idle-end-will-do : (d : Device) → idle d ≡ true → idle (later d) ≡ true
  -- There is such a rival: the job's own cycles, from a fresh device.
  pub job-is-a-rival : (c : LoadCall) → let j = to_load c in refused_job j ≡ 0
      → Rival j.part j.cells j.first j.image fresh_device
      (sent_cycles j.part j.cells j.first j.image j.wp j.p)
  -- The second call leaves the cells as the first k of the job's bus cycles leave them, all if fewer; its last cycle is the
  -- last of these, zeros for none, and its reply what that one shows; its erases and programs are the operations that these
  -- cycles start, and its polls, scans, confirming reads and time are theirs. The lines of `Partly` say each of these.
  pub load-first-plays : (c : LoadFirstCall) → let j = (to_load_first c).job in refused_job j ≡ 0
      → Partly j.part j.cells j.first j.image j.wp j.p (to_load_first c).k (load_first_left c)
  -- What a job does in a sector is what a job of that sector alone does: its bus cycles are those of its sectors, each
  -- loaded alone, one after the other.
  pub sector-by-sector : (c : LoadCall) → let j = to_load c in refused_job j ≡ 0
      → sent_cycles j.part j.cells j.first j.image j.wp j.p
      ≡ sectors_alone j.part j.cells j.wp j.p (length j.image / sector_size (row_of j.part).width) j.first j.image
  -- A job file's bill is that of the job that it asks for, on a blank bench part.
  pub bill-file-bills : (c : BillFileCall) → let j = job_asked (to_bill c) in refused_file (to_bill c) ≡ 0
      → Invoice j.part j.cells j.first j.image j.wp j.p (with_bill c.back (load_of j.part j.cells j.first j.image j.wp j.p))
  -- The C controller's job, its second call, and its bill of a job file.
  pub station-load-bills : (c : StationLoadCall) → let j = station_to_load c in refused_job j ≡ 0
      → Invoice j.part j.cells j.first j.image j.wp j.p (station_load_left c)
  pub station-load-first-plays : (c : StationLoadFirstCall) → let j = (station_to_load_first c).job in refused_job j ≡ 0
      → Partly j.part j.cells j.first j.image j.wp j.p (station_to_load_first c).k (station_load_first_left c)
  pub station-bill-bills : (c : StationBillCall) → let j = job_asked (station_to_bill c) in refused_file (station_to_bill c) ≡ 0
      → Invoice j.part j.cells j.first j.image j.wp j.p (with_bill c.back (load_of j.part j.cells j.first j.image j.wp j.p))
