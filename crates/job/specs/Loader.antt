-- The loader, step by step: what follows from the value last read.
use Rattle.std.specs.Prelude.{ℕ, ◌+◌, ◌-◌, Bool, true, false, List, eqb, ltb, leb, get_or, set, take, drop, Some, None}
use Rattle.parts.specs.Names.{BAD-STATE, PROGRAM, SECTOR}
use Rattle.parts.specs.Pick.{pick}
use Rattle.parts.specs.Width.{value_of, blank_of}
use Rattle.device.specs.declared.cycle.Action.{Action}
use Rattle.device.specs.declared.cycle.Action.TheVariants.{Read, Write, Idle, Cut}
use Rattle.device.specs.Cycle.{cycle}
use Rattle.driver.specs.declared.machine.Phase.{Phase}
use Rattle.driver.specs.declared.machine.Phase.TheVariants.{Writing, Polling, Confirming, Done, GaveUp, Differs}
use Rattle.driver.specs.declared.machine.Driver.{Driver}
use Rattle.driver.specs.declared.machine.Step.{Step}
use Rattle.driver.specs.Machine.{step_of, start_writing}
use Rattle.job.specs.declared.loader.Job.{Job}
use Rattle.job.specs.declared.loader.Stage.{Stage}
use Rattle.job.specs.declared.loader.Stage.TheVariants.{Scanning, Looking, Driving}
use Rattle.job.specs.declared.loader.Task.{Task}
use Rattle.job.specs.declared.loader.Task.TheVariants.{Erasing, Filling, Burning}
use Rattle.job.specs.declared.loader.Loader.{Loader}
use Rattle.job.specs.declared.loader.Purpose.{Purpose}
use Rattle.job.specs.declared.loader.Purpose.TheVariants.{Scan, Lead, Begin, Poll, Confirm}
use Rattle.job.specs.declared.loader.Turn.{Turn}
use Rattle.job.specs.declared.loader.Turn.TheVariants.{Play, Stop}
use Rattle.values.specs.declared.search.Decision.{Decision}
use Rattle.values.specs.declared.search.Decision.TheVariants.{NoErase, SectorErase}
use Rattle.values.specs.Search.{decision_of, leading_of}

abbrev pub loader : Stage → ℕ → ℕ → Loader
loader s base at = record { stage = s; base = base; at = at }

-- the address of a cell of a sector
abbrev pub place_of : Job → ℕ → ℕ → ℕ
place_of j base i = j.first + (base + i)

-- ---- reads
-- a cell is read at 0 µs
abbrev pub reads_cell : Job → Stage → ℕ → ℕ → Turn
reads_cell j s base i = Play (loader s base i) Scan (cycle 0 j.wp (Read (place_of j base i)))

-- the sector at base is read from its first cell on, if there is one
unfoldable pub next_sector : Job → ℕ → Turn
next_sector j base = pick (ltb base j.count) (reads_cell j Scanning base 0) (Stop 0)

-- the cells of an unerased sector are read again from i on; then the next sector
unfoldable pub look_of : Job → ℕ → ℕ → Turn
look_of j base i = pick (ltb i j.size) (reads_cell j Looking base i) (next_sector j (base + j.size))

-- ---- operations
abbrev pub polling : Phase → Bool
polling Writing = false
polling Polling = true
polling Confirming = false
polling Done = false
polling GaveUp = false
polling Differs = false

-- why a driver of a command names a cycle, by the phase that it is in then
abbrev pub purpose_of : ℕ → Phase → Action → Purpose
purpose_of command f (Read a) = pick (polling f) Poll Confirm
purpose_of command f (Write a x) = pick (polling f) (Begin command) Lead
purpose_of command f Idle = Lead
purpose_of command f (Cut s) = Lead

-- the cycle that a driver names
abbrev pub goes_on : Job → Task → ℕ → ℕ → Driver → ℕ → Action → Turn
goes_on j t base i d e a = Play (loader (Driving t d) base i) (purpose_of d.command d.phase a) (cycle e j.wp a)

-- a driver's first step: its cycle, or the refusal of its start
abbrev pub first_step : Job → Task → ℕ → ℕ → Step → Turn
first_step j t base i s = elim s.next [ None ↦ Stop s.answer | Some (e, a) ↦ goes_on j t base i s.driver e a ]

-- an operation at a cell of a sector begins with its first write
unfoldable pub begin_of : Job → Task → ℕ → ℕ → ℕ → ℕ → Turn
begin_of j t base i command x = first_step j t base i (start_writing j.part command (place_of j base i) x j.p)

-- ---- an erased sector: the next non-blank value from i on is programmed; then the next sector
abbrev pub next_mark : Job → List ℕ → ℕ → ℕ → ℕ
next_mark j image base i = i + leading_of (blank_of j.row.width) (take (j.size - i) (drop (base + i) image))

unfoldable pub fill_of : Job → List ℕ → ℕ → ℕ → Turn
fill_of j image base i =
    pick (ltb (next_mark j image base i) j.size)
    (begin_of j Filling base (next_mark j image base i) PROGRAM (get_or image (base + next_mark j image base i) 0))
    (next_sector j (base + j.size))

-- ---- an unerased sector: a cell whose value differs is programmed at once; on eight-bit parts only the reply's low eight bits count
unfoldable pub burn_of : Job → List ℕ → ℕ → ℕ → ℕ → Turn
burn_of j image base i reply =
    pick (eqb (value_of j.row.width reply) (get_or image (base + i) 0)) (look_of j base (i + 1))
    (begin_of j Burning base i PROGRAM (get_or image (base + i) 0))

-- ---- the decision, from the values seen
-- what it asks for is begun: the sector's erase, or its cells are read again
abbrev pub carry_out : Job → ℕ → Decision → Turn
carry_out j base NoErase = look_of j base 0
carry_out j base SectorErase = begin_of j Erasing base 0 SECTOR 0

unfoldable pub decide_of : Job → List ℕ → List ℕ → ℕ → Turn
decide_of j image seen base = carry_out j base (decision_of j.row.width (take j.size seen) (take j.size (drop base image)))

-- what follows an operation
abbrev pub afterwards : Job → List ℕ → Task → ℕ → ℕ → Turn
afterwards j image Erasing base i = fill_of j image base 0
afterwards j image Filling base i = fill_of j image base (i + 1)
afterwards j image Burning base i = look_of j base (i + 1)

-- a driver's step: its cycle, or what follows; an ending that is not 0 ends the job
unfoldable pub driven_of : Job → List ℕ → Task → ℕ → ℕ → Step → Turn
driven_of j image t base i s =
    elim s.next [
      | None ↦ pick (eqb s.answer 0) (afterwards j image t base i) (Stop s.answer)
      | Some (e, a) ↦ goes_on j t base i s.driver e a
    ]

-- ---- a step
-- a scan's reply is kept
abbrev pub seen_of : Stage → List ℕ → ℕ → ℕ → List ℕ
seen_of Scanning seen i reply = set seen i reply
seen_of Looking seen i reply = seen
seen_of (Driving t d) seen i reply = seen

-- the scan goes on to the sector's end, then decides
unfoldable pub scanned_of : Job → List ℕ → List ℕ → ℕ → ℕ → Turn
scanned_of j image seen base i = pick (ltb (i + 1) j.size) (reads_cell j Scanning base (i + 1)) (decide_of j image seen base)

abbrev pub stage_of : Job → List ℕ → List ℕ → Stage → ℕ → ℕ → ℕ → Turn
stage_of j image seen Scanning base i reply = scanned_of j image seen base i
stage_of j image seen Looking base i reply = burn_of j image base i reply
stage_of j image seen (Driving t d) base i reply = driven_of j image t base i (step_of d reply)

-- a loader within its job: its sector in the image, its cell in the sector
unfoldable pub in_job : Job → Loader → Bool
in_job j l = pick (leb (l.base + j.size) j.count) (ltb l.at j.size) false

-- the values seen and the turn after a reply; 5 for a loader that is not within its job
pub record Turned : Type 0 where
  pub seen : List ℕ
  pub turn : Turn

abbrev pub turned : List ℕ → Turn → Turned
turned seen t = record { seen = seen; turn = t }

unfoldable pub turn_of : Job → List ℕ → List ℕ → Loader → ℕ → Turned
turn_of j image seen l reply =
    pick (in_job j l)
    (turned (seen_of l.stage seen l.at reply) (stage_of j image (seen_of l.stage seen l.at reply) l.stage l.base l.at reply))
    (turned seen (Stop BAD-STATE))
