-- Demand 1. Bad input is refused by document 01's number, exactly then; a refused call hands back its state as it came and
-- changes no cell; all other numbers beside a refusal are 0. Of each exported function that refuses: what it answers is the
-- number that the named refusal gives, 0 for none. That every call ends, whatever its arguments, needs no theorem: each
-- function is proved to end for all arguments that its `requires` allows, and no exported function has one.
use Rattle.std.specs.Prelude.{ℕ, ◌≡◌, true, false, [], eqb, length, None}
use Rattle.parts.specs.Names.{BAD-STATE, BAD-FILE, WRONG-CELLS}
use Rattle.parts.specs.Pick.{◌when◌, ◌else◌, ◌unless◌, ◌or_else◌}
use Rattle.parts.specs.Table.{Found, no_line, row_from, part_refusal, row_of}
use Rattle.table.specs.Figures.{Figure, figure}
use Rattle.device.specs.Cycle.{Outcome, reply}
use Rattle.driver.specs.declared.machine.Started.{Started}
use Rattle.driver.specs.declared.machine.Driver.{Driver}
use Rattle.driver.specs.declared.machine.Step.{Step}
use Rattle.driver.specs.Writes.{no_write, Writes, writes, Kth, kth}
use Rattle.driver.specs.Machine.{no_driver, in_range, step}
use Rattle.bus.specs.Cycle.{Cycled}
use Rattle.job.specs.declared.bill.Bill.{Bill}
use Rattle.job.specs.Bill.{Loaded, Reported, refused_bill, refused_report}
use Rattle.jobfile.specs.declared.trailer.JobFile.{JobFile}
use Rattle.jobfile.specs.JobFile.{malformed, refused}
use Rattle.numbers.specs.declared.machine.DriverNumbers.{DriverNumbers}
use Rattle.numbers.specs.declared.machine.StartNumbers.{StartNumbers}
use Rattle.numbers.specs.declared.machine.StepNumbers.{StepNumbers}
use Rattle.numbers.specs.Machine.{driver_numbers, no_driver_state}
use Rattle.demands.specs.Calls.{BusCall, on_bus, bus_left, refused_cycle, StartCall, StartWritingCall, to_start, refused_start, StepCall, to_step, WritesCall, to_write, writes_told, refused_writes, KthCall, kth_told, StationAddressCall, StationDataCall, StationWriteCall, kth_asked, refused_kth, LoadCall, LoadFirstCall, to_load, to_load_first, load_left, load_first_left, refused_job, RowCall, row_asked, row_told, FigureCall, figure_told, StationFigureCall, StationFigureAnswerCall, figure_asked, refused_figure, FileCall, to_read, BillFileCall, to_bill, refused_file}
use Rattle.demands.specs.Controller.{StationStartCall, StationStepCall, numbers_to_step, numbers_in_range, StationBusCall, on_station, station_left, meant, no_device}
use Rattle.demands.specs.Controller.{StationLoadCall, StationLoadFirstCall, station_to_load, station_to_load_first, station_load_left, station_load_first_left}
use Rattle.demands.specs.Controller.{StationJobCall, station_to_read, StationBillCall, station_to_bill}

-- a call answers n, and where n is a refusal hands back what it should
pub record Refuses (A : Type 0) (answer n : ℕ) (back should : A) : Type 0 where
  pub exactly : answer ≡ n
  pub beside : (n ≡ 0 → ⊥) → back ≡ should

-- a driver's step answers 5 exactly for a state out of range, and then names no cycle and hands back the state as it came
pub record RefusesState (d : Driver) (back : Step) : Type 0 where
  pub only : back.answer ≡ BAD-STATE → in_range d ≡ false
  pub beside : in_range d ≡ false → back ≡ step BAD-STATE d None 0

-- so does a C controller's, for numbers that are no state in range, and hands back the numbers as they came
pub record RefusesNumbers (n : DriverNumbers) (back : StepNumbers) : Type 0 where
  pub only : back.answer ≡ BAD-STATE → numbers_in_range n ≡ false
  pub beside : numbers_in_range n ≡ false → back ≡ no_driver_state n

pub record Demand1 : Type 0 where
  -- A refused bus cycle answers its number, value 0 and the device as it came, and leaves the cells as they came.
  pub bus-cycle-refuses : (c : BusCall) → let g = on_bus c in let n = refused_cycle g in
      Refuses Outcome c.back.answer n (bus_left c) (record { cells = g.cells; reply = reply n 0 g.device })
  -- A refused start answers its number and hands back an all-zero state.
  pub start-refuses : (c : StartCall) → let n = refused_start (to_start c.given) in
      Refuses Started c.back.answer n c.back (record { answer = n; driver = no_driver })
  -- So does one that names the first write at once, and it names nothing.
  pub start-writing-refuses : (c : StartWritingCall) → let n = refused_start (to_start c.given) in
      Refuses Step c.back.answer n c.back (step n no_driver None 0)
  -- A step refuses with 5 only.
  pub step-refuses : (c : StepCall) → RefusesState (to_step c).driver c.back
  -- The state that a refused start hands back is answered with 5: no cycle is named, and the state handed back.
  pub refused-start-steps : (c : StartCall) → (refused_start (to_start c.given) ≡ 0 → ⊥)
      → (e : StepCall) → (to_step e).driver ≡ c.back.driver → e.back ≡ step BAD-STATE c.back.driver None 0
  pub refused-start-writing-steps : (c : StartWritingCall) → (refused_start (to_start c.given) ≡ 0 → ⊥)
      → (e : StepCall) → (to_step e).driver ≡ c.back.driver → e.back ≡ step BAD-STATE c.back.driver None 0
  -- A refused command's writes: its number, no write, and six places of zeros.
  pub writes-refuses : (c : WritesCall) → let n = refused_writes (to_write c) in
      Refuses Writes (writes_told c).answer n (writes_told c) (writes n 0 [])
  -- A refused k-th write: its number, and zeros for the write.
  pub kth-write-refuses : (c : KthCall) → let n = refused_kth (kth_asked c.given) in
      Refuses Kth (kth_told c).answer n (kth_told c) (kth n no_write)
  -- A refused job answers its number in a bill of zeros, and leaves the cells as they came.
  pub load-refuses : (c : LoadCall) → let j = to_load c in let n = refused_job j in
      Refuses Loaded c.back.answer n (load_left c) (record { cells = j.cells; bill = refused_bill n })
  -- A refused second call answers the same number in a report of zeros, and leaves the cells as they came.
  pub load-first-refuses : (c : LoadFirstCall) → let j = (to_load_first c).job in let n = refused_job j in
      Refuses Reported c.back.answer n (load_first_left c) (record { cells = j.cells; report = refused_report n })
  -- A refused part's row: its number, and a row of zeros.
  pub row-refuses : (c : RowCall) → let n = part_refusal (row_asked c).part in
      Refuses Found (row_told c).answer n (row_told c) (record { answer = n; row = row_from no_line })
  -- A refused figure: its number, and 0 for the figure.
  pub figure-refuses : (c : FigureCall) → let n = refused_figure (figure_asked c.given) in
      Refuses Figure (figure_told c).answer n (figure_told c) (figure n 0)
  -- A job file: 13 exactly for a malformed one, with zeros beside it.
  pub file-refuses : (c : FileCall) → let n = BAD-FILE when malformed (to_read c).file else 0 in
      Refuses JobFile c.back.answer n c.back refused
  -- A job file's bill: 13 exactly for a file that is too long or malformed, then the job's own refusals on a blank bench part.
  pub bill-file-refuses : (c : BillFileCall) → let n = refused_file (to_bill c) in
      Refuses Bill c.back.answer n c.back (refused_bill n)
  -- The C controller's functions: the answer is the number, and the number asked for is 0 beside a refusal.
  pub station-figure-refuses : (c : StationFigureCall) → (refused_figure (figure_asked c.given) ≡ 0 → ⊥) → c.back ≡ 0
  pub station-figure-answers : (c : StationFigureAnswerCall) → c.back ≡ refused_figure (figure_asked c.given)
  pub station-write-address-refuses : (c : StationAddressCall) → (refused_kth (kth_asked c.given) ≡ 0 → ⊥) → c.back ≡ 0
  pub station-write-data-refuses : (c : StationDataCall) → (refused_kth (kth_asked c.given) ≡ 0 → ⊥) → c.back ≡ 0
  pub station-write-answers : (c : StationWriteCall) → c.back ≡ refused_kth (kth_asked c.given)
  -- Its start and its step: a refused start hands back zeros; a step answers 5 exactly for numbers that are no state in range.
  pub station-start-refuses : (c : StationStartCall) → let n = refused_start (to_start c.given) in
      Refuses StartNumbers c.back.answer n c.back (record { answer = n; driver = driver_numbers no_driver })
  pub station-step-refuses : (c : StationStepCall) → RefusesNumbers (numbers_to_step c).driver c.back
  -- Its bus cycles: a refused one answers its number, value 0 and the device's numbers as they came, and leaves the cells as they came.
  pub station-cycle-refuses : (c : StationBusCall) → let g = on_station c in let n = refused_cycle (meant g) in
      Refuses Cycled (station_left c).reply.answer n (station_left c)
      (record { cells = g.cells; reply = record { answer = n; value = 0; device = g.device } })
  -- Numbers that are no device's are refused with 5, and 1 and 2 come first.
  pub station-no-device : (c : StationBusCall) → let g = meant (on_station c) in no_device (on_station c).device ≡ true
      → refused_cycle g ≡ (part_refusal g.part or_else WRONG-CELLS unless eqb (length g.cells) (row_of g.part).cells else BAD-STATE)
  -- Its job, the second call, the job file and the bill of one: as the library's.
  pub station-load-refuses : (c : StationLoadCall) → let j = station_to_load c in let n = refused_job j in
      Refuses Loaded c.back.answer n (station_load_left c) (record { cells = j.cells; bill = refused_bill n })
  pub station-load-first-refuses : (c : StationLoadFirstCall) → let j = (station_to_load_first c).job in let n = refused_job j in
      Refuses Reported c.back.answer n (station_load_first_left c) (record { cells = j.cells; report = refused_report n })
  pub station-job-refuses : (c : StationJobCall) → let n = BAD-FILE when malformed (station_to_read c).file else 0 in
      Refuses JobFile c.back.answer n c.back refused
  pub station-bill-refuses : (c : StationBillCall) → let n = refused_file (station_to_bill c) in
      Refuses Bill c.back.answer n c.back (refused_bill n)
