-- The calls that the customer's theorems speak of: for each function, what it is given and what it hands back, by name. The
-- hypothesis of every theorem is such a call: the function's promise, as it is made from the source, of its arguments and
-- of what it handed back.
use Rattle.std.specs.Prelude.{ℕ, ◌≡◌, Bool, false, List, length, ltb}
use contract.Lifetimes.{Lfts}
use borrow.Fn.Kinds.{ParamKind, ResultKind, Out, Dens, ended_of, res_t}
use denote.Triple.Clauses.{AtExit}
use Rattle.parts.specs.Names.{BAD-FILE}
use Rattle.parts.specs.Pick.{◌when◌, ◌else◌}
use Rattle.parts.specs.Table.{Found, told_row}
use Rattle.table.specs.Figures.{Figure, figure_refusal, told_figure}
use Rattle.table.proofs.part_row.Kinds as row-kinds
use Rattle.table.proofs.part_row.Reads as row_reads
use Rattle.table.proofs.part_figure.Kinds as figure-kinds
use Rattle.table.proofs.part_figure.Reads as figure-reads
use Rattle.device.specs.declared.state.Device.{Device}
use Rattle.device.specs.declared.cycle.Cycle.{Cycle}
use Rattle.device.specs.Cycle.{Outcome, cycle_refusal}
use Rattle.chip.proofs.bus_cycle.Kinds as bus-kinds
use Rattle.chip.proofs.bus_cycle.Reads as bus-reads
use Rattle.driver.specs.declared.machine.Driver.{Driver}
use Rattle.driver.specs.Refusals.{command_refusal, start_refusal}
use Rattle.driver.specs.Writes.{Writes, Kth, kth_refusal, told_writes, told_write}
use Rattle.driver.specs.Talk.{Stepping, InTypes}
use Rattle.driver.proofs.start.Kinds as start-kinds
use Rattle.driver.proofs.start.Reads as start-reads
use Rattle.driver.proofs.start_writing.Kinds as start-writing-kinds
use Rattle.driver.proofs.start_writing.Reads as start-writing-reads
use Rattle.driver.proofs.machine.Driver.step.Kinds as step-kinds
use Rattle.driver.proofs.machine.Driver.step.Reads as step-reads
use Rattle.driver.proofs.command_writes.Kinds as writes-kinds
use Rattle.driver.proofs.command_writes.Reads as writes_reads
use Rattle.driver.proofs.kth_write.Kinds as kth-kinds
use Rattle.driver.proofs.kth_write.Reads as kth-reads
use Rattle.job.specs.declared.loading.Progress.TheVariants.{Waiting}
use Rattle.job.specs.declared.loading.Loading.{Loading}
use Rattle.request.specs.Refusal.{job_refusal, begin_refusal}
use Rattle.job.specs.Bill.{Loaded, Reported}
use Rattle.job.specs.Loading.{loading, LoadTurned, load_turned}
use Rattle.job.proofs.load.Kinds as load-kinds
use Rattle.job.proofs.load.Reads as load-reads
use Rattle.job.proofs.load_first.Kinds as first-kinds
use Rattle.job.proofs.load_first.Reads as first_reads
use Rattle.job.proofs.begin_load.Kinds as begin-kinds
use Rattle.job.proofs.begin_load.Reads as begin-reads
use Rattle.job.proofs.loading.Loading.turn.Kinds as turn-kinds
use Rattle.job.proofs.loading.Loading.turn.Reads as turn-reads
use Rattle.jobfile.specs.JobFile.{malformed, job_of, values_of}
use Rattle.jobfile.proofs.read_job.Kinds as file-kinds
use Rattle.jobfile.proofs.read_job.Reads as file-reads
use Rattle.jobfile.proofs.read_image.Kinds as image-kinds
use Rattle.jobfile.proofs.read_image.Reads as image-reads
use Rattle.billing.specs.File.{blank_bench}
use Rattle.billing.proofs.bill_file.Kinds as bill-file-kinds
use Rattle.billing.proofs.bill_file.Reads as bill-file-reads
use Rattle.station.proofs.station_figure.Kinds as c-figure-kinds
use Rattle.station.proofs.station_figure.Reads as c-figure-reads
use Rattle.station.proofs.station_figure_answer.Kinds as c-answer-kinds
use Rattle.station.proofs.station_figure_answer.Reads as c-answer-reads
use Rattle.station.proofs.station_write_address.Kinds as c-address-kinds
use Rattle.station.proofs.station_write_address.Reads as c-address-reads
use Rattle.station.proofs.station_write_data.Kinds as c-data-kinds
use Rattle.station.proofs.station_write_data.Reads as c-data-reads
use Rattle.station.proofs.station_write_answer.Kinds as c-write-kinds
use Rattle.station.proofs.station_write_answer.Reads as c-write-reads

-- a call: the arguments, what was handed back, what the lent slices hold at the end, and the promise of these
pub record Call (n : ℕ) (ps : List (ParamKind n)) (r : ResultKind n) (Post : Out n ps r) : Type 0 where
  pub lifetimes : Lfts n
  pub given : Dens lifetimes ps
  pub back : (res_t r lifetimes).Denot
  pub ends : AtExit (ended_of n ps r) lifetimes
  pub promise : Post lifetimes given back ends

-- ---- bus_cycle(part, cells, device, cycle)
abbrev pub BusCall : Type 0
BusCall = Call 1 bus-kinds.ps bus-kinds.r bus-reads.Post

pub record OnBus : Type 0 where
  pub part : ℕ
  pub cells : List ℕ
  pub device : Device
  pub cycle : Cycle

abbrev pub on_bus : BusCall → OnBus
on_bus c =
    let a = c.given in
    record { part = a.0; cells = a.1.0.now; device = a.1.1.0; cycle = a.1.1.1.0 }

-- the reply, and the lent cells as the call left them
abbrev pub bus_left : BusCall → Outcome
bus_left c = record { cells = c.ends.1.0.now; reply = c.back }

-- its refusal, 0 for none: 1, 2, 5, 3 (read or write), 4 (write)
abbrev pub refused_cycle : OnBus → ℕ
refused_cycle g = cycle_refusal g.part (length g.cells) g.device g.cycle.action

-- ---- start(part, command, address, data, p); and start_writing of the same, which names the first write at once
abbrev pub StartCall : Type 0
StartCall = Call 0 start-kinds.ps start-kinds.r start-reads.Post

abbrev pub StartWritingCall : Type 0
StartWritingCall = Call 0 start-writing-kinds.ps start-writing-kinds.r start-writing-reads.Post

pub record ToStart : Type 0 where
  pub part : ℕ
  pub command : ℕ
  pub address : ℕ
  pub word : ℕ
  pub p : ℕ

abbrev pub to_start : {A : Type 0} → ℕ × (ℕ × (ℕ × (ℕ × (ℕ × A)))) → ToStart
to_start a = record { part = a.0; command = a.1.0; address = a.1.1.0; word = a.1.1.1.0; p = a.1.1.1.1.0 }

-- its refusal: 1, 10, 14, 3, 4
abbrev pub refused_start : ToStart → ℕ
refused_start g = start_refusal g.part g.command g.address g.word g.p

-- ---- the step of a driver's state, given the value last read
abbrev pub StepCall : Type 0
StepCall = Call 0 step-kinds.ps step-kinds.r step-reads.Post

pub record ToStep : Type 0 where
  pub driver : Driver
  pub read : ℕ

abbrev pub to_step : StepCall → ToStep
to_step c = record { driver = c.given.0; read = c.given.1.0 }

-- a function that steps as promised: for each state and value that their types hold there is a call that was given them and
-- handed back what the function gives
pub record AsPromised (steps : Stepping) : Type 0 where
  pub call : (d : Driver) (v : ℕ) → InTypes d v → StepCall
  pub gave : (d : Driver) (v : ℕ) (t : InTypes d v) → to_step (call d v t) ≡ record { driver = d; read = v }
  pub handed : (d : Driver) (v : ℕ) (t : InTypes d v) → (call d v t).back ≡ steps d v

-- ---- command_writes(part, command, address, data)
abbrev pub WritesCall : Type 0
WritesCall = Call 0 writes-kinds.ps writes-kinds.r writes_reads.Post

pub record ToWrite : Type 0 where
  pub part : ℕ
  pub command : ℕ
  pub address : ℕ
  pub word : ℕ

abbrev pub to_write : WritesCall → ToWrite
to_write c = let a = c.given in record { part = a.0; command = a.1.0; address = a.1.1.0; word = a.1.1.1.0 }

-- what it tells: 0 or the refusal, how many they are, and the writes
abbrev pub writes_told : WritesCall → Writes
writes_told c = told_writes c.back

-- its refusal: 1, 14, 3, 4
abbrev pub refused_writes : ToWrite → ℕ
refused_writes g = command_refusal g.part g.command g.address g.word

-- ---- kth_write(part, command, address, data, k); and the C controller's station_write_address, _data and _answer of the same
abbrev pub KthCall : Type 0
KthCall = Call 0 kth-kinds.ps kth-kinds.r kth-reads.Post

abbrev pub StationAddressCall : Type 0
StationAddressCall = Call 0 c-address-kinds.ps c-address-kinds.r c-address-reads.Post

abbrev pub StationDataCall : Type 0
StationDataCall = Call 0 c-data-kinds.ps c-data-kinds.r c-data-reads.Post

abbrev pub StationWriteCall : Type 0
StationWriteCall = Call 0 c-write-kinds.ps c-write-kinds.r c-write-reads.Post

pub record KthAsked : Type 0 where
  pub part : ℕ
  pub command : ℕ
  pub address : ℕ
  pub word : ℕ
  pub k : ℕ

abbrev pub kth_asked : {A : Type 0} → ℕ × (ℕ × (ℕ × (ℕ × (ℕ × A)))) → KthAsked
kth_asked a = record { part = a.0; command = a.1.0; address = a.1.1.0; word = a.1.1.1.0; k = a.1.1.1.1.0 }

-- what it tells: 0 or the refusal, and the write
abbrev pub kth_told : KthCall → Kth
kth_told c = told_write c.back

-- its refusal: 1, 14, 3, 4, 15
abbrev pub refused_kth : KthAsked → ℕ
refused_kth g = kth_refusal g.part g.command g.address g.word g.k

-- ---- load(part, cells, first, image, wp, p), the job; and load_first(part, cells, first, image, wp, p, k), the second call
abbrev pub LoadCall : Type 0
LoadCall = Call 2 load-kinds.ps load-kinds.r load-reads.Post

abbrev pub LoadFirstCall : Type 0
LoadFirstCall = Call 2 first-kinds.ps first-kinds.r first_reads.Post

pub record ToLoad : Type 0 where
  pub part : ℕ
  pub cells : List ℕ
  pub first : ℕ
  pub image : List ℕ
  pub wp : Bool
  pub p : ℕ

abbrev pub to_load : LoadCall → ToLoad
to_load c =
    let a = c.given in
    record {
      part = a.0;
      cells = a.1.0.now;
      first = a.1.1.0;
      image = a.1.1.1.0.now;
      wp = a.1.1.1.1.0;
      p = a.1.1.1.1.1.0;
    }

pub record ToLoadFirst : Type 0 where
  pub job : ToLoad
  pub k : ℕ

abbrev pub to_load_first : LoadFirstCall → ToLoadFirst
to_load_first c =
    let a = c.given in
    record {
      job =
          record {
            part = a.0;
            cells = a.1.0.now;
            first = a.1.1.0;
            image = a.1.1.1.0.now;
            wp = a.1.1.1.1.0;
            p = a.1.1.1.1.1.0;
          };
      k = a.1.1.1.1.1.1.0;
    }

-- the bill, or the report, and the lent cells as the call left them
abbrev pub load_left : LoadCall → Loaded
load_left c = record { cells = c.ends.1.0.now; bill = c.back }

abbrev pub load_first_left : LoadFirstCall → Reported
load_first_left c = record { cells = c.ends.1.0.now; report = c.back }

-- the refusal of both: 1, 2, 10, 6, 7, 8, 9
abbrev pub refused_job : ToLoad → ℕ
refused_job j = job_refusal j.part (length j.cells) j.first j.image j.wp j.p

-- ---- begin_load(part, first, image, wp, p)
abbrev pub BeginCall : Type 0
BeginCall = Call 1 begin-kinds.ps begin-kinds.r begin-reads.Post

pub record ToBegin : Type 0 where
  pub part : ℕ
  pub first : ℕ
  pub image : List ℕ
  pub wp : Bool
  pub p : ℕ

abbrev pub to_begin : BeginCall → ToBegin
to_begin c =
    let a = c.given in
    record { part = a.0; first = a.1.0; image = a.1.1.0.now; wp = a.1.1.1.0; p = a.1.1.1.1.0 }

-- its refusal: 1, 10, 6, 7, 8, 9
abbrev pub refused_begin : ToBegin → ℕ
refused_begin g = begin_refusal g.part g.first g.image g.wp g.p

-- no job: the all-zero state
abbrev pub zero_loading : Loading
zero_loading = loading 0 0 0 false 0 Waiting

-- ---- turn(loading, image, seen, read)
abbrev pub TurnCall : Type 0
TurnCall = Call 2 turn-kinds.ps turn-kinds.r turn-reads.Post

pub record ToTurn : Type 0 where
  pub loading : Loading
  pub image : List ℕ
  pub seen : List ℕ
  pub read : ℕ

abbrev pub to_turn : TurnCall → ToTurn
to_turn c = let a = c.given in record { loading = a.0; image = a.1.0.now; seen = a.1.1.0.now; read = a.1.1.1.0 }

-- the kept readings as the call left them, and what it handed back
abbrev pub turn_left : TurnCall → LoadTurned
turn_left c = load_turned c.ends.1.1.0.now c.back

-- ---- part_row(part)
abbrev pub RowCall : Type 0
RowCall = Call 0 row-kinds.ps row-kinds.r row_reads.Post

pub record RowAsked : Type 0 where
  pub part : ℕ

abbrev pub row_asked : RowCall → RowAsked
row_asked c = record { part = c.given.0 }

-- what it tells: 0 or the refusal, and the row
abbrev pub row_told : RowCall → Found
row_told c = told_row c.back

-- ---- part_figure(part, column); and the C controller's station_figure and station_figure_answer of the same
abbrev pub FigureCall : Type 0
FigureCall = Call 0 figure-kinds.ps figure-kinds.r figure-reads.Post

abbrev pub StationFigureCall : Type 0
StationFigureCall = Call 0 c-figure-kinds.ps c-figure-kinds.r c-figure-reads.Post

abbrev pub StationFigureAnswerCall : Type 0
StationFigureAnswerCall = Call 0 c-answer-kinds.ps c-answer-kinds.r c-answer-reads.Post

pub record FigureAsked : Type 0 where
  pub part : ℕ
  pub column : ℕ

abbrev pub figure_asked : {A : Type 0} → ℕ × (ℕ × A) → FigureAsked
figure_asked a = record { part = a.0; column = a.1.0 }

-- what it tells: 0 or the refusal, and the number
abbrev pub figure_told : FigureCall → Figure
figure_told c = told_figure c.back

-- its refusal: 1, 15
abbrev pub refused_figure : FigureAsked → ℕ
refused_figure g = figure_refusal g.part g.column

-- ---- read_job(file)
abbrev pub FileCall : Type 0
FileCall = Call 1 file-kinds.ps file-kinds.r file-reads.Post

pub record ToRead : Type 0 where
  pub file : List ℕ

abbrev pub to_read : FileCall → ToRead
to_read c = record { file = c.given.0.now }

-- ---- read_image(file, start, image)
abbrev pub ImageCall : Type 0
ImageCall = Call 2 image-kinds.ps image-kinds.r image-reads.Post

pub record ToReadImage : Type 0 where
  pub file : List ℕ
  pub start : ℕ
  -- how many values are lent
  pub room : ℕ

abbrev pub to_read_image : ImageCall → ToReadImage
to_read_image c =
    let a = c.given in
    record { file = a.0.now; start = a.1.0; room = length a.1.1.0.now }

-- the lent image as the call left it
abbrev pub image_left : ImageCall → List ℕ
image_left c = c.ends.1.1.0.now

-- ---- bill_file(file)
abbrev pub BillFileCall : Type 0
BillFileCall = Call 1 bill-file-kinds.ps bill-file-kinds.r bill-file-reads.Post

abbrev pub to_bill : BillFileCall → ToRead
to_bill c = record { file = c.given.0.now }

-- the job that a file asks for, on a blank bench part
abbrev pub job_asked : ToRead → ToLoad
job_asked g =
    let j = job_of g.file in
    record {
      part = j.part;
      cells = blank_bench;
      first = j.first;
      image = values_of g.file j.start j.count;
      wp = j.wp;
      p = j.p;
    }

-- its refusal: 13 for a file of more than 20,480 bytes, or malformed; then the job's own
abbrev pub refused_file : ToRead → ℕ
refused_file g =
    BAD-FILE when ltb 20480 (length g.file)
    else BAD-FILE when malformed g.file
    else refused_job (job_asked g)
