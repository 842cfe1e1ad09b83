-- The calls of the C controller, by name; and that each does what the library's does, on the states that its numbers mean. So
-- every sentence on the library's calls holds of the C controller's.
use Rattle.std.specs.Prelude.{ℕ, ◌≡◌, Bool, true, false, List, ltb, length}
use Rattle.parts.specs.Pick.{◌when◌, ◌else◌}
use Rattle.device.specs.declared.state.Device.{Device}
use Rattle.device.specs.declared.cycle.Action.TheVariants.{Read, Write, Idle, Cut}
use Rattle.device.specs.declared.cycle.Cycle.{Cycle}
use Rattle.device.specs.Device.{fresh_device}
use Rattle.device.specs.Cycle.{cycle}
use Rattle.driver.specs.declared.machine.Driver.{Driver}
use Rattle.driver.specs.Machine.{in_range}
use Rattle.bus.specs.declared.cycle.DeviceNumbers.{DeviceNumbers}
use Rattle.bus.specs.Cycle.{high, device_numbers, device_of, Cycled, cycled_numbers}
use Rattle.job.specs.declared.loading.Loading.{Loading}
use Rattle.job.specs.Bill.{Loaded, Reported}
use Rattle.job.specs.Loading.{loading_in_range}
use Rattle.numbers.specs.declared.machine.DriverNumbers.{DriverNumbers}
use Rattle.numbers.specs.declared.loading.LoadingNumbers.{LoadingNumbers}
use Rattle.numbers.specs.Loading.{loading_numbers, loading_of, begin_numbers, TurnedNumbers, turned_numbers}
use Rattle.numbers.specs.Machine.{driver_numbers, driver_of, start_numbers, step_numbers}
use Rattle.alone.proofs.station_load_alone.Kinds as alone-kinds
use Rattle.alone.proofs.station_load_alone.Reads as alone-reads
use Rattle.station.proofs.station_start.Kinds as start-kinds
use Rattle.station.proofs.station_start.Reads as start-reads
use Rattle.station.proofs.station_step.Kinds as step-kinds
use Rattle.station.proofs.station_step.Reads as step-reads
use Rattle.station.proofs.station_fresh.Kinds as fresh-kinds
use Rattle.station.proofs.station_fresh.Reads as fresh-reads
use Rattle.station.proofs.station_read.Kinds as read-kinds
use Rattle.station.proofs.station_read.Reads as read-reads
use Rattle.station.proofs.station_write.Kinds as write-kinds
use Rattle.station.proofs.station_write.Reads as write-reads
use Rattle.station.proofs.station_idle.Kinds as idle-kinds
use Rattle.station.proofs.station_idle.Reads as idle-reads
use Rattle.station.proofs.station_cut.Kinds as cut-kinds
use Rattle.station.proofs.station_cut.Reads as cut-reads
use Rattle.station.proofs.station_load.Kinds as load-kinds
use Rattle.station.proofs.station_load.Reads as load-reads
use Rattle.station.proofs.station_load_first.Kinds as first-kinds
use Rattle.station.proofs.station_load_first.Reads as first_reads
use Rattle.station.proofs.station_begin.Kinds as begin-kinds
use Rattle.station.proofs.station_begin.Reads as begin-reads
use Rattle.station.proofs.station_turn.Kinds as turn-kinds
use Rattle.station.proofs.station_turn.Reads as turn-reads
use Rattle.station.proofs.station_job.Kinds as job-kinds
use Rattle.station.proofs.station_job.Reads as job-reads
use Rattle.station.proofs.station_image.Kinds as image-kinds
use Rattle.station.proofs.station_image.Reads as image-reads
use Rattle.station.proofs.station_bill.Kinds as bill-kinds
use Rattle.station.proofs.station_bill.Reads as bill-reads
use Rattle.demands.specs.Calls.{Call, BusCall, OnBus, on_bus, bus_left, StartCall, to_start, StepCall, to_step}
use Rattle.demands.specs.Calls.{LoadCall, LoadFirstCall, ToLoad, to_load, ToLoadFirst, to_load_first, load_left, load_first_left}
use Rattle.demands.specs.Calls.{BeginCall, ToBegin, to_begin, TurnCall, ToTurn, to_turn, turn_left}
use Rattle.demands.specs.Calls.{FileCall, ToRead, to_read, ImageCall, ToReadImage, to_read_image, image_left, BillFileCall, to_bill}

-- ---- station_start(part, command, address, data, p)
abbrev pub StationStartCall : Type 0
StationStartCall = Call 0 start-kinds.ps start-kinds.r start-reads.Post

-- ---- station_step(state, read)
abbrev pub StationStepCall : Type 0
StationStepCall = Call 0 step-kinds.ps step-kinds.r step-reads.Post

pub record NumbersToStep : Type 0 where
  pub driver : DriverNumbers
  pub read : ℕ

abbrev pub numbers_to_step : StationStepCall → NumbersToStep
numbers_to_step c = record { driver = c.given.0; read = c.given.1.0 }

-- numbers of a driver's state in range: a phase above 5 is none
abbrev pub numbers_in_range : DriverNumbers → Bool
numbers_in_range n = false when ltb 5 n.phase else in_range (driver_of n)

-- ---- station_fresh()
abbrev pub StationFreshCall : Type 0
StationFreshCall = Call 0 fresh-kinds.ps fresh-kinds.r fresh-reads.Post

-- ---- station_read(part, cells, device, elapsed, wp, address), station_write(.., address, data), station_idle(..), station_cut(.., scar)
pub data StationBusCall : Type 0 where
  by_read : Call 1 read-kinds.ps read-kinds.r read-reads.Post → StationBusCall
  by_write : Call 1 write-kinds.ps write-kinds.r write-reads.Post → StationBusCall
  by_idle : Call 1 idle-kinds.ps idle-kinds.r idle-reads.Post → StationBusCall
  by_cut : Call 1 cut-kinds.ps cut-kinds.r cut-reads.Post → StationBusCall

pub record OnStation : Type 0 where
  pub part : ℕ
  pub cells : List ℕ
  pub device : DeviceNumbers
  pub cycle : Cycle

abbrev pub on_station : StationBusCall → OnStation
on_station (by_read c) =
    let a = c.given in let t = a.1.1.1 in
    record { part = a.0; cells = a.1.0.now; device = a.1.1.0; cycle = cycle t.0 (high t.1.0) (Read t.1.1.0) }
on_station (by_write c) =
    let a = c.given in let t = a.1.1.1 in
    record { part = a.0; cells = a.1.0.now; device = a.1.1.0; cycle = cycle t.0 (high t.1.0) (Write t.1.1.0 t.1.1.1.0) }
on_station (by_idle c) =
    let a = c.given in let t = a.1.1.1 in
    record { part = a.0; cells = a.1.0.now; device = a.1.1.0; cycle = cycle t.0 (high t.1.0) Idle }
on_station (by_cut c) =
    let a = c.given in let t = a.1.1.1 in
    record { part = a.0; cells = a.1.0.now; device = a.1.1.0; cycle = cycle t.0 (high t.1.0) (Cut t.1.1.0) }

-- numbers that are no device's: a mode, a recent completion, a turned bit 2 or a toggle above 1
abbrev pub no_device : DeviceNumbers → Bool
no_device n =
    true when ltb 1 n.mode
    else true when ltb 1 n.recent
    else true when ltb 1 n.turned
    else true when ltb 1 n.running.toggle
    else ltb 1 n.suspended.toggle

-- the reply, and the lent cells as the call left them
abbrev pub station_left : StationBusCall → Cycled
station_left (by_read c) = record { cells = c.ends.1.0.now; reply = c.back }
station_left (by_write c) = record { cells = c.ends.1.0.now; reply = c.back }
station_left (by_idle c) = record { cells = c.ends.1.0.now; reply = c.back }
station_left (by_cut c) = record { cells = c.ends.1.0.now; reply = c.back }

-- the cycle on the device that the numbers mean
abbrev pub meant : OnStation → OnBus
meant g = record { part = g.part; cells = g.cells; device = device_of g.device; cycle = g.cycle }

-- ---- station_load(part, cells, first, image, wp, p), station_load_alone of the same; and station_load_first(part, cells, first, image, wp, p, k)
abbrev pub StationLoadCall : Type 0
StationLoadCall = Call 2 load-kinds.ps load-kinds.r load-reads.Post

abbrev pub StationLoadAloneCall : Type 0
StationLoadAloneCall = Call 2 alone-kinds.ps alone-kinds.r alone-reads.Post

abbrev pub StationLoadFirstCall : Type 0
StationLoadFirstCall = Call 2 first-kinds.ps first-kinds.r first_reads.Post

abbrev pub station_to_load : StationLoadCall → ToLoad
station_to_load c =
    let a = c.given in let t = a.1.1.1.1 in
    record { part = a.0; cells = a.1.0.now; first = a.1.1.0; image = a.1.1.1.0.now; wp = high t.0; p = t.1.0 }

abbrev pub station_to_load_first : StationLoadFirstCall → ToLoadFirst
station_to_load_first c =
    let a = c.given in let t = a.1.1.1.1 in
    record {
      job = record { part = a.0; cells = a.1.0.now; first = a.1.1.0; image = a.1.1.1.0.now; wp = high t.0; p = t.1.0 };
      k = t.1.1.0;
    }

abbrev pub station_load_left : StationLoadCall → Loaded
station_load_left c = record { cells = c.ends.1.0.now; bill = c.back }

abbrev pub station_load_first_left : StationLoadFirstCall → Reported
station_load_first_left c = record { cells = c.ends.1.0.now; report = c.back }

-- ---- station_begin(part, first, image, wp, p), and station_turn(loading, image, seen, read)
abbrev pub StationBeginCall : Type 0
StationBeginCall = Call 1 begin-kinds.ps begin-kinds.r begin-reads.Post

abbrev pub station_to_begin : StationBeginCall → ToBegin
station_to_begin c =
    let a = c.given in
    record { part = a.0; first = a.1.0; image = a.1.1.0.now; wp = high a.1.1.1.0; p = a.1.1.1.1.0 }

abbrev pub StationTurnCall : Type 0
StationTurnCall = Call 2 turn-kinds.ps turn-kinds.r turn-reads.Post

pub record NumbersToTurn : Type 0 where
  pub loading : LoadingNumbers
  pub image : List ℕ
  pub seen : List ℕ
  pub read : ℕ

abbrev pub numbers_to_turn : StationTurnCall → NumbersToTurn
numbers_to_turn c = let a = c.given in record { loading = a.0; image = a.1.0.now; seen = a.1.1.0.now; read = a.1.1.1.0 }

-- the kept readings as the call left them, and what it handed back
abbrev pub station_turn_left : StationTurnCall → TurnedNumbers
station_turn_left c = record { seen = c.ends.1.1.0.now; turn = c.back }

-- the turn of the job that the numbers mean
abbrev pub turn_meant : NumbersToTurn → ToTurn
turn_meant g = record { loading = loading_of g.loading; image = g.image; seen = g.seen; read = g.read }

-- numbers of a job's state in range: farther than 6, or a driver's phase above 5, is none
abbrev pub loading_numbers_in_range : LoadingNumbers → List ℕ → Bool
loading_numbers_in_range n image =
    false when ltb 6 n.progress
    else false when ltb 5 n.driver.phase
    else loading_in_range (loading_of n) image

-- ---- station_job(file), station_image(file, start, image), station_bill(file)
abbrev pub StationJobCall : Type 0
StationJobCall = Call 1 job-kinds.ps job-kinds.r job-reads.Post

abbrev pub StationImageCall : Type 0
StationImageCall = Call 2 image-kinds.ps image-kinds.r image-reads.Post

abbrev pub StationBillCall : Type 0
StationBillCall = Call 1 bill-kinds.ps bill-kinds.r bill-reads.Post

abbrev pub station_to_read : StationJobCall → ToRead
station_to_read c = record { file = c.given.0.now }

abbrev pub station_to_read_image : StationImageCall → ToReadImage
station_to_read_image c = let a = c.given in record { file = a.0.now; start = a.1.0; room = length a.1.1.0.now }

abbrev pub station_to_bill : StationBillCall → ToRead
station_to_bill c = record { file = c.given.0.now }

-- ---- where a call of the C controller and one of the library are asked the same, both hand back the same
pub record Controller : Type 0 where
  pub start-same : (c : StationStartCall) (l : StartCall) → to_start c.given ≡ to_start l.given → c.back ≡ start_numbers l.back
  -- A step of numbers that have a phase is that of the driver that they mean.
  pub step_same : (c : StationStepCall) (l : StepCall) → let g = numbers_to_step c in ltb 5 g.driver.phase ≡ false
      → record { driver = driver_of g.driver; read = g.read } ≡ to_step l → c.back ≡ step_numbers l.back
  -- A fresh device's numbers mean it.
  pub fresh-meant : (c : StationFreshCall) → device_of c.back ≡ fresh_device
  -- A bus cycle is that of the device that the numbers mean.
  pub cycle-same : (c : StationBusCall) (l : BusCall) → meant (on_station c) ≡ on_bus l
      → station_left c ≡ cycled_numbers (on_station c).device (bus_left l)
  pub load_same : (c : StationLoadCall) (l : LoadCall) → station_to_load c ≡ to_load l → station_load_left c ≡ load_left l
  -- A call of the job alone is one of station_load.
  pub load-alone-same : (c : StationLoadAloneCall) (l : LoadCall) → station_to_load c ≡ to_load l → station_load_left c ≡ load_left l
  pub load-first-same : (c : StationLoadFirstCall) (l : LoadFirstCall) → station_to_load_first c ≡ to_load_first l
      → station_load_first_left c ≡ load_first_left l
  pub begin-same : (c : StationBeginCall) (l : BeginCall) → station_to_begin c ≡ to_begin l → c.back ≡ begin_numbers l.back
  -- A turn of numbers that are a state's is that of the job that they mean.
  pub turn-same : (c : StationTurnCall) (l : TurnCall) → let g = numbers_to_turn c in ltb 6 g.loading.progress ≡ false → ltb 5 g.loading.driver.phase ≡ false
      → turn_meant g ≡ to_turn l → station_turn_left c ≡ turned_numbers g.loading (turn_left l)
  pub job-same : (c : StationJobCall) (l : FileCall) → station_to_read c ≡ to_read l → c.back ≡ l.back
  pub image-same : (c : StationImageCall) (l : ImageCall) → station_to_read_image c ≡ to_read_image l
      → c.ends.1.1.0.now ≡ image_left l
  pub bill-same : (c : StationBillCall) (l : BillFileCall) → station_to_bill c ≡ to_bill l → c.back ≡ l.back
  -- Every state of the library has numbers that mean it: those of a driver, of a job and of a device mean it again.
  pub driver-returns : (d : Driver) → driver_of (driver_numbers d) ≡ d
  pub loading-returns : (g : Loading) → loading_of (loading_numbers g) ≡ g
  pub device-returns : (d : Device) → device_of (device_numbers d) ≡ d
