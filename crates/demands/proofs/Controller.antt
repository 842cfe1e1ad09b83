-- The C controller's calls do what the library's do. What is proved stands in specs/Controller.antt.
use Prim.Native.Nat.{ℕ}
use mathlib.Core.Path.{◌≡◌, sym, ap, ap₂, ◌∙◌}
use mathlib.Core.Bool.{false}
use mathlib.Core.List.{List}
use lib.Dec.{ltb}
use Rattle.device.specs.Device.{fresh_device}
use Rattle.device.specs.Cycle.{Outcome, cycle_of}
use Rattle.driver.specs.Machine.{start_of, step_of}
use Rattle.bus.specs.Cycle.{device_of, cycled_numbers}
use Rattle.bus.proofs.Back.{device-back}
use Rattle.job.specs.declared.loading.Begun.{Begun}
use Rattle.job.specs.declared.loading.LoadTurn.{LoadTurn}
use Rattle.job.specs.Loading.{begin_load, LoadTurned, load_turned, load_turn_of}
use Rattle.job.specs.Bill.{Loaded, Reported, load_of, report_of}
use Rattle.jobfile.specs.JobFile.{job_of, values_of}
use Rattle.billing.specs.File.{bill_of_file}
use Rattle.numbers.specs.Machine.{start_numbers, step_numbers, stepped_of}
use Rattle.numbers.specs.Loading.{begin_numbers, turned_numbers, turned_of}
use Rattle.numbers.proofs.Back.{driver-back, loading-back}
use Rattle.demands.specs.Calls.{BusCall, OnBus, on_bus, bus_left, ToStart, ToStep, LoadCall, LoadFirstCall, ToLoad, to_load, ToLoadFirst, to_load_first, load_left, load_first_left, ToRead, ToReadImage}
use Rattle.demands.specs.Controller.{StationBusCall, by_read, by_write, by_idle, by_cut, on_station, station_left, meant, Controller}
use Rattle.demands.specs.Calls.{ToBegin, TurnCall, ToTurn, to_turn, turn_left}
use Rattle.demands.specs.Controller.{StationTurnCall, NumbersToTurn, numbers_to_turn, station_turn_left, turn_meant}
use Rattle.demands.specs.Controller.{StationLoadCall, StationLoadFirstCall, station_to_load, station_to_load_first, station_load_left, station_load_first_left}

-- ---- what is left, by what is asked
abbrev pub cycle_asked : OnBus → Outcome
cycle_asked g = cycle_of g.part g.cells g.device g.cycle

abbrev pub load_asked : ToLoad → Loaded
load_asked j = load_of j.part j.cells j.first j.image j.wp j.p

abbrev pub load_first_asked : ToLoadFirst → Reported
load_first_asked g = let j = g.job in report_of j.part j.cells j.first j.image j.wp j.p g.k

bus-left : (l : BusCall) → bus_left l ≡ cycle_asked (on_bus l)
bus-left l = rw (l.promise.0, l.promise.1)

pub station-left : (c : StationBusCall) → station_left c ≡ cycled_numbers (on_station c).device (cycle_asked (meant (on_station c)))
station-left (by_read c) = rw (c.promise.0, c.promise.1)
station-left (by_write c) = rw (c.promise.0, c.promise.1)
station-left (by_idle c) = rw (c.promise.0, c.promise.1)
station-left (by_cut c) = rw (c.promise.0, c.promise.1)

pub station-load-left : (c : StationLoadCall) → station_load_left c ≡ load_asked (station_to_load c)
station-load-left c = rw (c.promise.0, c.promise.1)

pub station-load-first-left : (c : StationLoadFirstCall) → station_load_first_left c ≡ load_first_asked (station_to_load_first c)
station-load-first-left c = rw (c.promise.0, c.promise.1)

abbrev begin_asked : ToBegin → Begun
begin_asked g = begin_load g.part g.first g.image g.wp g.p

abbrev pub turn_asked : ToTurn → LoadTurned
turn_asked g = load_turn_of g.loading g.image g.seen g.read

-- what a turn hands back is the definition's
pub turn-left : (l : TurnCall) → turn_left l ≡ turn_asked (to_turn l)
turn-left l = ap₂ {A = List ℕ} {B = LoadTurn} {C = LoadTurned} load_turned l.promise.1 l.promise.0

pub station-turn-left : (c : StationTurnCall) → let g = numbers_to_turn c in station_turn_left c ≡ turned_of g.loading g.image g.seen g.read
station-turn-left c = rw (c.promise.0, c.promise.1)

-- numbers of a state are turned on as the job that they mean
turn-meant : (g : NumbersToTurn) → ltb 6 g.loading.progress ≡ false → ltb 5 g.loading.driver.phase ≡ false
    → turned_of g.loading g.image g.seen g.read ≡ turned_numbers g.loading (turn_asked (turn_meant g))
unfolding turned_of
turn-meant g far phase = rw (far, phase)

load-left : (l : LoadCall) → load_left l ≡ load_asked (to_load l)
load-left l = rw (l.promise.0, l.promise.1)

load-first-left : (l : LoadFirstCall) → load_first_left l ≡ load_first_asked (to_load_first l)
load-first-left l = rw (l.promise.0, l.promise.1)

-- ---- together
pub controller : Controller
unfolding stepped_of
controller =
    record {
      start-same = λ c l e.
          c.promise ∙ (ap (λ (g : ToStart). start_numbers (start_of g.part g.command g.address g.word g.p)) e ∙ sym (ap start_numbers l.promise));
      step_same = λ c l b e. c.promise ∙ rw b (ap (λ (g : ToStep). step_numbers (step_of g.driver g.read)) e ∙ sym (ap step_numbers l.promise));
      fresh-meant = λ c. ap device_of c.promise ∙ device-back fresh_device;
      cycle-same = λ c l e. let n = (on_station c).device in
          station-left c ∙ (ap (λ (g : OnBus). cycled_numbers n (cycle_asked g)) e ∙ sym (ap (cycled_numbers n) (bus-left l)));
      load_same = λ c l e. station-load-left c ∙ (ap load_asked e ∙ sym (load-left l));
      load-alone-same = λ c l e. station-load-left c ∙ (ap load_asked e ∙ sym (load-left l));
      load-first-same = λ c l e. station-load-first-left c ∙ (ap load_first_asked e ∙ sym (load-first-left l));
      begin-same = λ c l e. c.promise ∙ (ap (λ (g : ToBegin). begin_numbers (begin_asked g)) e ∙ sym (ap begin_numbers l.promise));
      turn-same = λ c l far phase e. let g = numbers_to_turn c in
          station-turn-left c
          ∙ (turn-meant g far phase ∙ (ap (λ (t : ToTurn). turned_numbers g.loading (turn_asked t)) e ∙ sym (ap (turned_numbers g.loading) (turn-left l))));
      job-same = λ c l e. c.promise ∙ (ap (λ (g : ToRead). job_of g.file) e ∙ sym l.promise);
      image-same = λ c l e. c.promise ∙ (ap (λ (g : ToReadImage). values_of g.file g.start g.room) e ∙ sym l.promise);
      bill-same = λ c l e. c.promise ∙ (ap (λ (g : ToRead). bill_of_file g.file) e ∙ sym l.promise);
      driver-returns = driver-back;
      loading-returns = loading-back;
      device-returns = device-back;
    }
