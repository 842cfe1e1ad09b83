-- The loader for a real socket as plain numbers: those of a job under way, of a begin and of a turn, and the job of any numbers.
use Rattle.std.specs.Prelude.{ℕ, List, eqb, ltb, Some, None}
use Rattle.parts.specs.Names.{BAD-STATE}
use Rattle.parts.specs.Pick.{pick, ◌when◌, ◌else◌}
use Rattle.driver.specs.Machine.{no_driver}
use Rattle.bus.specs.Cycle.{high, bit_number}
use Rattle.job.specs.declared.loader.Task.{Task}
use Rattle.job.specs.declared.loader.Task.TheVariants.{Erasing, Filling, Burning}
use Rattle.job.specs.declared.loader.Stage.{Stage}
use Rattle.job.specs.declared.loader.Stage.TheVariants.{Scanning, Looking, Driving}
use Rattle.job.specs.declared.loading.Progress.{Progress}
use Rattle.job.specs.declared.loading.Progress.TheVariants.{Waiting, Within, Over}
use Rattle.job.specs.declared.loading.Loading.{Loading}
use Rattle.job.specs.declared.loading.Begun.{Begun}
use Rattle.job.specs.Loading.{Sending}
use Rattle.job.specs.declared.loading.LoadTurn.{LoadTurn}
use Rattle.job.specs.Loader.{loader}
use Rattle.job.specs.Loading.{loading, is_ending, LoadTurned, load_turn_of}
use Rattle.numbers.specs.declared.machine.DriverNumbers.{DriverNumbers}
use Rattle.numbers.specs.declared.machine.CycleNumbers.{CycleNumbers}
use Rattle.numbers.specs.declared.loading.LoadingNumbers.{LoadingNumbers}
use Rattle.numbers.specs.declared.loading.BeginNumbers.{BeginNumbers}
use Rattle.numbers.specs.declared.loading.TurnNumbers.{TurnNumbers}
use Rattle.numbers.specs.Machine.{ENDED-DIFFERS, driver_numbers, driver_of, no_cycle, sent_numbers}

-- ---- how far a job is, by number. Capitals as in the source
-- no cycle is named yet
abbrev pub WAITING : ℕ
WAITING = 0

-- a sector is read
abbrev pub SCANNING : ℕ
SCANNING = 1

-- it stays unerased, and is read again
abbrev pub LOOKING : ℕ
LOOKING = 2

-- a driver erases the sector
abbrev pub ERASING : ℕ
ERASING = 3

-- it programs a cell of an erased one
abbrev pub FILLING : ℕ
FILLING = 4

-- or of one that stays unerased
abbrev pub BURNING : ℕ
BURNING = 5

-- the job has ended
abbrev pub OVER : ℕ
OVER = 6

-- what is driven: an erase, a fill or a burn
abbrev pub task_number : Task → ℕ
task_number Erasing = ERASING
task_number Filling = FILLING
task_number Burning = BURNING

-- a burn for any number but the first two
unfoldable pub task_at : ℕ → Task
task_at n =
    Erasing when eqb n ERASING
    else Filling when eqb n FILLING
    else Burning

-- ---- the numbers of a job under way
abbrev pub no_driver_numbers : DriverNumbers
no_driver_numbers = driver_numbers no_driver

-- what was asked; how far it is; the sector's first cell and the cell in it; the driver; the number of the end
abbrev pub loading_at : Loading → ℕ → ℕ → ℕ → DriverNumbers → ℕ → LoadingNumbers
loading_at g progress base i d n =
    record {
      part = g.part;
      first = g.first;
      count = g.count;
      wp = bit_number g.wp;
      p = g.p;
      progress = progress;
      base = base;
      at = i;
      driver = d;
      ending = n;
    }

abbrev pub stage_numbers : Loading → Stage → ℕ → ℕ → LoadingNumbers
stage_numbers g Scanning base i = loading_at g SCANNING base i no_driver_numbers 0
stage_numbers g Looking base i = loading_at g LOOKING base i no_driver_numbers 0
stage_numbers g (Driving t d) base i = loading_at g (task_number t) base i (driver_numbers d) 0

abbrev pub progress_numbers : Loading → Progress → LoadingNumbers
progress_numbers g Waiting = loading_at g WAITING 0 0 no_driver_numbers 0
progress_numbers g (Within l) = stage_numbers g l.stage l.base l.at
progress_numbers g (Over n) = loading_at g OVER 0 0 no_driver_numbers n

abbrev pub loading_numbers : Loading → LoadingNumbers
loading_numbers g = progress_numbers g g.progress

-- ---- the job under way of some numbers
unfoldable pub stage_at : ℕ → DriverNumbers → Stage
stage_at n d =
    Scanning when eqb n SCANNING
    else Looking when eqb n LOOKING
    else Driving (task_at n) (driver_of d)

unfoldable pub progress_at : LoadingNumbers → Progress
progress_at n =
    Waiting when eqb n.progress WAITING
    else Over n.ending when eqb n.progress OVER
    else Within (loader (stage_at n.progress n.driver) n.base n.at)

abbrev pub loading_of : LoadingNumbers → Loading
loading_of n = loading n.part n.first n.count (high n.wp) n.p (progress_at n)

-- ---- a begin
abbrev pub begin_numbers : Begun → BeginNumbers
begin_numbers b = record { answer = b.answer; loading = loading_numbers b.loading }

-- ---- a turn
-- the cycle that it names
abbrev pub sending_numbers : Sending → CycleNumbers
sending_numbers None = no_cycle
sending_numbers (Some (p, c)) = sent_numbers c.elapsed c.action

-- WP#'s level at it
abbrev pub sending_level : Sending → ℕ
sending_level None = 0
sending_level (Some (p, c)) = bit_number c.wp

abbrev pub told_turn : LoadTurn → TurnNumbers
told_turn t =
    record {
      answer = t.answer;
      loading = loading_numbers t.loading;
      cycle = sending_numbers t.next;
      wp = sending_level t.next;
    }

-- a refused turn: no cycle, and the numbers as they came
abbrev pub no_turn : ℕ → LoadingNumbers → TurnNumbers
no_turn k n = record { answer = k; loading = n; cycle = no_cycle; wp = 0 }

-- an answer but 0, 11 and 12 is a refusal
unfoldable pub turn_numbers : LoadingNumbers → LoadTurn → TurnNumbers
turn_numbers n t = pick (is_ending t.answer) (told_turn t) (no_turn t.answer n)

-- the values seen, and the turn
pub record TurnedNumbers : Type 0 where
  pub seen : List ℕ
  pub turn : TurnNumbers

-- of a turn that is not refused
abbrev pub told_turned : LoadTurned → TurnedNumbers
told_turned t = record { seen = t.seen; turn = told_turn t.turn }

abbrev pub turned_numbers : LoadingNumbers → LoadTurned → TurnedNumbers
turned_numbers n t = record { seen = t.seen; turn = turn_numbers n t.turn }

abbrev pub no_state_turned : LoadingNumbers → List ℕ → TurnedNumbers
no_state_turned n seen = record { seen = seen; turn = no_turn BAD-STATE n }

-- 5 for numbers that are no state: farther than over, or a driver's phase past the last
unfoldable pub turned_of : LoadingNumbers → List ℕ → List ℕ → ℕ → TurnedNumbers
turned_of n image seen read =
    no_state_turned n seen when ltb OVER n.progress
    else no_state_turned n seen when ltb ENDED-DIFFERS n.driver.phase
    else turned_numbers n (load_turn_of (loading_of n) image seen read)
