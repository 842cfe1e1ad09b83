-- The loader for a real socket: begun once, and then turn by turn given the value last read.
use Rattle.std.specs.Prelude.{ℕ, ◌+◌, ◌%◌, Bool, true, false, Option, List, eqb, length, get_or, Some, None}
use Rattle.parts.specs.Names.{PROGRAM, SECTOR, BAD-STATE, GAVE-UP, DIFFERS}
use Rattle.parts.specs.Pick.{pick}
use Rattle.driver.specs.declared.machine.Phase.TheVariants.{Writing}
use Rattle.driver.specs.declared.machine.Driver.{Driver}
use Rattle.driver.specs.Machine.{driver}
use Rattle.job.specs.declared.loader.Job.{Job}
use Rattle.job.specs.declared.loader.Stage.{Stage}
use Rattle.job.specs.declared.loader.Stage.TheVariants.{Scanning, Looking, Driving}
use Rattle.job.specs.declared.loader.Task.{Task}
use Rattle.job.specs.declared.loader.Task.TheVariants.{Erasing, Filling, Burning}
use Rattle.job.specs.declared.loader.Loader.{Loader}
use Rattle.job.specs.declared.loader.Turn.{Turn}
use Rattle.job.specs.declared.loader.Turn.TheVariants.{Play, Stop}
use Rattle.job.specs.declared.loading.Progress.{Progress}
use Rattle.job.specs.declared.loading.Progress.TheVariants.{Waiting, Within, Over}
use Rattle.job.specs.declared.loading.Loading.{Loading}
use Rattle.job.specs.declared.loading.Begun.{Begun}
use Rattle.job.specs.declared.loader.Purpose.{Purpose}
use Rattle.device.specs.declared.cycle.Cycle.{Cycle}
use Rattle.job.specs.declared.loading.LoadTurn.{LoadTurn}
use Rattle.request.specs.Refusal.{begin_refusal, standing_refusal}
use Rattle.job.specs.Loader.{Turned, place_of, next_sector, in_job, turn_of}
use Rattle.job.specs.Bill.{job_from}

abbrev pub loading : ℕ → ℕ → ℕ → Bool → ℕ → Progress → Loading
loading part first count wp p g = record { part = part; first = first; count = count; wp = wp; p = p; progress = g }

-- ---- the begin: a refused one hands back an all-zero state
unfoldable pub begin_load : ℕ → ℕ → List ℕ → Bool → ℕ → Begun
begin_load part first image wp p =
    pick (eqb (begin_refusal part first image wp p) 0)
    (record { answer = 0; loading = loading part first (length image) wp p Waiting })
    (record { answer = begin_refusal part first image wp p; loading = loading 0 0 0 false 0 Waiting })

-- ---- the states in range
-- the numbers that a job ends with: 0, 11, 12
unfoldable pub is_ending : ℕ → Bool
is_ending n = pick (eqb n 0) true (pick (eqb n GAVE-UP) true (eqb n DIFFERS))

abbrev pub new_driver : Job → ℕ → ℕ → ℕ → Driver
new_driver j command a x = driver j.part command a x j.p Writing 0

-- what a task asks a driver for at a cell of a sector: the sector's erase at its first address, or a program of the image's value
abbrev pub asked_for : Job → List ℕ → Task → ℕ → ℕ → Driver
asked_for j image Erasing base i = new_driver j SECTOR (j.first + base) 0
asked_for j image Filling base i = new_driver j PROGRAM (place_of j base i) (get_or image (base + i) 0)
asked_for j image Burning base i = new_driver j PROGRAM (place_of j base i) (get_or image (base + i) 0)

-- two drivers ask for the same
unfoldable pub same_asked : Driver → Driver → Bool
same_asked d e =
    pick (eqb d.part e.part)
    (pick (eqb d.command e.command)
    (pick (eqb d.address e.address)
    (pick (eqb d.«data» e.«data») (eqb d.p e.p) false) false) false) false

abbrev pub stage_in_range : Job → List ℕ → Stage → ℕ → ℕ → Bool
stage_in_range j image Scanning base i = true
stage_in_range j image Looking base i = true
stage_in_range j image (Driving t d) base i = same_asked d (asked_for j image t base i)

-- a loader in its job, at a sector's first cell, whose driver asks for what its task does
unfoldable pub loader_in_range : Job → List ℕ → Loader → Bool
loader_in_range j image l =
    pick (in_job j l)
    (pick (eqb (l.base % j.size) 0) (stage_in_range j image l.stage l.base l.at) false) false

abbrev pub progress_in_range : Job → List ℕ → Progress → Bool
progress_in_range j image Waiting = true
progress_in_range j image (Within l) = loader_in_range j image l
progress_in_range j image (Over n) = is_ending n

-- the job of a state
abbrev pub job_in : Loading → Job
job_in g = job_from g.part g.first g.count g.wp g.p

-- a state in range for an image: none of the job's refusals but that of the image's values, which is given once, by the begin
unfoldable pub loading_in_range : Loading → List ℕ → Bool
loading_in_range g image =
    pick (eqb (standing_refusal g.part g.first g.count g.wp g.p) 0)
    (pick (eqb g.count (length image)) (progress_in_range (job_in g) image g.progress) false) false

-- ---- a turn
abbrev pub moved_to : Loading → Progress → Loading
moved_to g x = loading g.part g.first g.count g.wp g.p x

-- what a turn names: no cycle, or the next one and why it is sent
abbrev pub Sending : Type 0
Sending = Option (Purpose × Cycle)

abbrev pub load_turn : ℕ → Loading → Sending → LoadTurn
load_turn n g x = record { answer = n; loading = g; next = x }

-- the end with its number, which is repeated from then on; an operation's start that is refused hands the state back as it came
unfoldable pub stops_with : Loading → ℕ → LoadTurn
stops_with g n = pick (is_ending n) (load_turn n (moved_to g (Over n)) None) (load_turn n g None)

-- what the loader's turn comes to
abbrev pub taken : Loading → Turn → LoadTurn
taken g (Play l p c) = load_turn 0 (moved_to g (Within l)) (Some (p, c))
taken g (Stop n) = stops_with g n

-- the values seen, and the turn
pub record LoadTurned : Type 0 where
  pub seen : List ℕ
  pub turn : LoadTurn

abbrev pub load_turned : List ℕ → LoadTurn → LoadTurned
load_turned seen t = record { seen = seen; turn = t }

abbrev pub takes : Loading → Turned → LoadTurned
takes g t = load_turned t.seen (taken g t.turn)

-- the first read of the first sector, if there is one
abbrev pub first_turn : Job → Turn
first_turn j = next_sector j 0

-- the first turn; then what the loader does; then the end
abbrev pub progress_of : Loading → Job → List ℕ → List ℕ → Progress → ℕ → LoadTurned
progress_of g j image seen Waiting read = load_turned seen (taken g (first_turn j))
progress_of g j image seen (Within l) read = takes g (turn_of j image seen l read)
progress_of g j image seen (Over n) read = load_turned seen (stops_with g n)

-- 5, with the state and the values seen handed back as they came, for one out of range
unfoldable pub load_turn_of : Loading → List ℕ → List ℕ → ℕ → LoadTurned
load_turn_of g image seen read =
    pick (loading_in_range g image) (progress_of g (job_in g) image seen g.progress read)
    (load_turned seen (load_turn BAD-STATE g None))

-- ---- inside the crate: the turn of a state whose job is in range
unfoldable pub job_turn : Loading → Job → List ℕ → List ℕ → ℕ → LoadTurned
job_turn g j image seen read =
    pick (progress_in_range j image g.progress) (progress_of g j image seen g.progress read)
    (load_turned seen (load_turn BAD-STATE g None))
