-- The exported loader on a bus: against the model of the chip, and against any replies. T is what a turn hands back, of a state, the values seen and the value
-- last read.
use Rattle.std.specs.Prelude.{ℕ, zero, suc, ◌+◌, ◌*◌, ◌/◌, ◌%◌, ◌≤◌, ◌<◌, ◌≡◌, Bool, true, List, [], ◌∷◌, length, get_or, Some, None}
use Rattle.parts.specs.Names.{PROGRAM, SECTOR}
use Rattle.parts.specs.Table.{row_of}
use Rattle.parts.specs.Time.{polls_of}
use Rattle.device.specs.declared.cycle.Action.{Action}
use Rattle.device.specs.declared.cycle.Action.TheVariants.{Read, Write}
use Rattle.device.specs.Cycle.{Chip}
use Rattle.device.specs.Trace.{after}
use Rattle.commands.specs.declared.write.Write.{Write as Written}
use Rattle.driver.specs.Writes.{write_count, nth_write}
use Rattle.driver.specs.Talk.{shows}
use Rattle.job.specs.declared.loader.Job.{Job}
use Rattle.job.specs.declared.loading.Progress.TheVariants.{Over}
use Rattle.job.specs.declared.loading.Loading.{Loading}
use Rattle.job.specs.Run.{Sent, sent}
use Rattle.job.specs.Sent.{sent_of}
use Rattle.job.specs.Bill.{job_from, load_of}
use Rattle.job.specs.Loading.{loading, is_ending, load_turn, LoadTurned, load_turned}

-- ---- against the model
-- the cycles sent, the chip that they left, and the turn that stands: where it names nothing, the end
pub record LoadTold : Type 0 where
  pub sent : List Sent
  pub chip : Chip
  pub last : LoadTurned

abbrev pub load_told : List Sent → Chip → LoadTurned → LoadTold
load_told ss h t = record { sent = ss; chip = h; last = t }

-- a cycle in front
abbrev pub told_after : Sent → LoadTold → LoadTold
told_after s t = load_told (s ∷ t.sent) t.chip t.last

-- from a turn on, each cycle that it names is sent to the chip, and what the chip shows is given to the next turn: at most n cycles
unfoldable pub load_talk : (Loading → List ℕ → ℕ → LoadTurned) → ℕ → ℕ → LoadTurned → Chip → LoadTold
load_talk T part zero t h = load_told [] h t
load_talk T part (suc n) t h =
    elim t.turn.next [
      | None ↦ load_told [] h t
      | Some (p, c) ↦ told_after (sent p c) (load_talk T part n (T t.turn.loading t.seen (shows part h c)) (after part h c))
    ]

-- on the part's number of cells and a fresh device it has sent the one list, left the cells that the job leaves, and ended with 0
pub record HasLoaded (part : ℕ) (cells : List ℕ) (first : ℕ) (image : List ℕ) (wp : Bool) (p : ℕ) (t : LoadTold) : Type 0 where
  pub sends : t.sent ≡ sent_of (job_from part first (length image) wp p) image cells
  pub leaves : t.chip.cells ≡ (load_of part cells first image wp p).cells
  pub ends : t.last.turn ≡ load_turn 0 (loading part first (length image) wp p (Over 0)) None

-- ---- against any replies
pub record LoadHeard : Type 0 where
  pub sent : List Sent
  pub last : LoadTurned

abbrev pub load_heard_of : List Sent → LoadTurned → LoadHeard
load_heard_of ss t = record { sent = ss; last = t }

-- a cycle in front
abbrev pub heard_after : Sent → LoadHeard → LoadHeard
heard_after s t = load_heard_of (s ∷ t.sent) t.last

-- the same where f says what is replied, f 0 to the first cycle
unfoldable pub load_heard : (Loading → List ℕ → ℕ → LoadTurned) → (ℕ → ℕ) → ℕ → LoadTurned → LoadHeard
load_heard T f zero t = load_heard_of [] t
load_heard T f (suc n) t =
    elim t.turn.next [
      | None ↦ load_heard_of [] t
      | Some (p, c) ↦ heard_after (sent p c) (load_heard T (λ i. f (suc i)) n (T t.turn.loading t.seen (f 0)))
    ]

-- the most cycles of an operation: its writes, 2N polls and the confirming read
abbrev pub operation_most : Job → ℕ → ℕ
operation_most j command = write_count command + polls_of j.row command j.p * 2 + 1

-- of a job: in each sector every cell is read twice, the sector erased, and every cell programmed
abbrev pub cycles_most : Job → ℕ
cycles_most j = j.count / j.size * (j.size * 2 + operation_most j SECTOR + j.size * operation_most j PROGRAM)

abbrev pub as_action : Written → Action
as_action w = Write w.address w.«data»

-- what a job may do in a cycle: read a cell of its range; name a write of a program of an image value at its address, or of the erase of
-- a sector of its range at its first address
pub data Allowed (j : Job) (image : List ℕ) : Action → Type 0 where
  reads : (i : ℕ) → i < j.count → Allowed j image (Read (j.first + i))
  programs : (i n : ℕ) → i < j.count → n < write_count PROGRAM → Allowed j image (as_action (nth_write (row_of j.part) PROGRAM (j.first + i) (get_or image i 0) n))
  erases : (i n : ℕ) → i < j.count → i % j.size ≡ 0 → n < write_count SECTOR → Allowed j image (as_action (nth_write (row_of j.part) SECTOR (j.first + i) 0 n))

-- each cycle of a list is such a one, at the job's level
abbrev pub AllAllowed : Job → List ℕ → List Sent → Type 0
AllAllowed j image [] = Unit {0}
AllAllowed j image (s ∷ ss) = (s.cycle.wp ≡ j.wp) × (Allowed j image s.cycle.action × AllAllowed j image ss)

-- it has ended, whatever was replied: no cycle is named; the number is 0, 11 or 12; no more cycles than those were sent, and no others than a job may send; every
-- later turn repeats it
pub record HasEnded (T : Loading → List ℕ → ℕ → LoadTurned) (j : Job) (image : List ℕ) (h : LoadHeard) : Type 0 where
  pub names-nothing : h.last.turn.next ≡ None
  pub numbered : is_ending h.last.turn.answer ≡ true
  pub cycles-few : length h.sent ≤ cycles_most j
  pub allowed : AllAllowed j image h.sent
  pub repeated : (seen : List ℕ) (read : ℕ) → T h.last.turn.loading seen read ≡ load_turned seen h.last.turn
