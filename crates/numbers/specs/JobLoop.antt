-- The C controller's loop over a job: it turns, sends the cycle that is named at its level, and gives what it was shown to the next turn.
use Rattle.std.specs.Prelude.{ℕ, zero, suc, List, [], ◌∷◌, map, Some, None}
use Rattle.device.specs.declared.cycle.Cycle.{Cycle}
use Rattle.device.specs.Cycle.{cycle}
use Rattle.driver.specs.Machine.{Next}
use Rattle.bus.specs.declared.cycle.DeviceNumbers.{DeviceNumbers}
use Rattle.bus.specs.Cycle.{high, device_numbers, cycled_of}
use Rattle.job.specs.declared.loading.Loading.{Loading}
use Rattle.job.specs.Loading.{Sending}
use Rattle.job.specs.Run.{Sent}
use Rattle.job.specs.Loading.{LoadTurned, load_turn_of}
use Rattle.job.specs.Socket.{LoadTold, LoadHeard}
use Rattle.numbers.specs.Machine.{next_of}
use Rattle.numbers.specs.Loading.{TurnedNumbers, told_turned, turned_of}

-- the library's turn, always with this image
abbrev pub turns_with : List ℕ → Loading → List ℕ → ℕ → LoadTurned
turns_with image g seen read = load_turn_of g image seen read

-- the cycle of what a turn names: a controller is not told why it is sent
abbrev pub next_sent : Sending → Next
next_sent None = None
next_sent (Some (p, c)) = Some (c.elapsed, c.action)

abbrev pub cycles_of : List Sent → List Cycle
cycles_of ss = map (λ (s : Sent). s.cycle) ss

-- ---- against the model
-- the cycles sent, the cells and the device that they left, and the turn that stands with the values seen
pub record JobLooped : Type 0 where
  pub cycles : List Cycle
  pub cells : List ℕ
  pub device : DeviceNumbers
  pub last : TurnedNumbers

abbrev pub job_looped : List Cycle → List ℕ → DeviceNumbers → TurnedNumbers → JobLooped
job_looped cs cells v t = record { cycles = cs; cells = cells; device = v; last = t }

-- the numbers of a loader's talk with the model
abbrev pub job_told_numbers : LoadTold → JobLooped
job_told_numbers t = job_looped (cycles_of t.sent) t.chip.cells (device_numbers t.chip.device) (told_turned t.last)

-- from a turn on, at most n cycles, each by station_read or station_write
unfoldable pub job_loop : List ℕ → ℕ → ℕ → TurnedNumbers → List ℕ → DeviceNumbers → JobLooped
job_loop image part zero t cells v = job_looped [] cells v t
job_loop image part (suc n) t cells v =
    elim (next_of t.turn.cycle) [
      | None ↦ job_looped [] cells v t
      | Some (e, a) ↦
          let o = cycled_of part cells v e t.turn.wp a in
          let u = job_loop image part n (turned_of t.turn.loading image t.seen o.reply.value) o.cells o.reply.device in
          job_looped (cycle e (high t.turn.wp) a ∷ u.cycles) u.cells u.device u.last
    ]

-- ---- against any replies
pub record JobAnswered : Type 0 where
  pub cycles : List Cycle
  pub last : TurnedNumbers

abbrev pub job_answered : List Cycle → TurnedNumbers → JobAnswered
job_answered cs t = record { cycles = cs; last = t }

-- the numbers of what a loader does that hears replies
abbrev pub job_heard_numbers : LoadHeard → JobAnswered
job_heard_numbers t = job_answered (cycles_of t.sent) (told_turned t.last)

-- the same where f says what is replied, f 0 to the first cycle
unfoldable pub job_hearing : List ℕ → (ℕ → ℕ) → ℕ → TurnedNumbers → JobAnswered
job_hearing image f zero t = job_answered [] t
job_hearing image f (suc n) t =
    elim (next_of t.turn.cycle) [
      | None ↦ job_answered [] t
      | Some (e, a) ↦
          let u = job_hearing image (λ i. f (suc i)) n (turned_of t.turn.loading image t.seen (f 0)) in
          job_answered (cycle e (high t.turn.wp) a ∷ u.cycles) u.last
    ]
