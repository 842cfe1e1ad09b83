-- The C controller's loop: it steps, sends the cycle that is named, and gives what it was shown to the next step.
use Rattle.std.specs.Prelude.{ℕ, zero, suc, List, [], ◌∷◌, Some, None}
use Rattle.device.specs.declared.cycle.Cycle.{Cycle}
use Rattle.device.specs.Cycle.{cycle}
use Rattle.driver.specs.Talk.{Told, Heard}
use Rattle.bus.specs.declared.cycle.DeviceNumbers.{DeviceNumbers}
use Rattle.bus.specs.Cycle.{high, device_numbers, cycled_of}
use Rattle.numbers.specs.declared.machine.StepNumbers.{StepNumbers}
use Rattle.numbers.specs.Machine.{next_of, step_numbers, stepped_of}

-- ---- against the model
-- the cycles sent, the cells and the device that they left, and the step that stands
pub record Looped : Type 0 where
  pub cycles : List Cycle
  pub cells : List ℕ
  pub device : DeviceNumbers
  pub last : StepNumbers

abbrev pub looped : List Cycle → List ℕ → DeviceNumbers → StepNumbers → Looped
looped cs cells v s = record { cycles = cs; cells = cells; device = v; last = s }

-- the numbers of a driver's talk with the model
abbrev pub told_numbers : Told → Looped
told_numbers t = looped t.cycles t.chip.cells (device_numbers t.chip.device) (step_numbers t.last)

-- from a step on, at most n cycles, each by station_read or station_write
unfoldable pub loop : ℕ → ℕ → ℕ → StepNumbers → List ℕ → DeviceNumbers → Looped
loop part wp zero s cells v = looped [] cells v s
loop part wp (suc n) s cells v =
    elim (next_of s.cycle) [
      | None ↦ looped [] cells v s
      | Some (e, a) ↦
          let o = cycled_of part cells v e wp a in
          let t = loop part wp n (stepped_of s.driver o.reply.value) o.cells o.reply.device in
          looped (cycle e (high wp) a ∷ t.cycles) t.cells t.device t.last
    ]

-- ---- against any replies
pub record Answered : Type 0 where
  pub cycles : List Cycle
  pub last : StepNumbers

abbrev pub answered : List Cycle → StepNumbers → Answered
answered cs s = record { cycles = cs; last = s }

-- the numbers of what a driver does that hears replies
abbrev pub heard_numbers : Heard → Answered
heard_numbers t = answered t.cycles (step_numbers t.last)

-- the same where f says what is replied, f 0 to the first cycle
unfoldable pub loop_hearing : ℕ → (ℕ → ℕ) → ℕ → StepNumbers → Answered
loop_hearing wp f zero s = answered [] s
loop_hearing wp f (suc n) s =
    elim (next_of s.cycle) [
      | None ↦ answered [] s
      | Some (e, a) ↦
          let t = loop_hearing wp (λ i. f (suc i)) n (stepped_of s.driver (f 0)) in
          answered (cycle e (high wp) a ∷ t.cycles) t.last
    ]
