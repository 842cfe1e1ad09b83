-- A driver against the model of the chip, and against any replies.
use Rattle.std.specs.Prelude.{ℕ, zero, suc, ◌^◌, ◌<◌, ◌≡◌, Bool, List, [], ◌∷◌, ◌++◌, map, get_or, replicate, Some, None}
use Rattle.parts.specs.Pick.{pick}
use Rattle.parts.specs.Width.{value_of}
use Rattle.parts.specs.declared.table.Row.{Row}
use Rattle.device.specs.declared.state.Operation.{Operation}
use Rattle.device.specs.declared.cycle.Action.TheVariants.{Read, Write}
use Rattle.device.specs.declared.cycle.Cycle.{Cycle}
use Rattle.device.specs.Operation.{complete_on}
use Rattle.device.specs.Sequence.{new_operation}
use Rattle.device.specs.Cycle.{cycle, Chip, cycle_of}
use Rattle.device.specs.Trace.{after}
use Rattle.commands.specs.declared.write.Write.{Write as Written}
use Rattle.driver.specs.declared.machine.Phase.{Phase}
use Rattle.driver.specs.declared.machine.Driver.{Driver}
use Rattle.driver.specs.declared.machine.Step.{Step}
use Rattle.driver.specs.Writes.{last_write, writes_of}
use Rattle.driver.specs.Machine.{address_of, confirm_after, confirmed, step_of}

-- writes, as cycles at 0 µs
abbrev pub write_cycle : Bool → Written → Cycle
write_cycle wp w = cycle 0 wp (Write w.address w.«data»)

abbrev pub write_cycles : Bool → List Written → List Cycle
write_cycles wp ws = map (write_cycle wp) ws

-- the cycles of an operation by their places: its writes, n polls p apart, and the confirming read once a phase is reached that follows it
abbrev pub operation_cycles : Row → Bool → ℕ → ℕ → ℕ → ℕ → ℕ → Phase → List Cycle
operation_cycles r wp command a x p n f =
    write_cycles wp (writes_of r command a x)
    ++ (replicate n (cycle p wp (Read (address_of command a))) ++ pick (confirmed f) (cycle confirm_after wp (Read (address_of command a)) ∷ []) [])

-- the operation that a command's last write starts, with its table time left
abbrev pub operation_of : Row → ℕ → ℕ → ℕ → Operation
operation_of r command a x = new_operation r command (last_write r command a x).address (last_write r command a x).«data»

-- the cells once it has completed
abbrev pub completed : Row → ℕ → ℕ → ℕ → List ℕ → List ℕ
completed r command a x cells = complete_on r (operation_of r command a x) cells

-- the value at the polled address then
abbrev pub shown_after : Row → ℕ → ℕ → ℕ → List ℕ → ℕ
shown_after r command a x cells = value_of r.width (get_or (completed r command a x cells) (address_of command a) 0)

-- ---- a function of a driver's state and the value last read, by which it is stepped on
abbrev pub Stepping : Type 0
Stepping = Driver → ℕ → Step

-- numbers that the types of a state and of a value can hold: u32, and u16 for the data and the value
pub record InTypes (d : Driver) (v : ℕ) : Type 0 where
  pub part : d.part < 2 ^ 32
  pub command : d.command < 2 ^ 32
  pub address : d.address < 2 ^ 32
  pub word : d.«data» < 2 ^ 16
  pub p : d.p < 2 ^ 32
  pub count : d.count < 2 ^ 32
  pub read : v < 2 ^ 16

-- one that gives what `step_of` says, where the numbers are such
abbrev pub AsSaid : Stepping → Type 0
AsSaid steps = (d : Driver) (v : ℕ) → InTypes d v → steps d v ≡ step_of d v

-- ---- against the model
-- the cycles sent, the chip that they left, and the step that stands: where it names nothing, the end
pub record Told : Type 0 where
  pub cycles : List Cycle
  pub chip : Chip
  pub last : Step

abbrev pub told : List Cycle → Chip → Step → Told
told cs h s = record { cycles = cs; chip = h; last = s }

-- a cycle in front
abbrev pub led : Cycle → Told → Told
led c t = told (c ∷ t.cycles) t.chip t.last

-- the value that a cycle shows
abbrev pub shows : ℕ → Chip → Cycle → ℕ
shows part h c = (cycle_of part h.cells h.device c).reply.value

-- from a driver's step on, each cycle that it names is sent to the chip, and what the chip shows is given to its next step: at most n cycles
unfoldable pub talk : Stepping → ℕ → Bool → ℕ → Step → Chip → Told
talk steps part wp zero s h = told [] h s
talk steps part wp (suc n) s h =
    elim s.next [
      | None ↦ told [] h s
      | Some (e, a) ↦ led (cycle e wp a) (talk steps part wp n (steps s.driver (shows part h (cycle e wp a))) (after part h (cycle e wp a)))
    ]

-- ---- against any replies
pub record Heard : Type 0 where
  pub cycles : List Cycle
  pub last : Step

abbrev pub heard_of : List Cycle → Step → Heard
heard_of cs s = record { cycles = cs; last = s }

-- the same where f says what is replied, f 0 to the first cycle
unfoldable pub heard : Stepping → Bool → (ℕ → ℕ) → ℕ → Step → Heard
heard steps wp f zero s = heard_of [] s
heard steps wp f (suc n) s =
    elim s.next [
      | None ↦ heard_of [] s
      | Some (e, a) ↦
          heard_of (cycle e wp a ∷ (heard steps wp (λ i. f (suc i)) n (steps s.driver (f 0))).cycles)
          (heard steps wp (λ i. f (suc i)) n (steps s.driver (f 0))).last
    ]
