-- The driver as plain numbers: those of a state, of a start and of a step, and the state of any numbers.
use Rattle.std.specs.Prelude.{ℕ, eqb, ltb, Some, None}
use Rattle.parts.specs.Names.{NO-CYCLE, A-READ, A-WRITE, BAD-STATE}
use Rattle.parts.specs.Pick.{◌when◌, ◌else◌}
use Rattle.device.specs.declared.cycle.Action.{Action}
use Rattle.device.specs.declared.cycle.Action.TheVariants.{Read, Write, Idle, Cut}
use Rattle.driver.specs.declared.machine.Phase.{Phase}
use Rattle.driver.specs.declared.machine.Phase.TheVariants.{Writing, Polling, Confirming, Done, GaveUp, Differs}
use Rattle.driver.specs.declared.machine.Driver.{Driver}
use Rattle.driver.specs.declared.machine.Started.{Started}
use Rattle.driver.specs.Machine.{Next}
use Rattle.driver.specs.declared.machine.Step.{Step}
use Rattle.driver.specs.Machine.{driver, step_of}
use Rattle.numbers.specs.declared.machine.DriverNumbers.{DriverNumbers}
use Rattle.numbers.specs.declared.machine.StartNumbers.{StartNumbers}
use Rattle.numbers.specs.declared.machine.CycleNumbers.{CycleNumbers}
use Rattle.numbers.specs.declared.machine.StepNumbers.{StepNumbers}

-- ---- the phases by number: how far a driver is. Capitals as in the source, its `_` as `-`
-- its writes are named
abbrev pub WRITING : ℕ
WRITING = 0

-- its polls
abbrev pub POLLING : ℕ
POLLING = 1

-- the confirming read
abbrev pub CONFIRMING : ℕ
CONFIRMING = 2

-- done
abbrev pub ENDED-DONE : ℕ
ENDED-DONE = 3

-- polling gave up
abbrev pub ENDED-GAVE-UP : ℕ
ENDED-GAVE-UP = 4

-- the confirming read differs
abbrev pub ENDED-DIFFERS : ℕ
ENDED-DIFFERS = 5

-- the number of a phase
abbrev pub phase_number : Phase → ℕ
phase_number Writing = WRITING
phase_number Polling = POLLING
phase_number Confirming = CONFIRMING
phase_number Done = ENDED-DONE
phase_number GaveUp = ENDED-GAVE-UP
phase_number Differs = ENDED-DIFFERS

-- the phase of a number: the last for any above it
unfoldable pub phase_at : ℕ → Phase
phase_at n =
    Writing when eqb n WRITING
    else Polling when eqb n POLLING
    else Confirming when eqb n CONFIRMING
    else Done when eqb n ENDED-DONE
    else GaveUp when eqb n ENDED-GAVE-UP
    else Differs

-- ---- the driver
abbrev pub driver_numbers : Driver → DriverNumbers
driver_numbers d =
    record {
      part = d.part;
      command = d.command;
      address = d.address;
      «data» = d.«data»;
      p = d.p;
      phase = phase_number d.phase;
      count = d.count;
    }

abbrev pub driver_of : DriverNumbers → Driver
driver_of n = driver n.part n.command n.address n.«data» n.p (phase_at n.phase) n.count

-- ---- the cycle that a step names: none, a read or a write
abbrev pub cycle_to_send : ℕ → ℕ → ℕ → ℕ → CycleNumbers
cycle_to_send k e a x = record { kind = k; elapsed = e; address = a; «data» = x }

abbrev pub no_cycle : CycleNumbers
no_cycle = cycle_to_send NO-CYCLE 0 0 0

-- a step sends nothing but reads and writes
abbrev pub sent_numbers : ℕ → Action → CycleNumbers
sent_numbers e (Read a) = cycle_to_send A-READ e a 0
sent_numbers e (Write a x) = cycle_to_send A-WRITE e a x
sent_numbers e Idle = no_cycle
sent_numbers e (Cut s) = no_cycle

abbrev pub next_numbers : Next → CycleNumbers
next_numbers None = no_cycle
next_numbers (Some (e, a)) = sent_numbers e a

-- the cycle of some numbers: any kind but none and a read is a write
unfoldable pub next_of : CycleNumbers → Next
next_of n =
    None when eqb n.kind NO-CYCLE
    else Some (n.elapsed, Read n.address) when eqb n.kind A-READ
    else Some (n.elapsed, Write n.address n.«data»)

-- ---- a start and a step
abbrev pub start_numbers : Started → StartNumbers
start_numbers s = record { answer = s.answer; driver = driver_numbers s.driver }

abbrev pub step_numbers : Step → StepNumbers
step_numbers s = record { answer = s.answer; driver = driver_numbers s.driver; cycle = next_numbers s.next; polls = s.polls }

-- 5 for numbers that are no state in range: no cycle, no polls, and the numbers as they came
abbrev pub no_driver_state : DriverNumbers → StepNumbers
no_driver_state n = record { answer = BAD-STATE; driver = n; cycle = no_cycle; polls = 0 }

-- a number above the last phase's is no phase
unfoldable pub stepped_of : DriverNumbers → ℕ → StepNumbers
stepped_of n read = no_driver_state n when ltb ENDED-DIFFERS n.phase else step_numbers (step_of (driver_of n) read)
