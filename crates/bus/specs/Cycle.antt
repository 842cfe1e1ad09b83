-- The bus cycle as plain numbers: those of a device and of a reply, and the device of any numbers.
use Rattle.std.specs.Prelude.{ℕ, Bool, false, List, eqb, leb, ltb}
use Rattle.std.specs.Int.{from_bool}
use Rattle.parts.specs.Pick.{pick, ◌when◌, ◌unless◌, ◌else◌}
use Rattle.commands.specs.declared.effect.Mode.{Mode}
use Rattle.commands.specs.declared.effect.Mode.TheVariants.{ReadMode, Identification}
use Rattle.device.specs.declared.state.Operation.{Operation}
use Rattle.device.specs.declared.state.Device.{Device}
use Rattle.device.specs.declared.cycle.Action.{Action}
use Rattle.device.specs.declared.cycle.Reply.{Reply}
use Rattle.device.specs.Device.{operation, core, device, fresh_core}
use Rattle.device.specs.Cycle.{Outcome, cycle, cycle_of}
use Rattle.bus.specs.declared.cycle.OperationNumbers.{OperationNumbers}
use Rattle.bus.specs.declared.cycle.DeviceNumbers.{DeviceNumbers}
use Rattle.bus.specs.declared.cycle.ReplyNumbers.{ReplyNumbers}

-- WP# is high at any level but 0
abbrev pub high : ℕ → Bool
high wp = ltb 0 wp

-- ---- the modes by number. Capitals as in the source, its `_` as `-`
-- the cells are read
abbrev pub READ-MODE : ℕ
READ-MODE = 0

-- the codes are read
abbrev pub IDENTIFICATION : ℕ
IDENTIFICATION = 1

-- the number of a mode
abbrev pub mode_number : Mode → ℕ
mode_number ReadMode = READ-MODE
mode_number Identification = IDENTIFICATION

-- the mode of a number: identification for any but the first
abbrev pub mode_at : ℕ → Mode
mode_at n = pick (eqb n READ-MODE) ReadMode Identification

-- ---- the device
-- what a bit shows, a level, whether a completion is recent, or whether bit 2 has turned
abbrev pub bit_number : Bool → ℕ
bit_number t = from_bool t

-- the numbers of an operation
abbrev pub operation_numbers : Operation → OperationNumbers
operation_numbers o =
    record {
      kind = o.kind;
      address = o.address;
      «data» = o.«data»;
      left = o.left;
      toggle = bit_number o.toggle;
    }

-- the numbers of a device
abbrev pub device_numbers : Device → DeviceNumbers
device_numbers d =
    record {
      mode = mode_number d.core.mode;
      stage = d.stage;
      recent = bit_number d.core.recent;
      turned = bit_number d.core.turned;
      running = operation_numbers d.core.running;
      suspended = operation_numbers d.core.suspended;
    }

-- the operation of some numbers
abbrev pub operation_of : OperationNumbers → Operation
operation_of n = operation n.kind n.address n.«data» n.left (eqb n.toggle 1)

-- a stage past the seven of a write sequence
abbrev pub NO-STAGE : ℕ
NO-STAGE = 7

-- a device out of range for every part
abbrev pub no_state : Device
no_state = device fresh_core NO-STAGE

-- the mode is none past the last, and recent, turned and both toggles are 0 or 1
unfoldable pub has_bits : DeviceNumbers → Bool
has_bits n =
    false when ltb IDENTIFICATION n.mode
    else false when ltb 1 n.recent
    else false when ltb 1 n.turned
    else false when ltb 1 n.running.toggle
    else leb n.suspended.toggle 1

-- other numbers are no state
unfoldable pub device_of : DeviceNumbers → Device
device_of n =
    no_state unless has_bits n
    else device (core (mode_at n.mode) (eqb n.recent 1) (eqb n.turned 1) (operation_of n.running) (operation_of n.suspended)) n.stage

-- ---- a cycle
-- a refused cycle hands back the numbers as they came
unfoldable pub reply_numbers : DeviceNumbers → Reply → ReplyNumbers
reply_numbers n r =
    pick (ltb 0 r.answer)
    (record { answer = r.answer; value = r.value; device = n })
    (record { answer = 0; value = r.value; device = device_numbers r.device })

-- what a cycle leaves on the cells, and its reply
pub record Cycled : Type 0 where
  pub cells : List ℕ
  pub reply : ReplyNumbers

-- the numbers of an outcome
abbrev pub cycled_numbers : DeviceNumbers → Outcome → Cycled
cycled_numbers n o = record { cells = o.cells; reply = reply_numbers n o.reply }

-- the cycle on the device that the numbers mean
abbrev pub cycled_of : ℕ → List ℕ → DeviceNumbers → ℕ → ℕ → Action → Cycled
cycled_of part cells n e wp a = cycled_numbers n (cycle_of part cells (device_of n) (cycle e (high wp) a))
