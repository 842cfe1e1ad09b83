-- The device state, and the states in range for a part.
use Rattle.std.specs.Prelude.{ℕ, Bool, true, false, not, eqb, ltb, leb}
use Rattle.parts.specs.Names.{PROGRAM, SECTOR, BLOCK, NONE-BEGUN, SECOND-55H}
use Rattle.parts.specs.Pick.{pick}
use Rattle.parts.specs.Width.{fits_in}
use Rattle.parts.specs.Span.{holdsb}
use Rattle.parts.specs.Time.{has_command, time_of}
use Rattle.parts.specs.declared.table.Row.{Row}
use Rattle.commands.specs.declared.effect.Mode.{Mode}
use Rattle.commands.specs.declared.effect.Mode.TheVariants.{ReadMode, Identification}
use Rattle.device.specs.declared.state.Operation.{Operation}
use Rattle.device.specs.declared.state.Core.{Core}
use Rattle.device.specs.declared.state.Device.{Device}
use Rattle.device.specs.Operation.{cells_of}

-- ---- an operation: its command's number, address, data, the µs left, and what bit 6 shows at the next busy read
abbrev pub operation : ℕ → ℕ → ℕ → ℕ → Bool → Operation
operation k a x l t = record { kind = k; address = a; «data» = x; left = l; toggle = t }

-- nothing pending
abbrev pub no_operation : Operation
no_operation = operation 0 0 0 0 false

-- with so much time left
abbrev pub with_left : Operation → ℕ → Operation
with_left o l = operation o.kind o.address o.«data» l o.toggle

-- after a busy read
abbrev pub toggled : Operation → Operation
toggled o = operation o.kind o.address o.«data» o.left (not o.toggle)

-- as it starts, is suspended or resumed: bit 6 begins at 1
abbrev pub restarted : Operation → Operation
restarted o = operation o.kind o.address o.«data» o.left true

-- it is pending exactly when time is left
abbrev pub pending : Operation → Bool
pending o = ltb 0 o.left

-- ---- the core: all of a device but its write sequence; time, reads and cuts use nothing else. Its mode, whether a completion is 0 µs old, whether the next read that shows bit 2 shows it as 0, what runs, and what is suspended
abbrev pub core : Mode → Bool → Bool → Operation → Operation → Core
core m n t o s = record { mode = m; recent = n; turned = t; running = o; suspended = s }

-- in another mode
abbrev pub in_mode : Core → Mode → Core
in_mode k m = core m k.recent k.turned k.running k.suspended

-- with a completion 0 µs old, or none
abbrev pub with_recent : Core → Bool → Core
with_recent k n = core k.mode n k.turned k.running k.suspended

-- with bit 2 to show 0 at the next read that shows it, or 1
abbrev pub with_turned : Core → Bool → Core
with_turned k t = core k.mode k.recent t k.running k.suspended

-- with what runs
abbrev pub with_running : Core → Operation → Core
with_running k o = core k.mode k.recent k.turned o k.suspended

-- an operation starts: read mode, it runs, no completion is 0 µs old, and bit 2 begins at 1
abbrev pub busy_with : Core → Operation → Core
busy_with k o = core ReadMode false false o k.suspended

-- an operation has completed: nothing runs, and the completion is 0 µs old or is not
abbrev pub at_rest : Core → Bool → Core
at_rest k n = core k.mode n false no_operation k.suspended

-- what runs is suspended: read mode, nothing runs; bits 6 and 2 begin at 1
abbrev pub suspend : Core → Core
suspend k = core ReadMode k.recent false no_operation (restarted k.running)

-- what is suspended is resumed: read mode, it runs on with the time that was left; bits 6 and 2 begin at 1
abbrev pub resume : Core → Core
resume k = core ReadMode false false (restarted k.suspended) no_operation

-- e µs at rest: any positive time ends that a completion is 0 µs old
abbrev pub aged_by : Core → ℕ → Core
aged_by k e = with_recent k (pick (ltb 0 e) false k.recent)

-- read mode, nothing running, nothing suspended, no completion 0 µs old
abbrev pub fresh_core : Core
fresh_core = core ReadMode false false no_operation no_operation

-- busy: an operation runs
abbrev pub busy : Core → Bool
busy k = pending k.running

-- held: an erase is suspended
abbrev pub held : Core → Bool
held k = pending k.suspended

-- ---- the device: its core, and the stage of its write sequence
abbrev pub device : Core → ℕ → Device
device k s = record { core = k; stage = s }

-- at the same stage
abbrev pub with_core : Device → Core → Device
with_core d k = device k d.stage

-- fresh: read mode, no sequence, idle
abbrev pub fresh_device : Device
fresh_device = device fresh_core NONE-BEGUN

-- once an operation that it started has completed, and time has passed: read mode, no sequence, nothing running, what is suspended as it was
abbrev pub rested : Device → Device
rested d = device (core ReadMode false false no_operation d.core.suspended) NONE-BEGUN

-- ---- states in range
-- a pending operation: a kind the part has, no more time than its table time, an address of the part, data that fits
unfoldable pub valid_operation : Row → Operation → Bool
valid_operation r o =
    pick (has_command r o.kind)
    (pick (ltb (time_of r o.kind) o.left) false
    (pick (ltb o.address r.cells) (fits_in r.width o.«data») false))
    false

-- read mode
abbrev pub reads : Mode → Bool
reads ReadMode = true
reads Identification = false

-- what can be suspended: a sector or block erase, on a part that says so
unfoldable pub suspendable : Row → ℕ → Bool
suspendable r c = pick r.suspends (pick (eqb c SECTOR) true (eqb c BLOCK)) false

-- what a suspended erase bars: any erase, and a program into its range
unfoldable pub barred : Row → Operation → ℕ → ℕ → Bool
barred r s c a = pick (pending s) (pick (eqb c PROGRAM) (holdsb (cells_of r s) a) true) false

-- what runs: with no completion 0 µs old, in read mode, a valid operation
unfoldable pub runs_in_range : Row → Core → Bool
runs_in_range r k = pick k.recent false (pick (reads k.mode) (valid_operation r k.running) false)

-- what is suspended: one that can be, a valid operation
unfoldable pub valid_suspended : Row → Operation → Bool
valid_suspended r s = pick (suspendable r s.kind) (valid_operation r s) false

-- such a one, beside which nothing runs that it bars
unfoldable pub held_in_range : Row → Core → Bool
held_in_range r k =
    pick (valid_suspended r k.suspended)
    (pick (busy k) (not (barred r k.suspended k.running.kind k.running.address)) true)
    false

-- what runs and what is suspended, each where there is one
unfoldable pub core_in_range : Row → Core → Bool
core_in_range r k = pick (pick (busy k) (runs_in_range r k) true) (pick (held k) (held_in_range r k) true) false

-- a step within the seven stages; with an operation pending no sequence
unfoldable pub stage_in_range : Core → ℕ → Bool
stage_in_range k s = pick (busy k) (eqb s NONE-BEGUN) (leb s SECOND-55H)

unfoldable pub device_in_range : Row → Device → Bool
device_in_range r d = pick (stage_in_range d.core d.stage) (core_in_range r d.core) false

-- ---- idle: read mode with no sequence begun, nothing running, nothing suspended and no completion 0 µs old
unfoldable pub core_idle : Core → Bool
core_idle k = pick (busy k) false (pick (held k) false (pick k.recent false (reads k.mode)))

unfoldable pub idle : Device → Bool
idle d = pick (eqb d.stage NONE-BEGUN) (core_idle d.core) false
