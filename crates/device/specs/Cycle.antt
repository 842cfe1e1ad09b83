-- One bus cycle: refusals in order; then time passes; then the cycle acts.
use Rattle.std.specs.Prelude.{ℕ, ◌+◌, ◌-◌, ◌*◌, ◌/◌, ◌%◌, Bool, true, false, not, List, eqb, ltb, length, get_or}
use Rattle.std.specs.Int.Bits.{bit_xor}
use Rattle.parts.specs.Names.{PROGRAM, BIT-7, BIT-6, BIT-2, WRONG-CELLS, NO-ADDRESS, WIDE-DATA, BAD-STATE}
use Rattle.parts.specs.Pick.{pick, ◌unless◌, ◌else◌, ◌or_else◌}
use Rattle.parts.specs.Width.{value_of, blank_of, fits_in}
use Rattle.parts.specs.Span.{holdsb}
use Rattle.parts.specs.Table.{row_of, found_of}
use Rattle.parts.specs.declared.table.Row.{Row}
use Rattle.parts.specs.Table.{Found}
use Rattle.commands.specs.declared.effect.Mode.{Mode}
use Rattle.commands.specs.declared.effect.Mode.TheVariants.{ReadMode, Identification}
use Rattle.device.specs.declared.state.Operation.{Operation}
use Rattle.device.specs.declared.state.Core.{Core}
use Rattle.device.specs.declared.state.Device.{Device}
use Rattle.device.specs.declared.cycle.Action.{Action}
use Rattle.device.specs.declared.cycle.Action.TheVariants.{Read, Write, Idle, Cut}
use Rattle.device.specs.declared.cycle.Cycle.{Cycle}
use Rattle.device.specs.declared.cycle.Reply.{Reply}
use Rattle.device.specs.declared.cycle.Shown.{Shown}
use Rattle.device.specs.Device.{with_left, toggled, pending, with_turned, with_running, at_rest, aged_by, busy, held, reads, with_core, fresh_device, device_in_range}
use Rattle.device.specs.Operation.{cells_of, complete_on, cut_on}
use Rattle.device.specs.Sequence.{written_of}

-- a cycle: the µs since the last one, the WP# level, and what it does
abbrev pub cycle : ℕ → Bool → Action → Cycle
cycle e wp a = record { elapsed = e; wp = wp; action = a }

-- a chip: its cells and its device state
pub record Chip : Type 0 where
  pub cells : List ℕ
  pub device : Device

abbrev pub chip : List ℕ → Device → Chip
chip cells d = record { cells = cells; device = d }

-- what a cycle leaves on the cells, and its reply
pub record Outcome : Type 0 where
  pub cells : List ℕ
  pub reply : Reply

abbrev pub reply : ℕ → ℕ → Device → Reply
reply n v d = record { answer = n; value = v; device = d }

abbrev pub outcome : List ℕ → ℕ → Device → Outcome
outcome cells v d = record { cells = cells; reply = reply 0 v d }

-- ---- refusals: 3 for a read or write at or past the cells, 4 for a write of data that does not fit
unfoldable pub action_refusal : Row → Action → ℕ
action_refusal r (Read a) = NO-ADDRESS unless ltb a r.cells else 0
action_refusal r (Write a x) = NO-ADDRESS unless ltb a r.cells else WIDE-DATA unless fits_in r.width x else 0
action_refusal r Idle = 0
action_refusal r (Cut s) = 0

-- 1, 2, 5, then 3 and 4, on the state as given and on a part that was looked up
abbrev pub cycle_refusal_on : Found → ℕ → Device → Action → ℕ
cycle_refusal_on f lent d a =
    f.answer
    or_else WRONG-CELLS unless eqb lent f.row.cells
    else BAD-STATE unless device_in_range f.row d
    else action_refusal f.row a

unfoldable pub cycle_refusal : ℕ → ℕ → Device → Action → ℕ
cycle_refusal part lent d a = cycle_refusal_on (found_of part) lent d a

-- ---- time passes for what runs; for what is suspended it stands still. With e below what is left the rest is left, otherwise the operation completes on the cells, 0 µs ago where e is what was left
pub record Settled : Type 0 where
  pub cells : List ℕ
  pub core : Core

abbrev pub settled : List ℕ → Core → Settled
settled cells k = record { cells = cells; core = k }

unfoldable pub settled_of : Row → List ℕ → Core → ℕ → Settled
settled_of r cells k e =
    pick (busy k)
    (pick (ltb e k.running.left)
    (settled cells (with_running k (with_left k.running (k.running.left - e))))
    (settled (complete_on r k.running cells) (at_rest k (eqb e k.running.left))))
    (settled cells (aged_by k e))

-- the chip once time has passed
abbrev pub after_time : Row → Chip → ℕ → Chip
after_time r h e =
    let s = settled_of r h.cells h.device.core e in
    chip s.cells (with_core h.device s.core)

-- ---- reads
-- bit 7 while busy: the complement of the data's for program, 0 for erase
abbrev pub bit7 : Operation → ℕ
bit7 o = pick (eqb o.kind PROGRAM) (1 - o.«data» / BIT-7 % 2) 0

-- bit 6 while busy
abbrev pub bit6 : Operation → ℕ
bit6 o = pick o.toggle 1 0

-- bit 2 tells of an erase, at the addresses of its range, on the parts that can suspend one
unfoldable pub tells : Row → Operation → ℕ → Bool
tells r o a = pick r.suspends (pick (eqb o.kind PROGRAM) false (holdsb (cells_of r o) a)) false

-- bit 2 where it tells of an erase; elsewhere 0
abbrev pub bit2 : Core → Bool → ℕ
bit2 k t = pick t (pick k.turned 0 1) 0

-- a read that shows bit 2 turns it over
abbrev pub turned_by : Core → Bool → Core
turned_by k t = with_turned k (pick t (not k.turned) k.turned)

-- what a busy read shows
abbrev pub status : Row → Core → ℕ → ℕ
status r k a = bit7 k.running * BIT-7 + bit6 k.running * BIT-6 + bit2 k (tells r k.running a) * BIT-2

-- in identification mode address 0 shows the maker, BFH, 1 the device, others 0
abbrev pub identity : Row → ℕ → ℕ
identity r a = pick (eqb a 0) 0xbf (pick (eqb a 1) r.device 0)

-- at rest with nothing suspended: the cell's value, or the identity
abbrev pub mode_shows : Row → List ℕ → Mode → ℕ → ℕ
mode_shows r cells ReadMode a = value_of r.width (get_or cells a 0)
mode_shows r cells Identification a = identity r a

-- in read mode a suspended erase veils its range
unfoldable pub veils : Row → Core → ℕ → Bool
veils r k a = pick (held k) (pick (reads k.mode) (tells r k.suspended a) false) false

-- there bits 7 and 6 are 1, bit 2 alternates, the others are 0
abbrev pub veil : Core → ℕ
veil k = BIT-7 + BIT-6 + bit2 k true * BIT-2

-- at rest
abbrev pub shown_of : Row → List ℕ → Core → ℕ → ℕ
shown_of r cells k a = pick (veils r k a) (veil k) (mode_shows r cells k.mode a)

-- all the part's bits but 7 inverted
abbrev pub inverted : ℕ → ℕ → ℕ
inverted width v = bit_xor v (blank_of width - BIT-7)

-- what the outputs show of a value at rest: while a completion is 0 µs old it is so inverted
abbrev pub outputs_of : ℕ → Bool → ℕ → ℕ
outputs_of width n v = pick n (inverted width v) v

-- the value, and the core afterwards
abbrev pub showing : ℕ → Core → Shown
showing v k = record { value = v; core = k }

unfoldable pub read_of : Row → List ℕ → Core → ℕ → Shown
read_of r cells k a =
    pick (busy k) (showing (status r k a) (turned_by (with_running k (toggled k.running)) (tells r k.running a)))
    (showing (outputs_of r.width k.recent (shown_of r cells k a)) (turned_by k (veils r k a)))

-- ---- a power cut: the cells that it leaves, what runs and what is suspended being cut short
abbrev pub cut_short : Row → Operation → ℕ → List ℕ → List ℕ
cut_short r o s cells = pick (pending o) (cut_on r o s cells) cells

unfoldable pub cut_of : Row → List ℕ → Core → ℕ → List ℕ
cut_of r cells k s = cut_short r k.suspended s (cut_short r k.running s cells)

-- ---- the cycle acts; after any cut the device is fresh
abbrev pub acted_of : Row → Chip → Bool → Action → Outcome
acted_of r h wp (Read a) =
    let s = read_of r h.cells h.device.core a in
    outcome h.cells s.value (with_core h.device s.core)
acted_of r h wp (Write a x) = outcome h.cells 0 (written_of r h.device wp a x)
acted_of r h wp Idle = outcome h.cells 0 h.device
acted_of r h wp (Cut s) = outcome (cut_of r h.cells h.device.core s) 0 fresh_device

-- ---- the cycle
unfoldable pub accepted_of : Row → List ℕ → Device → Cycle → Outcome
accepted_of r cells d c = acted_of r (after_time r (chip cells d) c.elapsed) c.wp c.action

-- a refused cycle hands back state and cells as they came
unfoldable pub cycle_of : ℕ → List ℕ → Device → Cycle → Outcome
cycle_of part cells d c =
    pick (eqb (cycle_refusal part (length cells) d c.action) 0)
    (accepted_of (row_of part) cells d c)
    (record { cells = cells; reply = reply (cycle_refusal part (length cells) d c.action) 0 d })
