-- Demand 2. Model and driver agree with the data sheets as document 01 states them: each cycle gives the stated value,
-- state and cells; each command that the driver issues to an idle, unprotected chip starts that operation and no other. And
-- the driver answers after a stated number of cycles, whatever the chip replies, and by a number that says what was replied;
-- and takes of the value that it is given what document 01 says.
use Rattle.std.specs.Prelude.{ℕ, ◌+◌, ◌-◌, ◌*◌, ◌%◌, ◌^◌, ◌≤◌, ◌<◌, ◌≡◌, Bool, true, false, List, [], ◌∷◌, eqb, leb, length, get_or, take, replicate}
use Rattle.std.specs.Int.Bits.{bit_and}
use Rattle.parts.specs.Names.{PROGRAM}
use Rattle.parts.specs.Pick.{pick}
use Rattle.parts.specs.Width.{value_of}
use Rattle.parts.specs.Table.{row_of, part_refusal}
use Rattle.parts.specs.Time.{polls_of}
use Rattle.device.specs.declared.state.Device.{Device}
use Rattle.device.specs.declared.state.Operation.{Operation}
use Rattle.commands.specs.declared.effect.Mode.TheVariants.{ReadMode}
use Rattle.device.specs.Device.{operation, no_operation, core, busy_with, busy, held, device, rested, suspendable, device_in_range, idle}
use Rattle.device.specs.Sequence.{ignored}
use Rattle.device.specs.declared.cycle.Action.{Action}
use Rattle.device.specs.declared.cycle.Action.TheVariants.{Read, Write}
use Rattle.device.specs.declared.cycle.Cycle.{Cycle}
use Rattle.device.specs.Cycle.{cycle, Chip, chip, after_time, veils, cycle_refusal, acted_of}
use Rattle.device.specs.Trace.{after, play, started_in, uncut_action, uncut}
use Rattle.device.specs.Recent.{DifferButSeven, recent_once}
use Rattle.device.specs.Suspended.{resumes, unresumed, Stands, AsBefore}
use Rattle.driver.specs.declared.machine.Phase.{Phase}
use Rattle.driver.specs.declared.machine.Phase.TheVariants.{Writing, Polling, Confirming, Done, GaveUp, Differs}
use Rattle.driver.specs.declared.machine.Step.{Step}
use Rattle.driver.specs.Writes.{writes_of, write_count}
use Rattle.driver.specs.Machine.{address_of, bit_seven, value_wanted, begun, moved, confirm_after, ended, step_of}
use Rattle.driver.specs.Talk.{Stepping, write_cycles, operation_cycles, operation_of, completed, shown_after, shows, Told, told, talk, heard}
use Rattle.driver.specs.Endings.{MustRaise, MustRaiseSeven, Ended, Meaning}
use Rattle.bus.specs.Cycle.{high, device_numbers}
use Rattle.demands.specs.Calls.{BusCall, on_bus, bus_left, refused_cycle, WritesCall, to_write, writes_told, refused_writes, StartCall, ToStart, to_start, refused_start, StepCall, to_step, AsPromised}
use Rattle.numbers.specs.Machine.{driver_of, stepped_of}
use Rattle.numbers.specs.Loop.{told_numbers, loop, heard_numbers, loop_hearing}
use Rattle.demands.specs.Controller.{StationBusCall, on_station, station_left, meant, StationStartCall}

-- a chip of the part's number of cells that is idle, at a WP# level that does not protect what the command is aimed at
pub record IdleUnprotected (part command address : ℕ) (cells : List ℕ) (d : Device) (wp : Bool) : Type 0 where
  pub whole : length cells ≡ (row_of part).cells
  pub rests : idle d ≡ true
  pub heeded : ignored (row_of part) wp command address ≡ false

-- ---- a driver, by any function that the promise of its step allows
-- its start was not refused, and it is stepped on by a function as promised, whatever word was read before
pub record StartedDriver : Type 0 where
  pub start : StartCall
  pub accepted : refused_start (to_start start.given) ≡ 0
  pub steps : Stepping
  pub promised : AsPromised steps
  pub read : ℕ
  pub word : read < 2 ^ 16

abbrev pub start_asked : StartedDriver → ToStart
start_asked s = to_start s.start.given

-- its first step, which names the first cycle
abbrev pub first_named : StartedDriver → Step
first_named s = s.steps s.start.back.driver s.read

-- the operation asked for
abbrev pub operation_asked : ToStart → Operation
operation_asked g = operation_of (row_of g.part) g.command g.address g.word

-- N
abbrev pub polls : ToStart → ℕ
polls g = polls_of (row_of g.part) g.command g.p

-- the cycles that it sends at most: its writes, 6 or for a program 4, 2N polls and one confirming read
abbrev pub cycles_at_most : ToStart → ℕ
cycles_at_most g = write_count g.command + polls g * 2 + 1

-- and where it polls N times
abbrev pub cycles_after_n : ToStart → ℕ
cycles_after_n g = write_count g.command + polls g + 1

-- an idle, unprotected chip of its part
pub record ChipFor (g : ToStart) : Type 0 where
  pub cells : List ℕ
  pub device : Device
  pub wp : Bool
  pub ready : IdleUnprotected g.part g.command g.address cells device wp

-- the value that it finds at its address
abbrev pub old_value : (g : ToStart) → ChipFor g → ℕ
old_value g h = value_of (row_of g.part).width (get_or h.cells g.address 0)

-- each cycle that it names is sent to that chip and the reply given to its next step: at most n cycles
abbrev pub talked : (s : StartedDriver) → ChipFor (start_asked s) → ℕ → Told
talked s h n = talk s.steps (start_asked s).part h.wp n (first_named s) (chip h.cells h.device)

-- an end after so many polls, Done 0, GaveUp 11, Differs 12: the writes, these polls and, unless it gave up, one confirming
-- read are sent; the operation has completed on the cells, the device is idle again; the polls are in the last step
abbrev pub ended_with : (g : ToStart) → ChipFor g → ℕ → Phase → Told
ended_with g h m f =
    told
    (operation_cycles (row_of g.part) h.wp g.command g.address g.word g.p m f)
    (chip (completed (row_of g.part) g.command g.address g.word h.cells) (rested h.device))
    (ended (moved (begun g.part g.command g.address g.word g.p) Polling m) f)

-- the last cycle that a driver named was no read, or it has ended
abbrev pub no_read : Phase → ℕ → Bool
no_read Writing n = true
no_read Polling n = eqb n 0
no_read Confirming n = false
no_read Done n = true
no_read GaveUp n = true
no_read Differs n = true

-- the chip after its writes and n polls; the n-th poll is the read of its address that follows n - 1
abbrev pub after_polls : (g : ToStart) → ChipFor g → ℕ → Chip
after_polls g h n =
    play g.part
    (play g.part (chip h.cells h.device) (write_cycles h.wp (writes_of (row_of g.part) g.command g.address g.word)))
    (replicate n (cycle g.p h.wp (Read (address_of g.command g.address))))

-- what a read of its address shows on a chip, some time after the last cycle
abbrev pub read_after : (g : ToStart) → ChipFor g → ℕ → Chip → ℕ
read_after g h e k = shows g.part k (cycle e h.wp (Read (address_of g.command g.address)))

-- the word at its address once the operation has completed
abbrev pub word_after : (g : ToStart) → ChipFor g → ℕ
word_after g h = shown_after (row_of g.part) g.command g.address g.word h.cells

pub record Demand2 : Type 0 where
  -- Of a bus cycle that is not refused, first time passes (`after_time`), then the cycle acts (`acted_of`): that gives the
  -- value, the state and the cells.
  pub cycle-acts : (c : BusCall) → let g = on_bus c in refused_cycle g ≡ 0
      → let r = row_of g.part in
      bus_left c ≡ acted_of r (after_time r (chip g.cells g.device) g.cycle.elapsed) g.cycle.wp g.cycle.action
  -- After such a cycle a completion is 0 µs old exactly where the cycle cut no power, nothing runs, and it carried just the time
  -- that was left of what ran, or none where a completion was 0 µs old before (document 02, Wish 1).
  pub recent-exactly : (c : BusCall) → let g = on_bus c in refused_cycle g ≡ 0
      → (bus_left c).reply.device.core.recent
      ≡ pick (uncut_action g.cycle.action) (pick (busy (bus_left c).reply.device.core) false (recent_once g.device.core g.cycle.elapsed)) false
  -- A read with 0 µs passed since completion differs from one with some time passed in all the part's bits but 7, and in no
  -- other: two reads of an address from one state in which a completion is 0 µs old, whatever its stage and mode;
  pub word-comes-later : (c e : BusCall) → let g = on_bus c in let h = on_bus e in refused_cycle g ≡ 0
      → (a : ℕ) (u v : Bool) (t : ℕ) → g.device.core.recent ≡ true → g.cycle ≡ cycle 0 u (Read a)
      → h ≡ record { part = g.part; cells = g.cells; device = g.device; cycle = cycle t v (Read a) } → 0 < t
      → DifferButSeven (row_of g.part).width c.back.value e.back.value
  -- and the read in which an operation completes with just the time that was left, where no suspended erase veils the address, and
  -- the next one, some time later.
  pub word-comes-after-completion : (c e : BusCall) → let g = on_bus c in let h = on_bus e in refused_cycle g ≡ 0
      → (a s : ℕ) (u v : Bool) (t : ℕ) → veils (row_of g.part) g.device.core a ≡ false → 0 < s → g.device.core.running.left ≡ s → g.cycle ≡ cycle s u (Read a)
      → h ≡ record { part = g.part; cells = (bus_left c).cells; device = (bus_left c).reply.device; cycle = cycle t v (Read a) } → 0 < t
      → DifferButSeven (row_of g.part).width c.back.value e.back.value
  -- Document 02, Wish 2. B0H at any address while a sector or block erase runs, once the cycle's time has passed, on a part that can
  -- suspend: suspended with what is left then, read mode, no sequence begun, and no cell changed; bits 6 and 2 begin at 1.
  pub erase-suspended : (part : ℕ) (h : Chip) (e : ℕ) (wp : Bool) (a x : ℕ) → cycle_refusal part (length h.cells) h.device (Write a x) ≡ 0
      → let o = h.device.core.running in
      e < o.left → suspendable (row_of part) o.kind ≡ true → x % 256 ≡ 0xb0
      → after part h (cycle e wp (Write a x))
      ≡ chip h.cells (device (core ReadMode false false no_operation (operation o.kind o.address o.«data» (o.left - e) true)) 0)
  -- Whatever is then read, written or waited, as long as it is not resumed and no power is cut, its time stands still, no cell of
  -- its range changes, and another cell only by a program that ran or was started there (`Stands`).
  pub suspended-stands : (part : ℕ) (cs : List Cycle) (h : Chip) → held h.device.core ≡ true → uncut cs ≡ true → unresumed part h cs ≡ true
      → Stands (row_of part) h (play part h cs) (started_in part h cs)
  -- 30H at any address, with nothing running once its cycle's time has passed and no sequence begun, resumes it,
  pub resumed-by : (part : ℕ) (h : Chip) (e : ℕ) (wp : Bool) (a x : ℕ) → held h.device.core ≡ true
      → cycle_refusal part (length h.cells) h.device (Write a x) ≡ 0
      → h.device.core.running.left ≤ e → h.device.stage ≡ 0 → x % 256 ≡ 0x30 → resumes part h (cycle e wp (Write a x)) ≡ true
  -- and the cycle that does so, after any of those above, leaves the erase running with what was left when it was suspended, read
  -- mode, nothing suspended, and no cell changed but by what completes as its time passes; bits 6 and 2 begin at 1.
  pub erase-resumed : (part : ℕ) (cs : List Cycle) (h : Chip) → held h.device.core ≡ true → uncut cs ≡ true → unresumed part h cs ≡ true
      → (e : ℕ) (wp : Bool) (a : Action)
      → let k = play part h cs in
      let o = h.device.core.suspended in
      resumes part k (cycle e wp a) ≡ true
      → after part k (cycle e wp a)
      ≡ chip (after_time (row_of part) k e).cells (device (core ReadMode false false (operation o.kind o.address o.«data» o.left true) no_operation) 0)
  -- The parts that can are 7 to 10; on the others all is as it was, B0H and 30H too.
  pub parts-that-suspend : (part : ℕ) → part_refusal part ≡ 0 → (row_of part).suspends ≡ pick (leb 7 part) (leb part 10) false
  pub others-as-before : (part : ℕ) → (row_of part).suspends ≡ false → (d : Device) → device_in_range (row_of part) d ≡ true → AsBefore (row_of part) d
  -- A command's writes, sent at 0 µs, leave the cells as they were and the device running the operation asked for, with its
  -- whole table time left.
  pub writes-run : (c : WritesCall) → let g = to_write c in refused_writes g ≡ 0
      → (cells : List ℕ) (d : Device) (wp : Bool) → IdleUnprotected g.part g.command g.address cells d wp
      → play g.part (chip cells d) (write_cycles wp (take (writes_told c).count (writes_told c).writes))
      ≡ chip cells (device (busy_with d.core (operation_of (row_of g.part) g.command g.address g.word)) 0)
  -- And they start that operation and no other.
  pub writes_start : (c : WritesCall) → let g = to_write c in refused_writes g ≡ 0
      → (cells : List ℕ) (d : Device) (wp : Bool) → IdleUnprotected g.part g.command g.address cells d wp
      → started_in g.part (chip cells d) (write_cycles wp (take (writes_told c).count (writes_told c).writes))
      ≡ operation_of (row_of g.part) g.command g.address g.word ∷ []
  -- The cycles that a started driver names start the operation asked for and no other, whatever the cells hold.
  pub driver-starts : (s : StartedDriver) → let g = start_asked s in (h : ChipFor g)
      → (n : ℕ) → cycles_at_most g ≤ n
      → started_in g.part (chip h.cells h.device) (talked s h n).cycles ≡ operation_asked g ∷ []
  -- There the N-th poll shows bit 7 of the word at its address, whether or not the word's other bits are there yet; and the
  -- confirming read, which carries 1 µs, shows the word.
  pub poll-shows-bit-7 : (s : StartedDriver) → let g = start_asked s in (h : ChipFor g)
      → bit_seven (read_after g h g.p (after_polls g h (polls g - 1))) ≡ bit_seven (word_after g h)
  pub confirm-shows-word : (s : StartedDriver) → let g = start_asked s in (h : ChipFor g)
      → read_after g h 1 (after_polls g h (polls g)) ≡ word_after g h
  pub confirm-carries : confirm_after ≡ 1
  -- There, where the cell shows the wanted value once the operation has completed, it ends with 0 after N polls:
  pub driver-succeeds : (s : StartedDriver) → let g = start_asked s in (h : ChipFor g)
      → shown_after (row_of g.part) g.command g.address g.word h.cells
      ≡ value_wanted (row_of g.part) g.command g.word
      → (n : ℕ) → cycles_after_n g ≤ n → talked s h n ≡ ended_with g h (polls g) Done
  -- after every erase,
  pub driver-erases : (s : StartedDriver) → let g = start_asked s in (h : ChipFor g) → (g.command ≡ PROGRAM → ⊥)
      → (n : ℕ) → cycles_after_n g ≤ n → talked s h n ≡ ended_with g h (polls g) Done
  -- and after a program that has no bit to raise.
  pub driver-programs : (s : StartedDriver) → let g = start_asked s in (h : ChipFor g) → g.command ≡ PROGRAM
      → bit_and (old_value g h) g.word ≡ g.word
      → (n : ℕ) → cycles_after_n g ≤ n → talked s h n ≡ ended_with g h (polls g) Done
  -- A program that would have to raise bits, but not bit 7, ends with 12 after N polls,
  pub driver-differs : (s : StartedDriver) → let g = start_asked s in (h : ChipFor g) → g.command ≡ PROGRAM
      → MustRaise (old_value g h) g.word → (MustRaiseSeven (old_value g h) g.word → ⊥)
      → (n : ℕ) → cycles_after_n g ≤ n → talked s h n ≡ ended_with g h (polls g) Differs
  -- and one that would have to raise bit 7 with 11 after 2N polls.
  pub driver-gives-up : (s : StartedDriver) → let g = start_asked s in (h : ChipFor g) → g.command ≡ PROGRAM
      → MustRaiseSeven (old_value g h) g.word
      → (n : ℕ) → write_count g.command + polls g * 2 ≤ n → talked s h n ≡ ended_with g h (polls g * 2) GaveUp
  -- Whatever words are replied (f), a dead chip's constant among them, a started driver has ended after 6 + 2N + 1 cycles, 4
  -- + 2N + 1 for a program: `Ended` says how,
  pub driver-ends : (s : StartedDriver) → let g = start_asked s in (wp : Bool) (f : ℕ → ℕ) → ((i : ℕ) → f i < 2 ^ 16)
      → (n : ℕ) → cycles_at_most g ≤ n
      → Ended s.steps g.part g.command g.address g.word g.p wp (heard s.steps wp f n (first_named s))
  -- and `Meaning` what 0, 11 and 12 say of the replies, each given exactly then.
  pub driver-means : (s : StartedDriver) → let g = start_asked s in (wp : Bool) (f : ℕ → ℕ) → ((i : ℕ) → f i < 2 ^ 16)
      → (n : ℕ) → cycles_at_most g ≤ n
      → Meaning (row_of g.part) g.command g.word g.p f (heard s.steps wp f n (first_named s)).last
  -- There is a function that steps as promised: the definition.
  pub definition-is-promised : AsPromised step_of
  -- Given any two values where the last cycle named was no read, or after the end, two steps of one state are the same.
  pub value-ignored : (c e : StepCall) → let g = to_step c in let h = to_step e in
      g.driver ≡ h.driver → no_read g.driver.phase g.driver.count ≡ true → c.back ≡ e.back
  -- Given two words of the same value on the part's width, its low eight bits on eight-bit parts, two steps of one state
  -- are the same.
  pub low-bits-count : (c e : StepCall) → let g = to_step c in let h = to_step e in let w = (row_of g.driver.part).width in
      g.driver ≡ h.driver → value_of w g.read ≡ value_of w h.read → c.back ≡ e.back
  -- A C controller's bus cycle that is not refused gives the same, as numbers, on the device that its numbers mean.
  pub station-cycle-acts : (c : StationBusCall) → let g = meant (on_station c) in refused_cycle g ≡ 0
      → let r = row_of g.part in
      let o = acted_of r (after_time r (chip g.cells g.device) g.cycle.elapsed) g.cycle.wp g.cycle.action in
      station_left c ≡ record { cells = o.cells; reply = record { answer = 0; value = o.reply.value; device = device_numbers o.reply.device } }
  -- The cycles of a C controller that steps from its start on, sends each cycle that is named to the chip and gives what it
  -- was shown to the next step (`loop`), start the operation asked for and no other; and it succeeds, as a driver does.
  pub station-starts : (c : StationStartCall) → let g = to_start c.given in refused_start g ≡ 0
      → (h : ChipFor g) (wp : ℕ) → high wp ≡ h.wp → (read n : ℕ) → read < 2 ^ 16 → cycles_at_most g ≤ n
      → started_in g.part (chip h.cells h.device)
      (loop g.part wp n (stepped_of c.back.driver read) h.cells (device_numbers h.device)).cycles
      ≡ operation_asked g ∷ []
  pub station-succeeds : (c : StationStartCall) → let g = to_start c.given in refused_start g ≡ 0
      → (h : ChipFor g) (wp : ℕ) → high wp ≡ h.wp
      → shown_after (row_of g.part) g.command g.address g.word h.cells
      ≡ value_wanted (row_of g.part) g.command g.word
      → (read n : ℕ) → read < 2 ^ 16 → cycles_after_n g ≤ n
      → loop g.part wp n (stepped_of c.back.driver read) h.cells (device_numbers h.device)
      ≡ told_numbers (ended_with g h (polls g) Done)
  -- Whatever is replied, it has ended after as many cycles as a driver: what it sent, and its last step, are the numbers of
  -- one that `Ended` and `Meaning` speak of.
  pub station-ends : (c : StationStartCall) → let g = to_start c.given in refused_start g ≡ 0
      → (wp : ℕ) (f : ℕ → ℕ) → ((i : ℕ) → f i < 2 ^ 16) → (read n : ℕ) → read < 2 ^ 16 → cycles_at_most g ≤ n
      → let t = heard step_of (high wp) f n (step_of (driver_of c.back.driver) read) in
      Ended step_of g.part g.command g.address g.word g.p (high wp) t
      × (Meaning (row_of g.part) g.command g.word g.p f t.last
      × (loop_hearing wp f n (stepped_of c.back.driver read) ≡ heard_numbers t))
