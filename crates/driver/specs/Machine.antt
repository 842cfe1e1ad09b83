-- The driver: a machine that hands its state back from each step.
use Rattle.std.specs.Prelude.{ℕ, ◌+◌, ◌*◌, ◌/◌, ◌%◌, Bool, true, false, Option, Some, None, eqb, ltb, leb}
use Rattle.parts.specs.Names.{PROGRAM, CHIP, BIT-7, BAD-STATE, GAVE-UP, DIFFERS}
use Rattle.parts.specs.Pick.{pick}
use Rattle.parts.specs.Width.{value_of, blank_of}
use Rattle.parts.specs.Table.{row_of}
use Rattle.parts.specs.Time.{polls_of}
use Rattle.parts.specs.declared.table.Row.{Row}
use Rattle.device.specs.declared.cycle.Action.TheVariants.{Read, Write}
use Rattle.commands.specs.declared.write.Write.{Write as Written}
use Rattle.driver.specs.declared.machine.Phase.{Phase}
use Rattle.driver.specs.declared.machine.Phase.TheVariants.{Writing, Polling, Confirming, Done, GaveUp, Differs}
use Rattle.driver.specs.declared.machine.Driver.{Driver}
use Rattle.driver.specs.declared.machine.Started.{Started}
use Rattle.device.specs.declared.cycle.Action.{Action}
use Rattle.driver.specs.declared.machine.Step.{Step}
use Rattle.driver.specs.Refusals.{start_refusal}
use Rattle.driver.specs.Writes.{write_count, nth_write}

abbrev pub driver : ℕ → ℕ → ℕ → ℕ → ℕ → Phase → ℕ → Driver
driver part command a x p f n = record { part = part; command = command; address = a; «data» = x; p = p; phase = f; count = n }

-- ---- what is asked
-- the operation's address: 0 for chip
abbrev pub address_of : ℕ → ℕ → ℕ
address_of command a = pick (eqb command CHIP) 0 a

-- the data that counts: an erase ignores it
abbrev pub data_of : ℕ → ℕ → ℕ
data_of command x = pick (eqb command PROGRAM) x 0

abbrev pub bit_seven : ℕ → ℕ
bit_seven x = x / BIT-7 % 2

-- bit 7 that ends the polling: the data's, or 1 for an erase
abbrev pub bit_wanted : ℕ → ℕ → ℕ
bit_wanted command x = pick (eqb command PROGRAM) (bit_seven x) 1

-- what the confirming read must equal: the data, or blank
abbrev pub value_wanted : Row → ℕ → ℕ → ℕ
value_wanted r command x = pick (eqb command PROGRAM) x (blank_of r.width)

-- ---- the start
-- a driver that has named nothing yet
abbrev pub begun : ℕ → ℕ → ℕ → ℕ → ℕ → Driver
begun part command a x p = driver part command (address_of command a) (data_of command x) p Writing 0

-- no driver: the all-zero state
abbrev pub no_driver : Driver
no_driver = driver 0 0 0 0 0 Writing 0

-- a refused start hands back the all-zero state
unfoldable pub start_of : ℕ → ℕ → ℕ → ℕ → ℕ → Started
start_of part command a x p =
    pick (eqb (start_refusal part command a x p) 0)
    (record { answer = 0; driver = begun part command a x p })
    (record { answer = start_refusal part command a x p; driver = no_driver })

-- ---- the states in range
-- it gives up after 2N polls
unfoldable pub most_polls : Row → ℕ → ℕ → ℕ
most_polls r command p = polls_of r command p * 2

-- a number from 1 to m
abbrev pub some_up_to : ℕ → ℕ → Bool
some_up_to m n = pick (ltb 0 n) (leb n m) false

-- in each phase: the writes named so far below their number w, the polls named so far at most m
abbrev pub count_fits : Phase → ℕ → ℕ → ℕ → Bool
count_fits Writing w m n = ltb n w
count_fits Polling w m n = leb n m
count_fits Confirming w m n = some_up_to m n
count_fits Done w m n = some_up_to m n
count_fits GaveUp w m n = eqb n m
count_fits Differs w m n = some_up_to m n

-- a state in range: a valid start, writes and polls within their numbers
unfoldable pub in_range : Driver → Bool
in_range d =
    pick (eqb (start_refusal d.part d.command d.address d.«data» d.p) 0)
    (count_fits d.phase (write_count d.command) (most_polls (row_of d.part) d.command d.p) d.count)
    false

-- ---- a step
abbrev pub moved : Driver → Phase → ℕ → Driver
moved d f n = driver d.part d.command d.address d.«data» d.p f n

-- what a step names: no cycle, or the µs since the last one and what the next one does
abbrev pub Next : Type 0
Next = Option (ℕ × Action)

abbrev pub step : ℕ → Driver → Next → ℕ → Step
step n d x polls = record { answer = n; driver = d; next = x; polls = polls }

-- the number of an ending: 11 polling gave up, 12 the confirming read differs
abbrev pub ending : Phase → ℕ
ending Writing = 0
ending Polling = 0
ending Confirming = 0
ending Done = 0
ending GaveUp = GAVE-UP
ending Differs = DIFFERS

-- the phases that end
abbrev pub final : Phase → Bool
final Writing = false
final Polling = false
final Confirming = false
final Done = true
final GaveUp = true
final Differs = true

-- the phases in which the writes are still being named, and those in which the confirming read has been
abbrev pub writing : Phase → Bool
writing Writing = true
writing Polling = false
writing Confirming = false
writing Done = false
writing GaveUp = false
writing Differs = false

abbrev pub confirmed : Phase → Bool
confirmed Writing = false
confirmed Polling = false
confirmed Confirming = true
confirmed Done = true
confirmed GaveUp = false
confirmed Differs = true

-- the end, which a finished driver repeats
abbrev pub ended : Driver → Phase → Step
ended d f = step (ending f) (moved d f d.count) None d.count

-- naming the last write goes on to polling
unfoldable pub after_write : Driver → Driver
after_write d = pick (ltb (d.count + 1) (write_count d.command)) (moved d Writing (d.count + 1)) (moved d Polling 0)

-- the next write, at 0 µs
abbrev pub next_write : Row → Driver → Written
next_write r d = nth_write r d.command d.address d.«data» d.count

unfoldable pub writing_of : Row → Driver → Step
writing_of r d = step 0 (after_write d) (Some (0, Write (next_write r d).address (next_write r d).«data»)) 0

-- one more poll, p µs after the last cycle
abbrev pub polls : Driver → Step
polls d = step 0 (moved d Polling (d.count + 1)) (Some (d.p, Read (address_of d.command d.address))) (d.count + 1)

-- the µs from the last poll to the confirming read: the word is there a microsecond after bit 7
unfoldable pub confirm_after : ℕ
confirm_after = 1

-- the confirming read
abbrev pub confirms : Driver → Step
confirms d = step 0 (moved d Confirming d.count) (Some (confirm_after, Read (address_of d.command d.address))) d.count

-- the reply to a poll shows the wanted bit 7
unfoldable pub matches : Driver → ℕ → Bool
matches d read = pick (ltb 0 d.count) (eqb (bit_seven read) (bit_wanted d.command d.«data»)) false

-- polls until bit 7 matches, and gives up after 2N
unfoldable pub polling_of : Row → Driver → ℕ → Step
polling_of r d read =
    pick (matches d read) (confirms d)
    (pick (ltb d.count (most_polls r d.command d.p)) (polls d)
    (ended d GaveUp))

unfoldable pub confirming_of : Row → Driver → ℕ → Step
confirming_of r d read = pick (eqb (value_of r.width read) (value_wanted r d.command d.«data»)) (ended d Done) (ended d Differs)

abbrev pub phase_of : Row → Phase → Driver → ℕ → Step
phase_of r Writing d read = writing_of r d
phase_of r Polling d read = polling_of r d read
phase_of r Confirming d read = confirming_of r d read
phase_of r Done d read = ended d Done
phase_of r GaveUp d read = ended d GaveUp
phase_of r Differs d read = ended d Differs

-- given the value last read, the next cycle or the end; 5, with the state handed back, for one out of range
unfoldable pub step_of : Driver → ℕ → Step
step_of d read = pick (in_range d) (phase_of (row_of d.part) d.phase d read) (step BAD-STATE d None 0)

-- a start and its first step at once; a refused start names nothing
unfoldable pub start_writing : ℕ → ℕ → ℕ → ℕ → ℕ → Step
start_writing part command a x p =
    pick (eqb (start_of part command a x p).answer 0) (step_of (start_of part command a x p).driver 0)
    (step (start_of part command a x p).answer (start_of part command a x p).driver None 0)
