-- Reads told by their place in a list of cycles on a chip, and not by their µs: after an operation has started come its polls, up to the first that leaves
-- the chip at rest; the next read is the confirming one; every other read is a scan.
use Rattle.std.specs.Prelude.{ℕ, ◌+◌, Bool, true, false, List, [], ◌∷◌}
use Rattle.parts.specs.Pick.{pick}
use Rattle.device.specs.declared.state.Operation.{Operation}
use Rattle.device.specs.declared.cycle.Action.{Action}
use Rattle.device.specs.declared.cycle.Action.TheVariants.{Read, Write, Idle, Cut}
use Rattle.device.specs.declared.cycle.Cycle.{Cycle}
use Rattle.device.specs.Device.{busy}
use Rattle.device.specs.Cycle.{Chip}
use Rattle.device.specs.Trace.{after, started_by}

abbrev pub is_read : Action → Bool
is_read (Read a) = true
is_read (Write a x) = false
is_read Idle = false
is_read (Cut s) = false

-- what the next read is
pub data Due : Type 0 where
  Scans : Due
  Polls : Due
  Confirms : Due

-- an operation that starts is polled
abbrev pub begins : Due → List Operation → Due
begins u [] = u
begins u (o ∷ os) = Polls

-- a read of each kind, the chip still busy or at rest after it
abbrev pub passes : Due → Bool → Due
passes Scans b = Scans
passes Polls b = pick b Polls Confirms
passes Confirms b = Scans

-- what is due after a cycle
abbrev pub due_after : ℕ → Due → Chip → Cycle → Action → Due
due_after part u h c (Read a) = passes u (busy (after part h c).device.core)
due_after part u h c (Write a x) = begins u (started_by part h c)
due_after part u h c Idle = u
due_after part u h c (Cut s) = Scans

-- what a cycle is: the read that is due, or no read
pub data Place : Type 0 where
  ARead : Due → Place
  NoRead : Place

abbrev pub read_as : Due → Action → Place
read_as u a = pick (is_read a) (ARead u) NoRead

-- each cycle of a list
abbrev pub places_in : ℕ → Due → Chip → List Cycle → List Place
places_in part u h [] = []
places_in part u h (c ∷ cs) = read_as u c.action ∷ places_in part (due_after part u h c c.action) (after part h c) cs

-- how many are polls, scans, confirming reads
abbrev pub one : Due → Due → ℕ
one Scans Scans = 1
one Scans Polls = 0
one Scans Confirms = 0
one Polls Scans = 0
one Polls Polls = 1
one Polls Confirms = 0
one Confirms Scans = 0
one Confirms Polls = 0
one Confirms Confirms = 1

abbrev pub counting : Due → Place → ℕ
counting u (ARead v) = one u v
counting u NoRead = 0

abbrev pub how_many : Due → List Place → ℕ
how_many u [] = 0
how_many u (p ∷ ps) = counting u p + how_many u ps
