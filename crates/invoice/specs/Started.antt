-- Of sent cycles: their µs added up, how many of their reads show the value of a cell, the last one and what it shows; and of the operations that they start,
-- how many are of a kind, and their table times added up.
use Rattle.std.specs.Prelude.{ℕ, ◌+◌, Bool, false, List, [], ◌∷◌, map, eqb, get_or}
use Rattle.parts.specs.Names.{NO-CYCLE, A-READ}
use Rattle.parts.specs.Pick.{pick, ◌when◌, ◌else◌}
use Rattle.parts.specs.Width.{value_of}
use Rattle.parts.specs.Table.{row_of}
use Rattle.parts.specs.Time.{time_of}
use Rattle.parts.specs.declared.table.Row.{Row}
use Rattle.device.specs.declared.state.Operation.{Operation}
use Rattle.device.specs.declared.cycle.Action.{Action}
use Rattle.device.specs.declared.cycle.Action.TheVariants.{Read, Write, Idle, Cut}
use Rattle.device.specs.declared.cycle.Cycle.{Cycle}
use Rattle.device.specs.Cycle.{cycle, Chip}
use Rattle.device.specs.Trace.{after}
use Rattle.driver.specs.Talk.{shows}
use Rattle.driver.specs.Reads.{Due, due_after, read_as, counting}
use Rattle.job.specs.declared.run.Last.{Last}
use Rattle.job.specs.Run.{Sent}

-- the bus cycles of a list of sent ones, without their purposes
abbrev pub cycles_in : List Sent → List Cycle
cycles_in L = map (λ (s : Sent). s.cycle) L

-- the µs of cycles added up
abbrev pub time_in : List Cycle → ℕ
time_in [] = 0
time_in (c ∷ cs) = c.elapsed + time_in cs

-- ---- what reads show on the chip h
-- the value of its cell, as the cell is once the read's time has passed
abbrev pub shows_cell : ℕ → Chip → Cycle → Action → Bool
shows_cell part h c (Read a) = eqb (shows part h c) (value_of (row_of part).width (get_or (after part h c).cells a 0))
shows_cell part h c (Write a x) = false
shows_cell part h c Idle = false
shows_cell part h c (Cut s) = false

-- how many of a list, from h on, where v is due, are u by their places and show it
abbrev pub showing : ℕ → Due → Due → Chip → List Cycle → ℕ
showing part u v h [] = 0
showing part u v h (c ∷ cs) =
    pick (shows_cell part h c c.action) (counting u (read_as v c.action)) 0 + showing part u (due_after part v h c c.action) (after part h c) cs

-- ---- the last one, if any
abbrev pub last_in : List Cycle → List Cycle
last_in [] = []
last_in (c ∷ []) = c ∷ []
last_in (c ∷ (d ∷ cs)) = last_in (d ∷ cs)

-- what it shows on the chip that those before it leave, from h on; 0 for none
abbrev pub last_shown : ℕ → Chip → List Cycle → ℕ
last_shown part h [] = 0
last_shown part h (c ∷ []) = shows part h c
last_shown part h (c ∷ (d ∷ cs)) = last_shown part (after part h c) (d ∷ cs)

-- the cycle that a report tells as the last: none, a read or a write
abbrev pub told_last : Last → List Cycle
told_last l =
    [] when eqb l.kind NO-CYCLE
    else (cycle l.elapsed l.wp (Read l.address) ∷ []) when eqb l.kind A-READ
    else (cycle l.elapsed l.wp (Write l.address l.«data») ∷ [])

-- how many are of kind k, a command
abbrev pub many : ℕ → List Operation → ℕ
many k [] = 0
many k (o ∷ os) = pick (eqb o.kind k) 1 0 + many k os

-- their table times added up
abbrev pub table_time : Row → List Operation → ℕ
table_time r [] = 0
table_time r (o ∷ os) = time_of r o.kind + table_time r os
