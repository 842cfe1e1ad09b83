-- Document 02, Wish 2: what the laws say of an erase that is suspended.
use Rattle.std.specs.Prelude.{ℕ, ◌+◌, ◌*◌, ◌≡◌, Bool, true, false, List, [], ◌∷◌, eqb, length, get_or}
use Rattle.parts.specs.Names.{BIT-7, BIT-6}
use Rattle.parts.specs.Pick.{pick}
use Rattle.parts.specs.Span.{holdsb}
use Rattle.parts.specs.Table.{row_of}
use Rattle.parts.specs.declared.table.Row.{Row}
use Rattle.device.specs.declared.state.Operation.{Operation}
use Rattle.device.specs.declared.state.Core.{Core}
use Rattle.device.specs.declared.state.Device.{Device}
use Rattle.device.specs.declared.cycle.Action.{Action}
use Rattle.device.specs.declared.cycle.Action.TheVariants.{Read, Write, Idle, Cut}
use Rattle.device.specs.declared.cycle.Cycle.{Cycle}
use Rattle.device.specs.Device.{toggled, with_running, busy, held}
use Rattle.device.specs.Operation.{cells_of}
use Rattle.commands.specs.Commands.{effect_of}
use Rattle.device.specs.Sequence.{ignored, passed_over, resuming, after_effect, written_of}
use Rattle.device.specs.Cycle.{Chip, cycle_refusal, after_time, bit7, bit6, mode_shows, outputs_of, showing, read_of, cut_short, cut_of}
use Rattle.device.specs.Trace.{after, All}

-- 30H resumes what is suspended, where nothing runs and no sequence is begun; nothing else does
abbrev pub resumes_by : Device → Action → Bool
resumes_by d (Read a) = false
resumes_by d (Write a x) = pick (busy d.core) false (resuming d.core d.stage x)
resumes_by d Idle = false
resumes_by d (Cut s) = false

-- a cycle that is not refused does so once its time has passed
unfoldable pub resumes : ℕ → Chip → Cycle → Bool
resumes part h c =
    pick (eqb (cycle_refusal part (length h.cells) h.device c.action) 0)
    (resumes_by (after_time (row_of part) h c.elapsed).device c.action)
    false

-- none of the cycles resumes it
abbrev pub unresumed : ℕ → Chip → List Cycle → Bool
unresumed part h [] = true
unresumed part h (c ∷ cs) = pick (resumes part h c) false (unresumed part (after part h c) cs)

-- a program outside the cells of a suspended erase
abbrev pub ProgramBeside : Row → Operation → Operation → Type 0
ProgramBeside r s o = (o.kind ≡ 0) × (holdsb (cells_of r s) o.address ≡ false)

-- what runs, where something does, is not at cell i; and an operation is not
abbrev pub RunsElsewhere : ℕ → Core → Type 0
RunsElsewhere i k = busy k ≡ true → k.running.address ≡ i → ⊥

abbrev pub Elsewhere : ℕ → Operation → Type 0
Elsewhere i o = o.address ≡ i → ⊥

-- what holds from a chip h on which an erase is suspended to a chip k, the operations os being started between them
pub record Stands (r : Row) (h k : Chip) (os : List Operation) : Type 0 where
  -- the erase is suspended as it was, with the time that was left
  pub same : k.device.core.suspended ≡ h.device.core.suspended
  -- no cell of its range has changed
  pub cell : (i : ℕ) → holdsb (cells_of r h.device.core.suspended) i ≡ true → get_or k.cells i 0 ≡ get_or h.cells i 0
  -- what was started is programs outside it
  pub programs : All (ProgramBeside r h.device.core.suspended) os
  -- a cell at which no program ran or was started is as it was; and none runs there now
  pub others : (i : ℕ) → RunsElsewhere i h.device.core → All (Elsewhere i) os → (get_or k.cells i 0 ≡ get_or h.cells i 0) × RunsElsewhere i k.device.core

-- a device on which all is as it was before the wish
pub record AsBefore (r : Row) (d : Device) : Type 0 where
  -- nothing is suspended
  pub free : held d.core ≡ false
  -- a read shows no bit 2, and turns none over
  pub read : (cells : List ℕ) (a : ℕ) → let k = d.core in
      read_of r cells k a
      ≡ pick (busy k) (showing (bit7 k.running * BIT-7 + bit6 k.running * BIT-6) (with_running k (toggled k.running)))
      (showing (outputs_of r.width k.recent (mode_shows r cells k.mode a)) k)
  -- a write does nothing while busy, else it has its effect
  pub written : (wp : Bool) (a x : ℕ) → written_of r d wp a x ≡ pick (busy d.core) d (after_effect r d.core wp a x (effect_of r d.stage a x))
  -- a command is passed over only where WP# protects from it
  pub passed : (wp : Bool) (c a : ℕ) → passed_over r d.core wp c a ≡ ignored r wp c a
  -- a power cut cuts short what runs
  pub cut : (cells : List ℕ) (s : ℕ) → cut_of r cells d.core s ≡ cut_short r d.core.running s cells
