-- Lists of bus cycles: what they leave, and the operations that they start.
use Rattle.std.specs.Prelude.{ℕ, Bool, true, false, List, [], ◌∷◌, ◌++◌, eqb, length}
use Rattle.parts.specs.Pick.{pick}
use Rattle.parts.specs.Table.{row_of}
use Rattle.parts.specs.declared.table.Row.{Row}
use Rattle.device.specs.declared.state.Operation.{Operation}
use Rattle.device.specs.declared.state.Core.{Core}
use Rattle.device.specs.declared.state.Device.{Device}
use Rattle.commands.specs.declared.effect.Effect.{Effect}
use Rattle.commands.specs.declared.effect.Effect.TheVariants.{Goes, Starts, Enters}
use Rattle.device.specs.declared.cycle.Action.{Action}
use Rattle.device.specs.declared.cycle.Action.TheVariants.{Read, Write, Idle, Cut}
use Rattle.device.specs.declared.cycle.Cycle.{Cycle}
use Rattle.device.specs.Device.{pending, busy}
use Rattle.device.specs.Operation.{complete_on}
use Rattle.commands.specs.Commands.{effect_of}
use Rattle.device.specs.Sequence.{passed_over, new_operation, resuming}
use Rattle.device.specs.Cycle.{Chip, chip, Outcome, cycle_refusal, after_time, cycle_of}

-- the chip that an outcome leaves
abbrev pub leaves : Outcome → Chip
leaves o = chip o.cells o.reply.device

-- the chip after a cycle, and after a list of them
unfoldable pub after : ℕ → Chip → Cycle → Chip
after part h c = leaves (cycle_of part h.cells h.device c)

abbrev pub play : ℕ → Chip → List Cycle → Chip
play part h [] = h
play part h (c ∷ cs) = play part (after part h c) cs

-- the operation that an effect starts: a command's that is not passed over
abbrev pub effect_starts : Row → Core → Bool → ℕ → ℕ → Effect → List Operation
effect_starts r k wp a x (Goes s) = []
effect_starts r k wp a x (Starts c) = pick (passed_over r k wp c a) [] (new_operation r c a x ∷ [])
effect_starts r k wp a x (Enters m) = []

-- the operation that an action starts: that of a write's effect; none while busy, and none by a resume
abbrev pub action_starts : Row → Device → Bool → Action → List Operation
action_starts r d wp (Read a) = []
action_starts r d wp (Write a x) =
    pick (busy d.core) []
    (pick (resuming d.core d.stage x) []
    (effect_starts r d.core wp a x (effect_of r d.stage a x)))
action_starts r d wp Idle = []
action_starts r d wp (Cut s) = []

-- the operation that a cycle starts, once its time has passed
unfoldable pub started_by : ℕ → Chip → Cycle → List Operation
started_by part h c =
    pick (eqb (cycle_refusal part (length h.cells) h.device c.action) 0)
    (action_starts (row_of part) (after_time (row_of part) h c.elapsed).device c.wp c.action)
    []

-- the operations that a list of cycles starts, in order
abbrev pub started_in : ℕ → Chip → List Cycle → List Operation
started_in part h [] = []
started_in part h (c ∷ cs) = started_by part h c ++ started_in part (after part h c) cs

-- each of the operations
abbrev pub All : (Operation → Type 0) → List Operation → Type 0
All P [] = Unit {0}
All P (o ∷ os) = P o × All P os

-- operations performed in order
abbrev pub complete_all : Row → List Operation → List ℕ → List ℕ
complete_all r [] cells = cells
complete_all r (o ∷ os) cells = complete_all r os (complete_on r o cells)

-- the cells as they will be: what runs done, then what is suspended
abbrev pub finish : Row → Operation → List ℕ → List ℕ
finish r o cells = pick (pending o) (complete_on r o cells) cells

unfoldable pub coming : Row → Chip → List ℕ
coming r h = finish r h.device.core.suspended (finish r h.device.core.running h.cells)

-- no power is cut
abbrev pub uncut_action : Action → Bool
uncut_action (Read a) = true
uncut_action (Write a x) = true
uncut_action Idle = true
uncut_action (Cut s) = false

abbrev pub uncut : List Cycle → Bool
uncut [] = true
uncut (c ∷ cs) = pick (uncut_action c.action) (uncut cs) false
