-- A write to a device: it suspends or resumes an erase, or has an effect.
use Rattle.std.specs.Prelude.{ℕ, ◌%◌, Bool, true, false, eqb, ltb}
use Rattle.parts.specs.Names.{CHIP, NONE-BEGUN, SUSPEND-CODE, RESUME-CODE}
use Rattle.parts.specs.Pick.{pick}
use Rattle.parts.specs.Span.{holdsb, protected_of}
use Rattle.parts.specs.Time.{time_of}
use Rattle.parts.specs.declared.table.Row.{Row}
use Rattle.commands.specs.declared.effect.Mode.TheVariants.{ReadMode}
use Rattle.commands.specs.declared.effect.Effect.{Effect}
use Rattle.commands.specs.declared.effect.Effect.TheVariants.{Goes, Starts, Enters}
use Rattle.commands.specs.Commands.{effect_of}
use Rattle.device.specs.declared.state.Operation.{Operation}
use Rattle.device.specs.declared.state.Core.{Core}
use Rattle.device.specs.declared.state.Device.{Device}
use Rattle.device.specs.Device.{operation, in_mode, busy_with, suspend, resume, busy, held, suspendable, barred, device}

-- WP# low protects from program, sector and block erase at a protected address, and, on a part with the pin, from any chip erase
unfoldable pub ignored : Row → Bool → ℕ → ℕ → Bool
ignored r wp k a =
    pick wp false
    (pick (eqb k CHIP) (ltb 0 (protected_of r).count)
    (holdsb (protected_of r) a))

-- the operation that a write starts, with its table time left
abbrev pub new_operation : Row → ℕ → ℕ → ℕ → Operation
new_operation r k a x = operation k a x (time_of r k) true

-- a command is passed over where a suspended erase bars it, or WP# protects from it
unfoldable pub passed_over : Row → Core → Bool → ℕ → ℕ → Bool
passed_over r k wp c a = pick (barred r k.suspended c a) true (ignored r wp c a)

-- the core after an effect, WP# sampled at this write; a command that is passed over returns to read mode
abbrev pub core_after : Row → Core → Bool → ℕ → ℕ → Effect → Core
core_after r k wp a x (Goes s) = k
core_after r k wp a x (Starts c) = pick (passed_over r k wp c a) (in_mode k ReadMode) (busy_with k (new_operation r c a x))
core_after r k wp a x (Enters m) = in_mode k m

-- the stage after an effect: but for a sequence that goes on, none is begun
abbrev pub stage_after : Effect → ℕ
stage_after (Goes s) = s
stage_after (Starts c) = NONE-BEGUN
stage_after (Enters m) = NONE-BEGUN

abbrev pub after_effect : Row → Core → Bool → ℕ → ℕ → Effect → Device
after_effect r k wp a x e = device (core_after r k wp a x e) (stage_after e)

-- ---- document 02, Wish 2
-- suspend: B0H at any address while a sector or block erase runs on a part that can
abbrev pub suspending : Row → Core → ℕ → Bool
suspending r k x = pick (suspendable r k.running.kind) (eqb (x % 256) SUSPEND-CODE) false

-- resume: 30H at any address, suspended, nothing running, no sequence begun
abbrev pub resuming : Core → ℕ → ℕ → Bool
resuming k s x = pick (held k) (pick (eqb s NONE-BEGUN) (eqb (x % 256) RESUME-CODE) false) false

-- a write: while busy it suspends or does nothing; else it resumes, or has its effect
unfoldable pub written_of : Row → Device → Bool → ℕ → ℕ → Device
written_of r d wp a x =
    pick (busy d.core) (pick (suspending r d.core x) (device (suspend d.core) NONE-BEGUN) d)
    (pick (resuming d.core d.stage x) (device (resume d.core) NONE-BEGUN)
    (after_effect r d.core wp a x (effect_of r d.stage a x)))
