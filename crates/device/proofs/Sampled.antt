-- WP# is sampled at the last write: what that write leaves and what it starts go by one test of its own level.
use Prim.Native.Nat.{ℕ}
use mathlib.Core.Path.{◌≡◌, refl, sym}
use mathlib.Core.Bool.{Bool, true, false}
use mathlib.Core.List.{List, [], ◌∷◌}
use Rattle.parts.specs.Pick.{pick}
use Rattle.parts.proofs.Every.{apart}
use Rattle.parts.specs.declared.table.Row.{Row}
use Rattle.commands.specs.declared.effect.Mode.TheVariants.{ReadMode}
use Rattle.commands.specs.declared.effect.Effect.TheVariants.{Starts}
use Rattle.device.specs.declared.state.Core.{Core}
use Rattle.device.specs.declared.state.Operation.{Operation}
use Rattle.device.specs.Device.{in_mode, busy_with, barred}
use Rattle.device.specs.Sequence.{ignored, passed_over, new_operation, core_after}
use Rattle.device.specs.Trace.{effect_starts}

-- two choices by one test
pub twice : {A B : Type 0} (P : A → B → Type 0) (b : Bool) (x y : A) (u v : B) → (b ≡ true → P x u) → (b ≡ false → P y v) → P (pick b x y) (pick b u v)
twice P true x y u v f g = f refl
twice P false x y u v f g = g refl

-- A command's last write: where it is passed over, at the level that it carries, it returns to read mode and starts nothing; else the operation runs.
pub sampled : (P : Core → List Operation → Type 0) (r : Row) (k : Core) (wp : Bool) (a x c : ℕ)
    → (passed_over r k wp c a ≡ true → P (in_mode k ReadMode) [])
    → (passed_over r k wp c a ≡ false → P (busy_with k (new_operation r c a x)) (new_operation r c a x ∷ []))
    → P (core_after r k wp a x (Starts c)) (effect_starts r k wp a x (Starts c))
sampled P r k true a x c f g = twice P (passed_over r k true c a) _ _ _ _ f g
sampled P r k false a x c f g = twice P (passed_over r k false c a) _ _ _ _ f g

-- A command that is not passed over is neither barred nor protected from.
pub heeded : (r : Row) (k : Core) (wp : Bool) (c a : ℕ) → passed_over r k wp c a ≡ false → (barred r k.suspended c a ≡ false) × (ignored r wp c a ≡ false)
unfolding passed_over
heeded r k wp c a = by (barred r k.suspended c a)
  where
    by : (b : Bool) → pick b true (ignored r wp c a) ≡ false → (b ≡ false) × (ignored r wp c a ≡ false)
    by true e = apart (sym e)
    by false e = (refl, e)
