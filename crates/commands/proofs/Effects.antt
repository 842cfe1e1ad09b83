-- What can follow from a write: a stage within the seven, a command that the part has, or a mode. One test over the lines of the table of commands.
use Prim.Native.Nat.{ℕ, ◌≤◌}
use mathlib.Core.Path.{◌≡◌, refl}
use mathlib.Core.Bool.{Bool, true, false}
use mathlib.Core.List.{List, [], ◌∷◌}
use native.Mathlib.Omega.{arith}
use borrow.Author.Tests.{ltb-true}
use lib.Dec.{eqb, ltb}
use Rattle.parts.specs.Pick.{pick}
use Rattle.parts.specs.Span.{has_blocks}
use Rattle.parts.specs.Time.{has_command}
use Rattle.parts.specs.declared.table.Row.{Row}
use Rattle.parts.proofs.Every.{both, every, split}
use Rattle.commands.specs.declared.effect.Mode.{Mode}
use Rattle.commands.specs.declared.effect.Effect.{Effect}
use Rattle.commands.specs.declared.effect.Effect.TheVariants.{Goes, Starts, Enters}
use Rattle.commands.specs.Commands.{Rule, broken, is_wanted, first_met, commands, effect_of}

-- an effect that writes to the part can have
abbrev possible : Row → Effect → Bool
possible r (Goes s) = ltb s 7
possible r (Starts k) = has_command r k
possible r (Enters m) = true

abbrev all_possible : Row → List Rule → Bool
all_possible r us = every (λ (u : Rule). possible r u.effect) us

-- the test
table-possible : (r : Row) → all_possible r (commands r) ≡ true
unfolding has_command
table-possible r = split (λ (e : Effect). pick (possible r e) true false ≡ true) (has_blocks r) (Starts 2) broken (λ h. rw h) (λ _. refl)

met-possible : (r : Row) (us : List Rule) (s a x : ℕ) → all_possible r us ≡ true → possible r (first_met r us s a x) ≡ true
met-possible r [] s a x t = refl
met-possible r (u ∷ us) s a x t =
    let w = both (possible r u.effect) (all_possible r us) t in
    split (λ (e : Effect). possible r e ≡ true) (pick (eqb s u.stage) (is_wanted r a x u.wanted) false) u.effect (first_met r us s a x) (λ _. w.0) (λ _. met-possible r us s a x w.1)

pub effect_is : (P : Effect → Type 0) (r : Row) (s a x : ℕ)
    → ((n : ℕ) → n ≤ 6 → P (Goes n)) → ((k : ℕ) → has_command r k ≡ true → P (Starts k)) → ((m : Mode) → P (Enters m)) → P (effect_of r s a x)
unfolding effect_of
effect_is P r s a x goes starts enters = by (effect_of r s a x) (met-possible r (commands r) s a x (table-possible r))
  where
    by : (e : Effect) → possible r e ≡ true → P e
    by (Goes n) t = goes n (let h = ltb-true n 7 t in omega arith)
    by (Starts k) t = starts k t
    by (Enters m) t = enters m
