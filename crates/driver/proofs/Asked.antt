-- What a command, and a driver's start, that is not refused says of what was asked.
use Prim.Native.Nat.{ℕ, ◌≤◌, ◌<◌}
use mathlib.Core.Path.{◌≡◌, refl, ap, ◌∙◌}
use mathlib.Core.Bool.{true}
use native.Mathlib.Omega.{arith}
use borrow.Author.Tests.{ltb-true, lt-ltb, eqb-true, eqb-false, eq-eqb, ne_eqb}
use lib.Dec.{eqb, ltb}
use Rattle.parts.specs.Pick.{pick}
use Rattle.parts.specs.Width.{fits_in}
use Rattle.parts.specs.Table.{row_of, part_refusal, found_of}
use Rattle.parts.specs.Time.{has_command}
use Rattle.parts.specs.declared.table.Row.{Row}
use Rattle.parts.specs.Table.{Found}
use Rattle.parts.proofs.Every.{split}
use Rattle.parts.proofs.Rounding.{interval, interval-is}
use Rattle.parts.proofs.Refused.{zero_left, none_first}
use Rattle.driver.specs.Refusals.{data_refusal, target_refusal, command_on, command_refusal, start_on, start_refusal}

-- ---- what is asked of a row
pub record Target (r : Row) (command a x : ℕ) : Type 0 where
  pub has : has_command r command ≡ true
  pub there : (command ≡ 3 → ⊥) → a < r.cells
  pub fits : command ≡ 0 → fits_in r.width x ≡ true

pub target : (r : Row) (command a x : ℕ) → target_refusal r command a x ≡ 0 → Target r command a x
unfolding target_refusal data_refusal
target r command a x e = record { has = cut.0; there = λ n. ltb-true a r.cells (rest n).0; fits = λ z. (zero_left (fits_in r.width x) 0 3 (word z)).0 }
  where
    cut : (has_command r command ≡ true) × (◌≡◌ {A = ℕ} (pick (eqb command 3) 0 (pick (ltb a r.cells) (data_refusal r command x) 3)) 0)
    cut = zero_left _ _ 13 e

    rest : (command ≡ 3 → ⊥) → (ltb a r.cells ≡ true) × (data_refusal r command x ≡ 0)
    rest n = zero_left _ _ 2 (rw (ne_eqb command 3 n) at cut.1)

    word : command ≡ 0 → ◌≡◌ {A = ℕ} (pick (fits_in r.width x) 0 4) 0
    word z = rw (eq-eqb command 0 z) at (rest (λ t. omega arith)).1

pub targets : (r : Row) (command a x : ℕ) → Target r command a x → target_refusal r command a x ≡ 0
unfolding target_refusal data_refusal
targets r command a x w =
    rw w.has
    (split Zero (eqb command 3) 0 _ (λ _. refl)
    (λ n. rw (lt-ltb a r.cells (w.there (eqb-false command 3 n)))
    (split Zero (eqb command 0) _ 0 (λ z. rw (w.fits (eqb-true command 0 z))) (λ _. refl))))
  where
    Zero : ℕ → Type 0
    Zero n = n ≡ 0

-- ---- of a command's writes
pub record Asked (part command a x : ℕ) : Type 0 where
  pub known : part_refusal part ≡ 0
  pub target : Target (row_of part) command a x

pub asked : (part command a x : ℕ) → command_refusal part command a x ≡ 0 → Asked part command a x
unfolding command_refusal
asked part command a x e = let f = none_first _ _ e in record { known = f.0; target = target (row_of part) command a x f.1 }

pub asking : (part command a x : ℕ) → Asked part command a x → command_refusal part command a x ≡ 0
unfolding command_refusal
asking part command a x w = rw w.known (targets (row_of part) command a x w.target)

-- ---- of a start
pub record Begun (part command a x p : ℕ) : Type 0 where
  pub asked : Asked part command a x
  pub some : 0 < p
  pub most : p ≤ 1000

pub begun : (part command a x p : ℕ) → start_refusal part command a x p ≡ 0 → Begun part command a x p
unfolding start_refusal
begun part command a x p e =
    let f = none_first _ _ e in
    let g = zero_left _ _ 9 f.1 in
    let i = interval p g.0 in
    record { asked = record { known = f.0; target = target (row_of part) command a x g.1 }; some = i.0; most = i.1 }

pub beginning : (part command a x p : ℕ) → Begun part command a x p → start_refusal part command a x p ≡ 0
unfolding start_refusal
beginning part command a x p w =
    rw (w.asked.known, interval-is p w.some w.most) (targets (row_of part) command a x w.asked.target)
