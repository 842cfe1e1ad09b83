-- What a store, and a range that was lent and has come back, leave on the cells, as an operation's completion or its cut.
use mathlib.Core.Path.{◌≡◌, refl, sym, ap, ap₂, ◌∙◌}
use mathlib.Core.List.{List, [], ◌∷◌, ◌++◌, map}
use Prim.Native.Nat.{ℕ, ◌+◌, ◌≤◌, ◌<◌}
use native.Mathlib.Omega.{arith}
use borrow.Author.Tests.{eq-eqb, ne_eqb}
use lib.ListN.{length, get_or, set, take, drop}
use lib.Bits.{bit_and, bit_or}
use Rattle.parts.specs.Width.{value_of, blank_of}
use Rattle.parts.specs.Span.{span}
use Rattle.parts.specs.declared.span.Span.{Span}
use Rattle.parts.specs.declared.table.Row.{Row}
use Rattle.device.specs.declared.state.Operation.{Operation}
use Rattle.device.specs.Operation.{cells_of, over, finished, scarred}
use Rattle.device.proofs.Over.{over-part, over-one}

-- a program has one cell
pub program-cells : (r : Row) (o : Operation) → o.kind ≡ 0 → cells_of r o ≡ span o.address 1
unfolding cells_of
program-cells r o k = simp (eq-eqb _ _ k)

pub program-there : (r : Row) (o : Operation) (n : ℕ) → o.kind ≡ 0 → (cells_of r o).first + (cells_of r o).count ≤ n → o.address < n
program-there r o n k h = let w : o.address + 1 ≤ n = rw (program-cells r o k) at h in omega arith

module _ (f : ℕ → ℕ) (r : Row) (o : Operation) (cells : List ℕ) where
  pub stored : o.kind ≡ 0 → (cells_of r o).first + (cells_of r o).count ≤ length cells → set cells o.address (f (get_or cells o.address 0)) ≡ over f (cells_of r o) cells
  stored k h = over-one f cells o.address (program-there r o (length cells) k h) ∙ ap (λ (s : Span). over f s cells) (sym (program-cells r o k))

  pub came-back : (back : List ℕ) (s : Span) (k : ℕ) → s ≡ cells_of r o → k ≡ s.count → back ≡ map f (take k (drop s.first cells))
      → take s.first cells ++ (back ++ drop k (drop s.first cells)) ≡ over f (cells_of r o) cells
  came-back back s k e q h = over-part f cells back s k q h ∙ ap (λ (s : Span). over f s cells) e

-- the same function at every cell
pub map_same : (f g : ℕ → ℕ) → ((x : ℕ) → f x ≡ g x) → (l : List ℕ) → map f l ≡ map g l
map_same f g e [] = refl
map_same f g e (x ∷ l) = ap₂ {A = ℕ} {B = List ℕ} {C = List ℕ} (λ y m. y ∷ m) (e x) (map_same f g e l)

-- what is left of a cell, by the kind of the operation
module _ (r : Row) (o : Operation) (x : ℕ) where
  pub finished-program : o.kind ≡ 0 → bit_and x o.«data» ≡ finished r o x
  finished-program k = sym (simp (eq-eqb _ _ k))

  pub finished-erase : (o.kind ≡ 0 → ⊥) → blank_of r.width ≡ finished r o x
  finished-erase k = sym (simp (ne_eqb _ _ k))

  module _ (scar mark : ℕ) (e : mark ≡ value_of r.width scar) where
    pub scarred-program : o.kind ≡ 0 → bit_and x (bit_or o.«data» mark) ≡ scarred r o scar x
    scarred-program k = rw e (sym (simp (eq-eqb _ _ k)))

    pub scarred-erase : (o.kind ≡ 0 → ⊥) → bit_or (value_of r.width x) mark ≡ scarred r o scar x
    scarred-erase k = rw e (sym (simp (ne_eqb _ _ k)))
