-- One cell: what a program can and cannot do to it, by its bits.
use mathlib.Core.Path.{◌≡◌, refl, ap, ◌∙◌}
use mathlib.Core.Bool.{Bool, true, false, not}
use Prim.Native.Nat.{ℕ, ◌+◌, ◌/◌, ◌%◌, ◌≤◌, min}
use native.Mathlib.Omega.{arith}
use lib.Arith.{bin_ind, digits_mod}
use lib.Bits.{bit_and, and_step, and_shr, and_comm, and_self, and_le_l, and_le_r, and_mask}
use borrow.Author.Tests.{eqb-true, eq-eqb, not-false}
use Rattle.parts.specs.Pick.{pick}
use Rattle.parts.specs.Width.{blank_of, value_of}
use Rattle.parts.proofs.Values.{value-le-blank, value-blank, value-value, value-and}
use Rattle.least.specs.Operations.{programmed}
use Rattle.least.specs.LeastTime.{differs, rises}

-- a test as a number
pub one-le : (t : Bool) → pick t 1 0 ≤ 1
one-le true = omega arith
one-le false = omega arith

pub one-zero : (t : Bool) → pick t 1 0 ≤ 0 → t ≡ false
one-zero true e = absurd (omega arith)
one-zero false e = refl

pub one-mono : (s t u : Bool) → (t ≡ false → u ≡ false → s ≡ false) → pick s 1 0 ≤ pick t 1 0 + pick u 1 0
one-mono s true u h = omega (arith, one-le s)
one-mono s false true h = omega (arith, one-le s)
one-mono s false false h = rw (h refl refl) (omega arith)

-- the last bit of an AND
and-odd : (a b : ℕ) → bit_and a b % 2 ≡ min (a % 2) (b % 2)
and-odd a b = ap (λ (n : ℕ). n % 2) (and_step a b) ∙ digits_mod (bit_and (a / 2) (b / 2)) (omega arith)

-- an AND with one number less is no less
and-without : (a b c : ℕ) → bit_and (bit_and a b) c ≤ bit_and a c
and-without =
    bin_ind (λ (a : ℕ). (b c : ℕ) → bit_and (bit_and a b) c ≤ bit_and a c) (λ b c. omega arith)
    (λ a ih b c. omega (arith, and_step a c, ih (b / 2) (c / 2), rw (and_shr a b 1, and-odd a b) at (and_step (bit_and a b) c)))

module _ (w : ℕ) where
  -- a test that fails is an equation
  pub same-value : (o x : ℕ) → differs w o x ≡ false → value_of w o ≡ value_of w x
  same-value o x e = eqb-true _ _ (not-false _ e)

  pub no_difference : (o x : ℕ) → value_of w o ≡ value_of w x → differs w o x ≡ false
  no_difference o x e = ap not (eq-eqb _ _ e)

  -- the value of old AND new is at most that of each
  and-le-old : (o x : ℕ) → value_of w (bit_and o x) ≤ value_of w o
  and-le-old o x = rw (value-and w o x) (and_le_l (value_of w o) (value_of w x))

  and-le-new : (o x : ℕ) → value_of w (bit_and o x) ≤ value_of w x
  and-le-new o x = rw (value-and w o x) (and_le_r (value_of w o) (value_of w x))

  -- a program of d leaves no more of x's bits
  and-program : (o d x : ℕ) → value_of w (bit_and (programmed w o d) x) ≤ value_of w (bit_and o x)
  and-program o d x =
      rw (value-and w (programmed w o d) x, value-value w (bit_and o d), value-and w o d, value-and w o x)
      (and-without (value_of w o) (value_of w d) (value_of w x))

  -- what need not rise after a program need not rise before it
  pub rises-program : (o d x : ℕ) → rises w (programmed w o d) x ≡ false → rises w o x ≡ false
  rises-program o d x e = no_difference _ _ (omega (arith, same-value _ _ e, and-program o d x, and-le-new o x))

  -- in a blank cell nothing must rise
  pub rises-blank : (x : ℕ) → rises w (blank_of w) x ≡ false
  rises-blank x =
      no_difference _ _
      (value-and w (blank_of w) x ∙ rw (value-blank w, and_comm (blank_of w) (value_of w x)) (and_mask (value_of w x) w ∙ value-value w x))

  -- nor in a cell that holds the image's value
  pub rises-same : (o x : ℕ) → value_of w o ≡ value_of w x → rises w o x ≡ false
  rises-same o x e = no_difference _ _ (value-and w o x ∙ rw e (and_self (value_of w x)))

  -- a cell that is to be blank, and in which nothing must rise, is blank
  pub differs-blank : (o x : ℕ) → differs w (blank_of w) x ≡ false → rises w o x ≡ false → differs w o x ≡ false
  differs-blank o x b r =
      no_difference _ _ (omega (arith, same-value _ _ b, same-value _ _ r, and-le-old o x, value-le-blank w o, value-blank w))
