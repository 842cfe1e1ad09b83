-- The tests for 2N polls: n polls are fewer than 2N where half of them, p apart, have not reached T.
use Prim.Native.Nat.{ℕ, ◌-◌, ◌*◌, ◌/◌, ◌^◌, ◌≤◌, ◌<◌}
use mathlib.Core.Path.{◌≡◌, refl, sym}
use mathlib.Core.Bool.{Bool, true, false}
use native.Mathlib.Nat.{mul-le-mul_left, le_of_lt}
use native.Mathlib.Omega.{arith}
use borrow.Author.Tests.{ltb-true, ltb-false, leb-true, leb-false, lt-ltb, le-ltb, eq-eqb, ne_eqb}
use lib.Dec.{eqb, ltb, leb}
use Rattle.parts.specs.Time.{time_of, rounded_up}
use Rattle.parts.specs.declared.table.Row.{Row}
use Rattle.parts.proofs.Rounding.{fewer, least}
use Rattle.driver.specs.Machine.{most_polls}

-- the µs passed fit their type
pub product-fits : {a b : ℕ} → a < 2 ^ 32 → b < 2 ^ 32 → a * b < 2 ^ 64
product-fits {a} {b} ha hb = omega (arith, mul-le-mul_left a (le_of_lt hb), ha)

-- two tests that hold together
same : (a b : Bool) → (a ≡ true → b ≡ true) → (a ≡ false → b ≡ false) → a ≡ b
same true b f g = sym (f refl)
same false b f g = sym (g refl)

pub polls-left : (r : Row) (command p n : ℕ) → 0 < p → ltb (n / 2 * p) (time_of r command) ≡ ltb n (most_polls r command p)
unfolding most_polls
polls-left r command p n some = same _ _ (λ t. lt-ltb _ _ (under (fewer _ p some (n / 2) (ltb-true _ _ t)))) (λ t. le-ltb _ _ (over (least _ p some (n / 2) (ltb-false _ _ t))))
  where
    under : n / 2 < rounded_up (time_of r command) p → n < rounded_up (time_of r command) p * 2
    under h = omega arith

    over : rounded_up (time_of r command) p ≤ n / 2 → rounded_up (time_of r command) p * 2 ≤ n
    over h = omega arith

pub one_less : (n m : ℕ) → 0 < n → leb n m ≡ ltb (n - 1) m
one_less n m some = same _ _ (λ t. lt-ltb _ _ (under (leb-true _ _ t))) (λ t. le-ltb _ _ (over (leb-false _ _ t)))
  where
    under : n ≤ m → n - 1 < m
    under h = omega arith

    over : m < n → m ≤ n - 1
    over h = omega arith

pub no-fewer : (n m : ℕ) → m ≤ n → leb n m ≡ eqb n m
no-fewer n m h = same _ _ (λ t. eq-eqb _ _ (meet (leb-true _ _ t))) (λ t. ne_eqb _ _ (part (leb-false _ _ t)))
  where
    meet : n ≤ m → n ≡ m
    meet l = omega arith

    part : m < n → n ≡ m → ⊥
    part l e = omega arith

-- what the check proves the tests of polls by
pub ruleset left = (product-fits, polls-left, one_less, no-fewer)
