-- Laws of polling: an interval p, and rounding up: N polls, p apart, are the fewest that reach a time T.
use mathlib.Core.Path.{◌≡◌, sym, ap, ◌∙◌}
use Prim.Native.Nat.{ℕ, suc, ◌+◌, ◌-◌, ◌*◌, ◌/◌, ◌≤◌, ◌<◌}
use native.Mathlib.Nat.{le_of_suc-le-suc, lt_of_not-le, suc-mul, zero-mul, mul-le-mul_right, div-mul-le_self, lt-div-mul-add, add-div_right}
use native.Mathlib.Omega.{arith}
use borrow.Author.Tests.{ne_eqb, ltb-false, leb-true, le-ltb, le-leb}
use mathlib.Core.Bool.{true}
use lib.Dec.{ltb, leb}
use Rattle.parts.proofs.Every.{unless}
use Rattle.parts.specs.Time.{is_interval, rounded_up}

-- ---- a polling interval, both ways
pub interval : (p : ℕ) → is_interval p ≡ true → (0 < p) × (p ≤ 1000)
unfolding is_interval
interval p e = let w = unless (ltb p 1) (leb p 1000) e in (ltb-false p 1 w.0, leb-true p 1000 w.1)

pub interval-is : (p : ℕ) → 0 < p → p ≤ 1000 → is_interval p ≡ true
unfolding is_interval
interval-is p some most = rw (le-ltb p 1 some, le-leb p 1000 most)

-- ---- N
module _ (T p : ℕ) (some : 0 < p) where
  quotient : rounded_up T p ≡ (T + (p - 1)) / p
  unfolding rounded_up
  quotient = simp (ne_eqb p 0 (λ e. omega arith))

  -- T ≤ N * p
  pub reaches : T ≤ rounded_up T p * p
  reaches = rw quotient (omega (arith, lt-div-mul-add {a = T + (p - 1)} some))

  -- (N - 1) * p < T: said without the difference, so that T may be 0
  pub not-over : rounded_up T p * p < T + p
  not-over = rw quotient (omega (arith, div-mul-le_self (T + (p - 1)) p))

  -- k polls that reach T are no fewer than N, and k polls that do not are fewer
  pub least : (k : ℕ) → T ≤ k * p → rounded_up T p ≤ k
  least k h = le_of_suc-le-suc (lt_of_not-le (λ (l : suc k ≤ rounded_up T p). omega (arith, not-over, suc-mul k p, mul-le-mul_right p l)))

  pub fewer : (k : ℕ) → k * p < T → k < rounded_up T p
  fewer k h = lt_of_not-le (λ (l : rounded_up T p ≤ k). omega (arith, reaches, mul-le-mul_right p l))

  pub positive : 0 < T → 0 < rounded_up T p
  positive h = fewer 0 (omega (arith, zero-mul p))

  pub below : 0 < T → (rounded_up T p - 1) * p < T
  below h =
      let e : suc (rounded_up T p - 1) ≡ rounded_up T p = omega (arith, positive h) in
      omega (arith, not-over, suc-mul (rounded_up T p - 1) p, ap (λ (n : ℕ). n * p) e)

  -- how the code counts
  pub counted : 0 < T → (T - 1) / p + 1 ≡ rounded_up T p
  counted h =
      let e : T - 1 + p ≡ T + (p - 1) = omega arith in
      sym (quotient ∙ (ap (λ (n : ℕ). n / p) (sym e) ∙ add-div_right (T - 1) some))
