-- Refusals by number, one after the other: what is known where none is given.
use mathlib.Core.Path.{◌≡◌, refl}
use mathlib.Core.Bool.{Bool, true, false}
use Prim.Native.Nat.{ℕ, suc, ◌≤◌, ◌<◌}
use native.Mathlib.Omega.{arith}
use borrow.Author.Tests.{ltb-true, ltb-false}
use lib.Dec.{ltb}
use Rattle.parts.specs.Pick.{pick}
use Rattle.parts.proofs.Every.{split}

-- a test that has to hold, and what is left
pub zero_left : (b : Bool) (x k : ℕ) → pick b x (suc k) ≡ 0 → (b ≡ true) × (x ≡ 0)
zero_left true x k e = (refl, e)
zero_left false x k e = absurd (omega arith)

-- a test that has to fail, and what is left
pub zero_right : (b : Bool) (k x : ℕ) → pick b (suc k) x ≡ 0 → (b ≡ false) × (x ≡ 0)
zero_right true k x e = absurd (omega arith)
zero_right false k x e = (refl, e)

-- a refusal in front, and what is left
pub none_first : (x y : ℕ) → pick (ltb 0 x) x y ≡ 0 → (x ≡ 0) × (y ≡ 0)
none_first x y = split (λ (n : ℕ). n ≡ 0 → (x ≡ 0) × (y ≡ 0)) (ltb 0 x) x y (λ l e. absurd (no (ltb-true 0 x l) e)) (λ l e. (zero (ltb-false 0 x l), e))
  where
    no : 0 < x → x ≡ 0 → ⊥
    no h e = omega arith

    zero : x ≤ 0 → x ≡ 0
    zero h = omega arith
