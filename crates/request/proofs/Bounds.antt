-- Numbers compared as the refusals' code and their definitions do.
use Prim.Native.Nat.{ℕ, ◌≤◌}
use mathlib.Core.Path.{◌≡◌}
use native.Mathlib.Omega.{arith}

-- no refusal is given: the number is 0
pub none-given : {n m : ℕ} → n ≡ m → n ≤ 0 → m ≡ 0
none-given e l = omega arith
