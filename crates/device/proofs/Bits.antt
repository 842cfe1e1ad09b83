-- The bits of a busy read are bits, and so is bit 2 of a suspended range.
use Prim.Native.Nat.{ℕ, ◌-◌, ◌/◌, ◌%◌, ◌≤◌}
use mathlib.Core.Bool.{Bool}
use native.Mathlib.Omega.{arith}
use lib.Dec.{eqb}
use Rattle.parts.specs.Pick.{pick}
use Rattle.parts.proofs.Every.{split}
use Rattle.device.specs.declared.state.Operation.{Operation}
use Rattle.device.specs.declared.state.Core.{Core}
use Rattle.device.specs.Cycle.{bit7, bit6, bit2}

pub bit7-le : (o : Operation) → bit7 o ≤ 1
bit7-le o = split (λ (n : ℕ). n ≤ 1) (eqb o.kind 0) (1 - o.«data» / 128 % 2) 0 (λ _. omega arith) (λ _. omega arith)

pub bit6-le : (o : Operation) → bit6 o ≤ 1
bit6-le o = split (λ (n : ℕ). n ≤ 1) o.toggle 1 0 (λ _. omega arith) (λ _. omega arith)

pub bit2-le : (k : Core) (t : Bool) → bit2 k t ≤ 1
bit2-le k t = split (λ (n : ℕ). n ≤ 1) t (pick k.turned 0 1) 0 (λ _. split (λ (n : ℕ). n ≤ 1) k.turned 0 1 (λ _. omega arith) (λ _. omega arith)) (λ _. omega arith)
