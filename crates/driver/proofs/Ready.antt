-- What the functions of the driver owe each other: rows of known parts, and counts of states in range.
use Prim.Native.Nat.{ℕ, zero, suc, zero-le, ◌≤◌, ◌<◌}
use mathlib.Core.Path.{◌≡◌}
use mathlib.Core.Bool.{true}
use native.Mathlib.Nat.{mul-le-mul_left, mul-one}
use native.Mathlib.Omega.{arith}
use borrow.Author.Tests.{ltb-true, eqb-true}
use lib.Dec.{eqb}
use Rattle.parts.specs.Table.{row_of, part_refusal}
use Rattle.parts.specs.Time.{time_of, rounded_up}
use Rattle.parts.specs.declared.table.Row.{Row}
use Rattle.parts.proofs.Every.{both, split}
use Rattle.parts.proofs.Sound.{sector-byte, block-byte, time-most, width-most}
use Rattle.parts.proofs.Rounding.{least, interval}
use Rattle.driver.specs.declared.machine.Phase.TheVariants.{Writing}
use Rattle.driver.specs.declared.machine.Driver.{Driver}
use Rattle.driver.specs.Refusals.{start_refusal}
use Rattle.driver.specs.Writes.{write_count}
use Rattle.driver.specs.Machine.{count_fits, in_range, most_polls}
use Rattle.driver.specs.Fits.{CodesAndTimesFit}
use Rattle.driver.proofs.Asked.{Begun, begun}

-- a known part's row
pub usual : (n : ℕ) → part_refusal n ≡ 0 → CodesAndTimesFit (row_of n)
unfolding time_of
usual n k = record { sector = omega (arith, sector-byte n k); block = omega (arith, block-byte n k); time = time }
  where
    time : (command : ℕ) → time_of (row_of n) command ≤ 140000
    time zero = time-most n k 0 (omega arith)
    time (suc zero) = time-most n k 1 (omega arith)
    time (suc (suc zero)) = time-most n k 2 (omega arith)
    time (suc (suc (suc zero))) = time-most n k 3 (omega arith)
    time (suc (suc (suc (suc command)))) = zero-le

-- N is at most T
pub rounded-le : (T p : ℕ) → rounded_up T p ≤ T
unfolding rounded_up
rounded-le T zero = zero-le
rounded-le T (suc p) = least T (suc p) (omega arith) T (omega (arith, mul-le-mul_left T (one p), mul-one T))
  where
    one : (p : ℕ) → 1 ≤ suc p
    one p = omega arith

pub most-le : (r : Row) (command p : ℕ) → CodesAndTimesFit r → most_polls r command p ≤ 280000
unfolding most_polls
most-le r command p u = omega (arith, rounded-le (time_of r command) p, u.time command)

pub write-count-le : (command : ℕ) → write_count command ≤ 6
unfolding write_count
write-count-le command = split (λ (n : ℕ). n ≤ 6) (eqb command 0) 4 6 (λ _. omega arith) (λ _. omega arith)

pub write-count-some : (command : ℕ) → 4 ≤ write_count command
unfolding write_count
write-count-some command = split (λ (n : ℕ). 4 ≤ n) (eqb command 0) 4 6 (λ _. omega arith) (λ _. omega arith)

-- ---- a state in range
pub valid-start : (d : Driver) → in_range d ≡ true → Begun d.part d.command d.address d.«data» d.p
unfolding in_range
valid-start d e = begun d.part d.command d.address d.«data» d.p (eqb-true _ _ (both _ _ e).0)

pub valid-count : (d : Driver) → in_range d ≡ true → count_fits d.phase (write_count d.command) (most_polls (row_of d.part) d.command d.p) d.count ≡ true
unfolding in_range
valid-count d e = (both (eqb (start_refusal d.part d.command d.address d.«data» d.p) 0) _ e).1

pub writing-count : (d : Driver) → in_range d ≡ true → d.phase ≡ Writing → d.count < write_count d.command
writing-count d e f = ltb-true _ _ (rw f at (valid-count d e))

-- what the check proves the functions of the driver by: of a part that was looked up, and of counts
pub ruleset known = (usual, width-most, interval)

pub ruleset counts = (write-count-le, most-le, writing-count)
