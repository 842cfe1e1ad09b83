-- The laws that the check is told of at a function, as sets that an attribute can name.
use Prim.Native.Nat.{ℕ, ◌≤◌}
use native.Mathlib.Omega.{arith}
use lib.Pow.{pow_mono}
use Rattle.parts.specs.Width.{value_of, blank_of}
use Rattle.parts.proofs.Values.{blank-word}
use Rattle.device.proofs.Accepted.{read-there, in_words}
use Rattle.device.proofs.Leaves.{stored, finished-program, scarred-program}

-- blank has bit 7
pub blank-high : (w : ℕ) → 8 ≤ w → w ≤ 16 → 128 ≤ value_of 16 (blank_of w)
blank-high w l h = omega (arith, blank-word w h, pow_mono l)

pub ruleset width = (blank-word, blank-high)

-- a read that is not refused is of a lent cell
pub ruleset there = (read-there)

-- what is stored at a program's cell is what the operation leaves
pub ruleset completion = (stored, finished-program)

pub ruleset cut = (stored, scarred-program)

-- a part that was looked up
pub ruleset known = (in_words)
