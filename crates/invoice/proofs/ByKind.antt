-- The operations that a list of cycles starts are of the four kinds: counted by kind they are all counted.
use Prim.Native.Nat.{ℕ, zero, suc, ◌+◌, ◌≤◌}
use mathlib.Core.Path.{◌≡◌, refl}
use mathlib.Core.Bool.{true}
use mathlib.Core.List.{List, [], ◌∷◌}
use native.Mathlib.Omega.{arith}
use borrow.Author.Tests.{ltb-false}
use lib.Dec.{eqb}
use lib.ListN.{length}
use Rattle.parts.specs.Pick.{pick}
use Rattle.parts.specs.Time.{has_command}
use Rattle.parts.specs.declared.table.Row.{Row}
use Rattle.parts.proofs.Every.{unless}
use Rattle.device.specs.declared.state.Operation.{Operation}
use Rattle.device.specs.Trace.{All}
use Rattle.device.proofs.Started.{Startable}
use Rattle.job.specs.declared.run.Tally.{Tally}
use Rattle.invoice.specs.Started.{many}
use Rattle.invoice.proofs.Apiece.{Counts}

-- one kind is counted once
abbrev of : ℕ → ℕ → ℕ
of k n = pick (eqb n k) 1 0

once : (n : ℕ) → n ≤ 3 → of 0 n + (of 1 n + (of 2 n + of 3 n)) ≡ 1
once zero h = refl
once (suc zero) h = refl
once (suc (suc zero)) h = refl
once (suc (suc (suc zero))) h = refl
once (suc (suc (suc (suc n)))) h = absurd (omega arith)

few : (r : Row) (n : ℕ) → has_command r n ≡ true → n ≤ 3
unfolding has_command
few r n h = ltb-false 3 n (unless _ _ h).0

all_kinds : (r : Row) (os : List Operation) → All (Startable r) os → length os ≡ many 0 os + (many 1 os + (many 2 os + many 3 os))
all_kinds r [] a = refl
all_kinds r (o ∷ os) a =
    let e = all_kinds r os a.1 in
    let one = once o.kind (few r o.kind a.0.command) in
    let l : length (o ∷ os) ≡ 1 + length os = omega arith in
    omega (arith, e, one, l)

-- of which erases and programs are counted, and no others are among them
pub only-those : (r : Row) (t : Tally) (os : List Operation) → All (Startable r) os → Counts t os → length os ≡ t.erases + t.programs
only-those r t os a c = omega (arith, all_kinds r os a, c.erases, c.programs, c.blocks, c.chips)
