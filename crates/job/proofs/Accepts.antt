-- A job that is not refused is a right one.
use Prim.Native.Nat.{ℕ, ◌+◌, ◌≤◌, ◌<◌}
use mathlib.Core.Path.{◌≡◌, refl}
use mathlib.Core.Bool.{Bool, true, false}
use mathlib.Core.List.{List}
use native.Mathlib.Omega.{arith}
use borrow.Author.Tests.{ne_eqb}
use lib.Dec.{eqb}
use lib.ListN.{length}
use Rattle.parts.specs.Width.{sector_size}
use Rattle.parts.specs.Table.{row_of}
use Rattle.parts.specs.Span.{protected_of}
use Rattle.parts.specs.declared.table.Row.{Row}
use Rattle.parts.proofs.Every.{split}
use Rattle.device.specs.Sequence.{ignored}
use Rattle.request.specs.Refusal.{meets, begin_refusal, job_refusal}
use Rattle.request.proofs.Accepts.{apart_from, standing, none-stands, lent-cells}
use Rattle.job.specs.Bill.{job_from}
use Rattle.job.proofs.AcceptedJob.{AcceptedJob}

-- WP# protects no cell of the range from a program or a sector erase
heeds : (r : Row) (first count : ℕ) (wp : Bool) → (wp ≡ false → meets (protected_of r) first count ≡ false)
    → (command a : ℕ) → command ≤ 1 → first ≤ a → a < first + count → ignored r wp command a ≡ false
unfolding ignored
heeds r first count true e command a c l h = refl
heeds r first count false e command a c l h = rw (ne_eqb command 3 (λ z. omega arith)) (apart_from (protected_of r) first count a (e refl) l h)

pub sector-most : (w : ℕ) → sector_size w ≤ 4096
unfolding sector_size
sector-most w = split (λ (n : ℕ). n ≤ 4096) (eqb w 8) 4096 2048 (λ _. omega arith) (λ _. omega arith)

-- a job that is begun is a right one
pub accepted-job : (part first : ℕ) (image : List ℕ) (wp : Bool) (p : ℕ) → begin_refusal part first image wp p ≡ 0 → AcceptedJob (job_from part first (length image) wp p) image
accepted-job part first image wp p e =
    let b = none-stands part first image wp p e in
    let s = standing part first (length image) wp p b.0 in
    record {
      known = s.known;
      row = refl;
      size = refl;
      count = refl;
      range = s.range;
      aligned = s.aligned;
      whole = s.whole;
      fits = b.1;
      some = s.some;
      most = s.most;
      heeded = heeds (row_of part) first (length image) wp s.unprotected;
    }

pub record Passed (part lent first : ℕ) (image : List ℕ) (wp : Bool) (p : ℕ) : Type 0 where
  pub whole : lent ≡ (row_of part).cells
  pub right : AcceptedJob (job_from part first (length image) wp p) image

pub passed : (part lent first : ℕ) (image : List ℕ) (wp : Bool) (p : ℕ) → job_refusal part lent first image wp p ≡ 0 → Passed part lent first image wp p
passed part lent first image wp p e = let a = lent-cells part lent first image wp p e in record { whole = a.0; right = accepted-job part first image wp p a.1 }
