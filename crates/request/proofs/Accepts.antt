-- What is known of a job that is not refused, and that a job in which nothing is out of place is not.
use Prim.Native.Nat.{ℕ, ◌+◌, ◌%◌, ◌≤◌, ◌<◌}
use mathlib.Core.Path.{◌≡◌, refl, sym}
use mathlib.Core.Bool.{Bool, true, false}
use mathlib.Core.List.{List}
use native.Mathlib.Omega.{arith}
use borrow.Author.Tests.{ltb-false, leb-true, eqb-true, lt-ltb, le-leb, eq-eqb}
use lib.ListN.{length}
use Rattle.parts.specs.Width.{sector_size}
use Rattle.parts.specs.Table.{row_of, part_refusal}
use Rattle.parts.specs.Time.{is_interval}
use Rattle.parts.specs.Span.{holdsb, protected_of}
use Rattle.parts.specs.declared.span.Span.{Span}
use Rattle.parts.specs.declared.table.Row.{Row}
use Rattle.parts.proofs.Every.{apart}
use Rattle.parts.proofs.Rounding.{interval, interval-is}
use Rattle.parts.proofs.Refused.{zero_left, zero_right, none_first}
use Rattle.parts.proofs.Ranges.{holds-bounds}
use Rattle.values.specs.Fit.{fit_all}
use Rattle.request.specs.Refusal.{meets, protection_refusal, sectors_refusal, range_refusal, begin_refusal, standing_refusal, job_refusal}
use Rattle.request.proofs.Bounds.{none-given}

-- a range that holds none of a span's cells: no address of it is in the span
pub apart_from : (s : Span) (first count a : ℕ) → meets s first count ≡ false → first ≤ a → a < first + count → holdsb s a ≡ false
unfolding meets
apart_from s first count a e l h = by (holdsb s a) refl
  where
    by : (b : Bool) → holdsb s a ≡ b → holdsb s a ≡ false
    by true t =
        let w = holds-bounds s a t in
        apart (sym (rw (lt-ltb 0 count (omega arith), lt-ltb first (s.first + s.count) (omega (arith, w.0, w.1)), lt-ltb s.first (first + count) (omega (arith, w.0))) at e))
    by false t = t

-- ---- the refusals, one by one
pub whole-sectors : (r : Row) (first count : ℕ) → sectors_refusal r first count ≡ 0
    → (first % sector_size r.width ≡ 0) × ((count % sector_size r.width ≡ 0) × (first + count ≤ r.cells))
unfolding sectors_refusal
whole-sectors r first count e =
    let f = zero_right _ 5 _ e in
    let g = zero_right _ 5 _ f.1 in
    let h = zero_left _ _ 6 g.1 in
    (none-given refl (ltb-false _ _ f.0), (none-given refl (ltb-false _ _ g.0), leb-true _ _ h.0))

-- WP# is high, or the range holds no protected cell
unmet : (r : Row) (first count : ℕ) (wp : Bool) → protection_refusal r first count wp ≡ 0 → wp ≡ false → meets (protected_of r) first count ≡ false
unfolding protection_refusal
unmet r first count true e l = apart (sym l)
unmet r first count false e l = (zero_right (meets (protected_of r) first count) 8 0 e).0

-- what a job's refusals say of it with no pass over its image
pub record Standing (part first count : ℕ) (wp : Bool) (p : ℕ) : Type 0 where
  pub known : part_refusal part ≡ 0
  pub aligned : first % sector_size (row_of part).width ≡ 0
  pub whole : count % sector_size (row_of part).width ≡ 0
  pub range : first + count ≤ (row_of part).cells
  pub some : 0 < p
  pub most : p ≤ 1000
  pub unprotected : wp ≡ false → meets (protected_of (row_of part)) first count ≡ false

pub standing : (part first count : ℕ) (wp : Bool) (p : ℕ) → standing_refusal part first count wp p ≡ 0 → Standing part first count wp p
unfolding standing_refusal
standing part first count wp p e =
    let a = none_first _ _ e in
    let b = zero_left _ _ 9 a.1 in
    let d = interval p b.0 in
    let f = none_first _ _ b.1 in
    let s = whole-sectors (row_of part) first count f.0 in
    record { known = a.0; aligned = s.0; whole = s.1.0; range = s.1.1; some = d.0; most = d.1; unprotected = unmet (row_of part) first count wp f.1 }

-- none given at the begin: none stands, and every value fits
pub none-stands : (part first : ℕ) (image : List ℕ) (wp : Bool) (p : ℕ) → begin_refusal part first image wp p ≡ 0
    → (standing_refusal part first (length image) wp p ≡ 0) × (fit_all (row_of part).width image ≡ true)
unfolding begin_refusal range_refusal standing_refusal
none-stands part first image wp p e =
    let a = none_first (part_refusal part) _ e in
    let b = zero_left (is_interval p) _ 9 a.1 in
    let c = none_first (sectors_refusal (row_of part) first (length image)) _ b.1 in
    let d = zero_left _ _ 7 c.1 in
    (rw (a.0, b.0, c.0) d.1, d.0)

-- the job's are those, and one of the lent cells
pub lent-cells : (part lent first : ℕ) (image : List ℕ) (wp : Bool) (p : ℕ) → job_refusal part lent first image wp p ≡ 0
    → (lent ≡ (row_of part).cells) × (begin_refusal part first image wp p ≡ 0)
unfolding job_refusal begin_refusal
lent-cells part lent first image wp p e =
    let a = none_first (part_refusal part) _ e in
    let b = zero_left _ _ 1 a.1 in
    (eqb-true _ _ b.0, rw a.0 b.1)

-- and with the part's number of cells lent the job is not refused
pub not-refused : (part first : ℕ) (image : List ℕ) (wp : Bool) (p : ℕ) → begin_refusal part first image wp p ≡ 0 → (lent : ℕ) → lent ≡ (row_of part).cells
    → job_refusal part lent first image wp p ≡ 0
unfolding job_refusal begin_refusal
not-refused part first image wp p z lent e =
    let a = none_first (part_refusal part) _ z in
    rw (a.0, eq-eqb lent (row_of part).cells e) a.1

-- A job in which nothing is out of place is not refused: on the part's number of cells, with every value fitting.
pub accepts : (part lent first : ℕ) (image : List ℕ) (wp : Bool) (p : ℕ) → lent ≡ (row_of part).cells → Standing part first (length image) wp p
    → fit_all (row_of part).width image ≡ true → job_refusal part lent first image wp p ≡ 0
unfolding job_refusal range_refusal sectors_refusal protection_refusal
accepts part lent first image wp p whole S fits = by wp S.unprotected
  where
    by : (t : Bool) → (t ≡ false → meets (protected_of (row_of part)) first (length image) ≡ false) → job_refusal part lent first image t p ≡ 0
    by true f =
        simp (S.known, eq-eqb lent _ whole, interval-is p S.some S.most, S.aligned, S.whole, le-leb _ _ S.range, fits)
    by false f =
        simp (S.known, eq-eqb lent _ whole, interval-is p S.some S.most, S.aligned, S.whole, le-leb _ _ S.range, fits, f refl)
