-- The refusals of a job, in document 01's order.
use Rattle.std.specs.Prelude.{ℕ, ◌+◌, ◌%◌, Bool, false, List, eqb, ltb, leb, length}
use Rattle.parts.specs.Names.{WRONG-CELLS, NOT-SECTORS, PAST-CELLS, WIDE-IMAGE, PROTECTED, BAD-INTERVAL}
use Rattle.parts.specs.Pick.{pick, ◌when◌, ◌unless◌, ◌else◌, ◌or_else◌}
use Rattle.parts.specs.Width.{sector_size}
use Rattle.parts.specs.Table.{row_of, part_refusal, found_of}
use Rattle.parts.specs.Time.{is_interval}
use Rattle.parts.specs.Span.{protected_of}
use Rattle.parts.specs.declared.span.Span.{Span}
use Rattle.parts.specs.declared.table.Row.{Row}
use Rattle.parts.specs.Table.{Found}
use Rattle.values.specs.Fit.{fit_all}

-- count cells from first on hold one of a range
unfoldable pub meets : Span → ℕ → ℕ → Bool
meets s first count =
    pick (ltb 0 count)
    (pick (ltb first (s.first + s.count)) (ltb s.first (first + count)) false)
    false

-- 9: WP# low and the range holds a protected cell
unfoldable pub protection_refusal : Row → ℕ → ℕ → Bool → ℕ
protection_refusal r first count wp = 0 when wp else PROTECTED when meets (protected_of r) first count else 0

-- 6: first or count not a multiple of the sector; 7: first + count past the cells
unfoldable pub sectors_refusal : Row → ℕ → ℕ → ℕ
sectors_refusal r first count =
    NOT-SECTORS when ltb 0 (first % sector_size r.width)
    else NOT-SECTORS when ltb 0 (count % sector_size r.width)
    else PAST-CELLS unless leb (first + count) r.cells
    else 0

-- 6, 7; 8: an image value that does not fit; 9
unfoldable pub range_refusal : Row → ℕ → List ℕ → Bool → ℕ
range_refusal r first image wp =
    sectors_refusal r first (length image)
    or_else WIDE-IMAGE unless fit_all r.width image
    else protection_refusal r first (length image) wp

-- 10: p is 0 or above 1,000; then 6, 7, 8, 9
abbrev pub request_refusal : Row → ℕ → List ℕ → Bool → ℕ → ℕ
request_refusal r first image wp p = BAD-INTERVAL unless is_interval p else range_refusal r first image wp

-- 1; 2: lent cells are not the part's number; then 10, 6, 7, 8, 9
unfoldable pub job_refusal : ℕ → ℕ → ℕ → List ℕ → Bool → ℕ → ℕ
job_refusal part lent first image wp p =
    part_refusal part
    or_else WRONG-CELLS unless eqb lent (row_of part).cells
    else request_refusal (row_of part) first image wp p

-- the same of a job to which no cells are lent: 1, 10, 6, 7, 8, 9
unfoldable pub begin_refusal : ℕ → ℕ → List ℕ → Bool → ℕ → ℕ
begin_refusal part first image wp p = part_refusal part or_else request_refusal (row_of part) first image wp p

-- those that are found with no pass over the image, of count values, on a part that was looked up: 1, 10, 6, 7, 9
abbrev pub standing_on : Found → ℕ → ℕ → Bool → ℕ → ℕ
standing_on f first count wp p =
    f.answer
    or_else BAD-INTERVAL unless is_interval p
    else sectors_refusal f.row first count
    or_else protection_refusal f.row first count wp

unfoldable pub standing_refusal : ℕ → ℕ → ℕ → Bool → ℕ → ℕ
standing_refusal part first count wp p = standing_on (found_of part) first count wp p
