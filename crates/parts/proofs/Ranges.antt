-- Laws of the ranges of an address: a range holds its address, two are the same or apart, and together they cover the part.
use mathlib.Core.Path.{◌≡◌, sym, ap, ◌∙◌}
use mathlib.Core.Bool.{Bool, true, false}
use Prim.Native.Nat.{ℕ, ◌+◌, ◌-◌, ◌*◌, ◌/◌, ◌%◌, ◌≤◌, ◌<◌}
use native.Mathlib.Nat.{suc-mul, mul-le-mul_right, div-mul-le_self, lt-div-mul-add, div-lt_iff_lt-mul, div-eq_of_lt-le, div-add-mod', le-div_iff_mul-le, mul_assoc, add-mul}
use native.Mathlib.Omega.{arith}
use borrow.Author.Tests.{ltb-true, ltb-false, lt-ltb, le-ltb}
use lib.Dec.{eqb, ltb}
use Rattle.parts.specs.Width.{sector_size}
use Rattle.parts.specs.Table.{row_of, part_refusal}
use Rattle.parts.specs.Span.{span, holdsb, range_of, sector_of, block_of, has_blocks}
use Rattle.parts.specs.declared.span.Span.{Span}
use Rattle.parts.specs.declared.table.Row.{Row}
use Rattle.parts.proofs.Every.{apart, split}
use Rattle.parts.proofs.Sound.{cells-sectors, cells-blocks, block-sectors}

-- what a range holds, as bounds
pub holds-bounds : (s : Span) (a : ℕ) → holdsb s a ≡ true → (s.first ≤ a) × (a < s.first + s.count)
unfolding holdsb
holds-bounds s a = split (λ (t : Bool). t ≡ true → (s.first ≤ a) × (a < s.first + s.count)) (ltb a s.first) false (ltb (a - s.first) s.count)
    (λ _ e. apart e)
    (λ f e. let l : s.first ≤ a = ltb-false _ _ f in let m : a - s.first < s.count = ltb-true _ _ e in (l, omega arith))

pub bounds-hold : (s : Span) (a : ℕ) → s.first ≤ a → a < s.first + s.count → holdsb s a ≡ true
unfolding holdsb
bounds-hold s a l h = simp (le-ltb a s.first l, lt-ltb (a - s.first) s.count (omega arith))

-- ---- ranges of any size
module _ (size : ℕ) (some : 0 < size) where
  range-holds : (a : ℕ) → holdsb (range_of size a) a ≡ true
  range-holds a = bounds-hold (range_of size a) a (div-mul-le_self a size) (lt-div-mul-add some)

  -- an address in a range has that range
  range_same : (a b : ℕ) → holdsb (range_of size a) b ≡ true → range_of size b ≡ range_of size a
  range_same a b h =
      let w = holds-bounds (range_of size a) b h in
      let e : b / size ≡ a / size = div-eq_of_lt-le {k = a / size} size w.0 (omega (arith, w.1, suc-mul (a / size) size)) in
      ap (λ (q : ℕ). span (q * size) size) e

  -- two ranges that share an address are the same
  range-apart : (a b x : ℕ) → holdsb (range_of size a) x ≡ true → holdsb (range_of size b) x ≡ true → range_of size a ≡ range_of size b
  range-apart a b x h i = sym (range_same a x h) ∙ range_same b x i

  -- where the cells are whole ranges, the range of one of them lies among them
  pub range-fits : (cells a : ℕ) → cells % size ≡ 0 → a < cells → a / size * size + size ≤ cells
  range-fits cells a z l =
      let e : cells / size * size ≡ cells = omega (arith, div-add-mod' cells size) in
      let q : a / size < cells / size = (div-lt_iff_lt-mul some).1 (rw e l) in
      omega (arith, e, suc-mul (a / size) size, mul-le-mul_right size q)

-- a range of a size that divides another lies in one range of that
range_inside : (small large a : ℕ) → 0 < small → 0 < large → large % small ≡ 0 → (a / large * large ≤ a / small * small) × (a / small * small + small ≤ a / large * large + large)
range_inside small large a s l z =
    let m = large / small in
    let e : m * small ≡ large = omega (arith, div-add-mod' large small) in
    let f : (a / large * m) * small ≡ a / large * large = mul_assoc (a / large) m small ∙ ap (λ (n : ℕ). a / large * n) e in
    let lo : a / large * m ≤ a / small = (le-div_iff_mul-le s).1 (omega (arith, f, div-mul-le_self a large)) in
    let hi : a / small < a / large * m + m = (div-lt_iff_lt-mul s).1 (omega (arith, add-mul (a / large * m) m small, e, f, lt-div-mul-add {a = a} l)) in
    (omega (arith, f, mul-le-mul_right small lo), omega (arith, e, f, add-mul (a / large * m) m small, suc-mul (a / small) small, mul-le-mul_right small hi))

-- ---- sectors
pub sector-some : (w : ℕ) → 0 < sector_size w
unfolding sector_size
sector-some w = split (λ (n : ℕ). 0 < n) (eqb w 8) 4096 2048 (λ _. omega arith) (λ _. omega arith)

pub sector-holds : (r : Row) (a : ℕ) → holdsb (sector_of r a) a ≡ true
unfolding sector_of
sector-holds r a = range-holds (sector_size r.width) (sector-some r.width) a

pub sector-apart : (r : Row) (a b x : ℕ) → holdsb (sector_of r a) x ≡ true → holdsb (sector_of r b) x ≡ true → sector_of r a ≡ sector_of r b
unfolding sector_of
sector-apart r a b x = range-apart (sector_size r.width) (sector-some r.width) a b x

-- ---- blocks
block-some : (r : Row) → has_blocks r ≡ true → 0 < r.block
unfolding has_blocks
block-some r h = ltb-true 0 r.block h

pub block-holds : (r : Row) (a : ℕ) → has_blocks r ≡ true → holdsb (block_of r a) a ≡ true
unfolding block_of
block-holds r a h = range-holds r.block (block-some r h) a

pub block_apart : (r : Row) (a b x : ℕ) → has_blocks r ≡ true → holdsb (block_of r a) x ≡ true → holdsb (block_of r b) x ≡ true → block_of r a ≡ block_of r b
unfolding block_of
block_apart r a b x h = range-apart r.block (block-some r h) a b x

-- ---- of a known part
module _ (n : ℕ) (k : part_refusal n ≡ 0) (a : ℕ) (there : a < (row_of n).cells) where
  pub sector-fits : (sector_of (row_of n) a).first + (sector_of (row_of n) a).count ≤ (row_of n).cells
  unfolding sector_of
  sector-fits = range-fits (sector_size (row_of n).width) (sector-some (row_of n).width) (row_of n).cells a (cells-sectors n k) there

  pub block-fits : has_blocks (row_of n) ≡ true → (block_of (row_of n) a).first + (block_of (row_of n) a).count ≤ (row_of n).cells
  unfolding block_of
  block-fits h = range-fits (row_of n).block (block-some (row_of n) h) (row_of n).cells a (cells-blocks n k h) there

-- a sector lies in one block
pub sector-inside : (n : ℕ) → part_refusal n ≡ 0 → (a : ℕ) → has_blocks (row_of n) ≡ true
    → ((block_of (row_of n) a).first ≤ (sector_of (row_of n) a).first) × ((sector_of (row_of n) a).first + (sector_of (row_of n) a).count ≤ (block_of (row_of n) a).first + (block_of (row_of n) a).count)
unfolding sector_of block_of
sector-inside n k a h = range_inside (sector_size (row_of n).width) (row_of n).block a (sector-some (row_of n).width) (block-some (row_of n) h) (block-sectors n k)

pub ruleset size = (sector-some)
