-- The rules of the part table: each is one test, computed over all rows, and the law that it gives of every known part.
use mathlib.Core.Path.{◌≡◌, refl}
use mathlib.Core.Bool.{Bool, true, false, not}
use mathlib.Core.List.{List, [], ◌∷◌}
use Prim.Native.Nat.{ℕ, zero, suc, ◌+◌, ◌%◌, ◌^◌, ◌≤◌, ◌<◌}
use native.Mathlib.Nat.{le_of_suc-le-suc}
use native.Mathlib.Omega.{arith}
use borrow.Author.Tests.{ltb-true, ltb-false, leb-true, eqb-true, eqb-false}
use lib.Dec.{eqb, ltb, leb}
use lib.ListN.{length, get_or}
use lib.Pow.{pow_mono}
use Rattle.parts.specs.Pick.{pick}
use Rattle.parts.specs.Width.{sector_size}
use Rattle.parts.specs.Table.{lines, no_line, row_from, row_of, part_refusal}
use Rattle.parts.specs.Span.{has_blocks}
use Rattle.parts.specs.Time.{times, time_of}
use Rattle.parts.specs.declared.table.Line.{Line}
use Rattle.parts.specs.declared.table.Row.{Row}
use Rattle.parts.proofs.Every.{apart, both, unless, given, every, at}

-- the known parts are those of the table
pub known : (n : ℕ) → part_refusal n ≡ 0 → n ≤ 10
unfolding part_refusal
known n e = ltb-false 10 n (not-one (ltb 10 n) e)
  where
    not-one : (b : Bool) → ◌≡◌ {A = ℕ} (pick b 1 0) 0 → b ≡ false
    not-one true e = absurd (omega arith)
    not-one false e = refl

-- a test that holds at every row holds of every known part
rule : (f : Row → Bool) → every (λ l. f (row_from l)) lines ≡ true → (n : ℕ) → part_refusal n ≡ 0 → f (row_of n) ≡ true
unfolding row_of
rule f e n k = at (λ l. f (row_from l)) lines no_line e n (omega (arith, known n k))

-- the same of a test that looks at the part's number, too: from part k on
abbrev every_from : (ℕ → Row → Bool) → ℕ → List Line → Bool
every_from f k [] = true
every_from f k (l ∷ ls) = pick (f k (row_from l)) (every_from f (suc k) ls) false

at_from : (f : ℕ → Row → Bool) (k : ℕ) (ls : List Line) → every_from f k ls ≡ true → (n : ℕ) → n < length ls → f (k + n) (row_from (get_or ls n no_line)) ≡ true
at_from f k [] e n h = absurd (omega arith)
at_from f k (l ∷ ls) e zero h = let z : k + 0 ≡ k = omega arith in rw z (both (f k (row_from l)) (every_from f (suc k) ls) e).0
at_from f k (l ∷ ls) e (suc n) h =
    let z : k + suc n ≡ suc k + n = omega arith in
    rw z (at_from f (suc k) ls (both (f k (row_from l)) (every_from f (suc k) ls) e).1 n (le_of_suc-le-suc h))

-- an erase can be suspended on parts 7 to 10, and on no other
pub suspends-on : (n : ℕ) → part_refusal n ≡ 0 → (row_of n).suspends ≡ pick (leb 7 n) (leb n 10) false
unfolding row_of
suspends-on n k =
    let z : 0 + n ≡ n = omega arith in
    agree (row_from (get_or lines n no_line)).suspends (those n) (rw z at (at_from (λ n r. pick r.suspends (those n) (not (those n))) 0 lines refl n (omega (arith, known n k))))
  where
    those : ℕ → Bool
    those n = pick (leb 7 n) (leb n 10) false

    agree : (a b : Bool) → pick a b (not b) ≡ true → a ≡ b
    agree true true e = refl
    agree true false e = apart e
    agree false true e = apart e
    agree false false e = refl

module _ (n : ℕ) (k : part_refusal n ≡ 0) where
  pub width-least : 8 ≤ (row_of n).width
  width-least = leb-true _ _ (rule (λ r. leb 8 r.width) refl n k)

  pub width-most : (row_of n).width ≤ 16
  width-most = leb-true _ _ (rule (λ r. leb r.width 16) refl n k)

  pub cells-some : 0 < (row_of n).cells
  cells-some = ltb-true _ _ (rule (λ r. ltb 0 r.cells) refl n k)

  pub cells-most : (row_of n).cells ≤ 4194304
  cells-most = leb-true _ _ (rule (λ r. leb r.cells 4194304) refl n k)

  pub device-fits : (row_of n).device < 2 ^ (row_of n).width
  device-fits = ltb-true _ _ (rule (λ r. ltb r.device (2 ^ r.width)) refl n k)

  pub device-word : (row_of n).device < 65536
  device-word = omega (arith, device-fits, pow_mono width-most)

  -- cells are whole sectors and, where there are blocks, whole blocks; blocks are whole sectors
  pub cells-sectors : (row_of n).cells % sector_size (row_of n).width ≡ 0
  unfolding sector_size
  cells-sectors = eqb-true _ _ (rule (λ r. eqb (r.cells % sector_size r.width) 0) refl n k)

  pub block-sectors : (row_of n).block % sector_size (row_of n).width ≡ 0
  unfolding sector_size
  block-sectors = eqb-true _ _ (rule (λ r. eqb (r.block % sector_size r.width) 0) refl n k)

  pub cells-blocks : has_blocks (row_of n) ≡ true → (row_of n).cells % (row_of n).block ≡ 0
  unfolding has_blocks
  cells-blocks b = eqb-true _ _ (given _ _ b (rule (λ r. pick (has_blocks r) (eqb (r.cells % r.block) 0) true) refl n k))

  -- every command's time is some, and none is above 140,000
  pub time-some : (command : ℕ) → command ≤ 3 → 0 < time_of (row_of n) command
  unfolding time_of
  time-some command h =
      ltb-true _ _ (at (λ t. ltb 0 t) (times (row_of n)) 0 (rule (λ r. every (λ t. ltb 0 t) (times r)) refl n k) command (omega arith))

  pub time-most : (command : ℕ) → command ≤ 3 → time_of (row_of n) command ≤ 140000
  unfolding time_of
  time-most command h =
      leb-true _ _ (at (λ t. leb t 140000) (times (row_of n)) 0 (rule (λ r. every (λ t. leb t 140000) (times r)) refl n k) command (omega arith))

  -- the codes of the erases are bytes, and no two are alike
  pub codes-differ : (row_of n).sector_code ≡ (row_of n).block_code → ⊥
  codes-differ = eqb-false _ _ (unless _ true (rule (λ r. pick (eqb r.sector_code r.block_code) false true) refl n k)).0

  pub sector-not-chip : (row_of n).sector_code ≡ 0x10 → ⊥
  sector-not-chip = eqb-false _ _ (unless _ true (rule (λ r. pick (eqb r.sector_code 0x10) false true) refl n k)).0

  pub block-not-chip : (row_of n).block_code ≡ 0x10 → ⊥
  block-not-chip = eqb-false _ _ (unless _ true (rule (λ r. pick (eqb r.block_code 0x10) false true) refl n k)).0

  pub sector-byte : (row_of n).sector_code < 256
  sector-byte = ltb-true _ _ (rule (λ r. ltb r.sector_code 256) refl n k)

  pub block-byte : (row_of n).block_code < 256
  block-byte = ltb-true _ _ (rule (λ r. ltb r.block_code 256) refl n k)

  -- the unlock addresses are addresses of the part that the compared bits tell apart from all others
  pub u1-compared : (row_of n).u1 < (row_of n).compared
  u1-compared = ltb-true _ _ (rule (λ r. ltb r.u1 r.compared) refl n k)

  pub u2-compared : (row_of n).u2 < (row_of n).compared
  u2-compared = ltb-true _ _ (rule (λ r. ltb r.u2 r.compared) refl n k)

  pub compared-cells : (row_of n).compared ≤ (row_of n).cells
  compared-cells = leb-true _ _ (rule (λ r. leb r.compared r.cells) refl n k)
