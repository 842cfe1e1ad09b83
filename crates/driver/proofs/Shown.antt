-- What a read at the polled address shows once a command has completed: blank after an erase, the old value AND the data after a program.
use Prim.Native.Nat.{ℕ, zero, suc, ◌+◌, ◌/◌, ◌%◌, ◌≤◌, ◌<◌}
use mathlib.Core.Path.{◌≡◌, refl, sym, ap, ◌∙◌}
use mathlib.Core.Bool.{Bool, true, false}
use mathlib.Core.List.{List, [], ◌∷◌, ◌++◌, map}
use native.Mathlib.Nat.{not-suc-le-zero, le_of_suc-le-suc}
use native.Mathlib.Omega.{arith}
use borrow.Author.Tests.{eqb-true, ne_eqb}
use lib.Dec.{eqb}
use lib.ListN.{length, get_or, take, drop}
use lib.Bits.{bit_and, and_shr, and_mod}
use Rattle.parts.specs.Pick.{pick}
use Rattle.parts.specs.Width.{value_of, blank_of}
use Rattle.parts.specs.Table.{lines, no_line, row_from, row_of, part_refusal}
use Rattle.parts.specs.Span.{span, sector_of, block_of}
use Rattle.parts.specs.Time.{has_command}
use Rattle.parts.proofs.Every.{at}
use Rattle.parts.proofs.Values.{value-blank, value-and, value_same, fits_lt}
use Rattle.parts.proofs.Sound.{known, cells-some}
use Rattle.parts.proofs.Ranges.{holds-bounds, sector-holds, block-holds}
use Rattle.device.specs.Operation.{cells_of, over, finished, complete_on}
use Rattle.driver.specs.Writes.{last_write}
use Rattle.driver.specs.Machine.{address_of, bit_seven, bit_wanted, value_wanted}
use Rattle.driver.specs.Endings.{MustRaiseSeven}
use Rattle.driver.specs.Talk.{operation_of, completed, shown_after}
use Rattle.driver.proofs.Asked.{Target}
use Rattle.driver.proofs.Commands.{command-le, four}

-- f at each cell of a range, seen at one of them
module _ (f : ℕ → ℕ) where
  front_at : (n a : ℕ) (cells : List ℕ) → a < n → a < length cells → get_or (map f (take n cells) ++ drop n cells) a 0 ≡ f (get_or cells a 0)
  front_at n a [] h l = absurd (not-suc-le-zero l)
  front_at zero a (x ∷ xs) h l = absurd (not-suc-le-zero h)
  front_at (suc n) zero (x ∷ xs) h l = refl
  front_at (suc n) (suc a) (x ∷ xs) h l = front_at n a xs (le_of_suc-le-suc h) (le_of_suc-le-suc l)

  over-at : (first count a : ℕ) (cells : List ℕ) → first ≤ a → a < first + count → a < length cells → get_or (over f (span first count) cells) a 0 ≡ f (get_or cells a 0)
  over-at first count a [] b h l = absurd (not-suc-le-zero l)
  over-at zero count a (x ∷ xs) b h l = front_at count a (x ∷ xs) (omega arith) l
  over-at (suc first) count zero (x ∷ xs) b h l = absurd (not-suc-le-zero b)
  over-at (suc first) count (suc a) (x ∷ xs) b h l = over-at first count a xs (le_of_suc-le-suc b) (omega arith) (le_of_suc-le-suc l)

-- ---- a command that is asked of a known part, on its cells
module _ (part command a x : ℕ) (k : part_refusal part ≡ 0) (target : Target (row_of part) command a x) (cells : List ℕ) (whole : length cells ≡ (row_of part).cells) where
  few : command ≤ 3
  few = command-le (row_of part) command target.has

  abbrev Reaches : ℕ → Type 0
  Reaches n =
      Target (row_of part) n a x → ((cells_of (row_of part) (operation_of (row_of part) n a x)).first ≤ address_of n a)
      × (address_of n a < (cells_of (row_of part) (operation_of (row_of part) n a x)).first + (cells_of (row_of part) (operation_of (row_of part) n a x)).count)

  -- the polled address is one of the operation's cells
  reaches : ((cells_of (row_of part) (operation_of (row_of part) command a x)).first ≤ address_of command a)
      × (address_of command a < (cells_of (row_of part) (operation_of (row_of part) command a x)).first + (cells_of (row_of part) (operation_of (row_of part) command a x)).count)
  unfolding cells_of last_write has_command
  reaches =
      four Reaches (λ t. (omega arith, omega arith)) (λ t. holds-bounds (sector_of (row_of part) a) a (sector-holds (row_of part) a))
      (λ t. holds-bounds (block_of (row_of part) a) a (block-holds (row_of part) a t.has)) (λ t. (omega arith, omega (arith, cells-some part k))) command few target

  there : address_of command a < length cells
  there = rw whole (four (λ (n : ℕ). Target (row_of part) n a x → address_of n a < (row_of part).cells)
      (λ t. t.there (λ e. omega arith)) (λ t. t.there (λ e. omega arith)) (λ t. t.there (λ e. omega arith)) (λ t. cells-some part k) command few target)

  cell-after : get_or (completed (row_of part) command a x cells) (address_of command a) 0 ≡ finished (row_of part) (operation_of (row_of part) command a x) (get_or cells (address_of command a) 0)
  unfolding complete_on
  cell-after = over-at (finished (row_of part) (operation_of (row_of part) command a x)) _ _ (address_of command a) cells reaches.0 reaches.1 there

  -- an erase always shows what is wanted
  pub erase-shows : (command ≡ 0 → ⊥) → shown_after (row_of part) command a x cells ≡ value_wanted (row_of part) command x
  erase-shows n = ap (value_of (row_of part).width) cell-after ∙ simp (ne_eqb command 0 n) (value-blank (row_of part).width)

  -- a program shows the old value AND the data
  pub program-shows : command ≡ 0 → shown_after (row_of part) command a x cells ≡ bit_and (value_of (row_of part).width (get_or cells a 0)) x
  unfolding last_write
  program-shows z =
      ap (value_of (row_of part).width) cell-after
      ∙ simp z (value-and (row_of part).width (get_or cells a 0) x ∙ rw (value_same (row_of part).width x (fits_lt (row_of part).width x (target.fits z))))

-- what is wanted has the wanted bit 7
blank-bit : (part : ℕ) → part_refusal part ≡ 0 → bit_seven (blank_of (row_of part).width) ≡ 1
unfolding row_of
blank-bit part k = eqb-true _ 1 (at (λ l. eqb (bit_seven (blank_of (row_from l).width)) 1) lines no_line refl part (omega (arith, known part k)))

pub wanted-bit : (part command x : ℕ) → part_refusal part ≡ 0 → bit_seven (value_wanted (row_of part) command x) ≡ bit_wanted command x
wanted-bit part command x k = by (eqb command 0)
  where
    by : (z : Bool) → bit_seven (pick z x (blank_of (row_of part).width)) ≡ pick z (bit_seven x) 1
    by true = refl
    by false = blank-bit part k

-- ---- bit 7 of the old value AND the data
and_seven : (old x : ℕ) → bit_seven (bit_and old x) ≡ bit_and (bit_seven old) (bit_seven x)
and_seven old x = ap (λ (n : ℕ). n % 2) (and_shr old x 7) ∙ and_mod (old / 128) (x / 128) 1

-- it is the data's where it has not to rise, and only there
pub kept-seven : (old x : ℕ) → (MustRaiseSeven old x → ⊥) → bit_seven (bit_and old x) ≡ bit_seven x
kept-seven old x n = and_seven old x ∙ by (bit_seven old) (bit_seven x) (omega arith) (omega arith) n
  where
    by : (b c : ℕ) → b < 2 → c < 2 → ((b ≡ 0) × (c ≡ 1) → ⊥) → bit_and b c ≡ c
    by zero zero h k n = refl
    by zero (suc zero) h k n = absurd (n (refl, refl))
    by zero (suc (suc c)) h k n = absurd (omega arith)
    by (suc zero) zero h k n = refl
    by (suc zero) (suc zero) h k n = refl
    by (suc zero) (suc (suc c)) h k n = absurd (omega arith)
    by (suc (suc b)) c h k n = absurd (omega arith)

pub lost-seven : (old x : ℕ) → MustRaiseSeven old x → bit_seven (bit_and old x) ≡ bit_seven x → ⊥
lost-seven old x m e = let z : ◌≡◌ {A = ℕ} (bit_and 0 1) 1 = rw (m.0, m.1) at (sym (and_seven old x) ∙ e) in omega arith
