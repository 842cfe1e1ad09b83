-- What the job's operations leave on the cells: a program stores one cell, a sector erase blanks its sector, and no other cell changes.
use Prim.Native.Nat.{ℕ, zero, suc, ◌+◌, ◌*◌, ◌/◌, ◌%◌, ◌≤◌, ◌<◌}
use mathlib.Core.Path.{◌≡◌, refl, sym, ap, ◌∙◌}
use mathlib.Core.List.{List, [], ◌∷◌, ◌++◌, map, append_assoc}
use native.Mathlib.Nat.{div-add-mod', not-suc-le-zero, le_of_suc-le-suc}
use native.Mathlib.Omega.{arith}
use lib.ListN.{length, get_or, set, take, drop, length-take, length-drop, length-map, length-append, get_or-append}
use lib.Seq.{length-take-le, drop_at, drop-drop, get_or-append-add}
use lib.Bits.{bit_and}
use Rattle.parts.specs.Width.{blank_of, sector_size}
use Rattle.parts.specs.Span.{span, sector_of}
use Rattle.parts.specs.declared.table.Row.{Row}
use Rattle.device.specs.Operation.{cells_of, finished, complete_on}
use Rattle.device.proofs.Leaves.{stored}
use Rattle.driver.specs.Writes.{last_write}
use Rattle.driver.specs.Talk.{operation_of, completed}

-- a program stores old AND data
pub program-leaves : (r : Row) (a x : ℕ) (cells : List ℕ) → a < length cells → completed r 0 a x cells ≡ set cells a (bit_and (get_or cells a 0) x)
unfolding complete_on cells_of last_write
program-leaves r a x cells h = sym (stored (finished r (operation_of r 0 a x)) r (operation_of r 0 a x) cells refl (omega arith))

same_at : (b : ℕ) (l : List ℕ) (k : ℕ) → k < length l → get_or (map (λ (o : ℕ). b) l) k 0 ≡ b
same_at b [] k h = absurd (not-suc-le-zero h)
same_at b (x ∷ l) zero h = refl
same_at b (x ∷ l) (suc k) h = same_at b l k (le_of_suc-le-suc h)

abbrev get_or_of : List ℕ → ℕ → ℕ
get_or_of l k = get_or l k 0

-- a sector erase at a sector's first address
module _ (r : Row) (a : ℕ) (aligned : a % sector_size r.width ≡ 0) where
  abbrev S : ℕ
  S = sector_size r.width

  the-sector : sector_of r a ≡ span a S
  unfolding sector_of
  the-sector = let e : a / S * S ≡ a = omega (arith, div-add-mod' a S) in rw e

  pub erase-leaves : (cells : List ℕ) → completed r 1 a 0 cells ≡ take a cells ++ (map (λ (o : ℕ). blank_of r.width) (take S (drop a cells)) ++ drop S (drop a cells))
  unfolding complete_on cells_of last_write
  erase-leaves cells = rw the-sector

  module _ (cells : List ℕ) (room : a + S ≤ length cells) where
    abbrev blanks : List ℕ
    blanks = map (λ (o : ℕ). blank_of r.width) (take S (drop a cells))

    front : length (take a cells) ≡ a
    front = length-take-le a cells (omega arith)

    kept : length (take S (drop a cells)) ≡ S
    kept = simp (length-take, length-drop) (omega arith)

    middle : length blanks ≡ S
    middle = length-map (take S (drop a cells)) (λ (o : ℕ). blank_of r.width) ∙ kept

    pub erase-length : length (completed r 1 a 0 cells) ≡ length cells
    erase-length = ap length (erase-leaves cells) ∙ simp (length-append, length-map, length-take, length-drop) (omega arith)

    pub erase-drop : drop (a + S) (completed r 1 a 0 cells) ≡ drop (a + S) cells
    erase-drop =
        rw (erase-leaves cells)
        (ap (drop (a + S)) (sym (append_assoc (take a cells) blanks (drop S (drop a cells))))
        ∙ (drop_at (take a cells ++ blanks) (drop S (drop a cells)) (a + S) (length-append (take a cells) blanks ∙ rw (front, middle)) ∙ drop-drop S a cells))

    pub erase-at : (k : ℕ) → k < S → get_or (completed r 1 a 0 cells) (a + k) 0 ≡ blank_of r.width
    erase-at k h =
        let e : a + k ≡ length (take a cells) + k = ap (λ (n : ℕ). n + k) (sym front) in
        ap (λ (l : List ℕ). get_or l (a + k) 0) (erase-leaves cells)
        ∙ (ap (get_or_of (take a cells ++ (blanks ++ drop S (drop a cells)))) e
        ∙ (get_or-append-add (take a cells) (blanks ++ drop S (drop a cells)) k 0
        ∙ (get_or-append blanks (drop S (drop a cells)) 0 k (rw middle h) ∙ same_at (blank_of r.width) (take S (drop a cells)) k (rw kept h))))
