-- Operations on ranges that are apart: they commute, and neither touches the other's cells. For lists of any length.
use Prim.Native.Nat.{ℕ, zero, suc, ◌+◌, ◌-◌, ◌≤◌, ◌<◌}
use mathlib.Core.Path.{◌≡◌, refl, sym, ap}
use mathlib.Core.Logic.{◌⊎◌, inl, inr, ⊎_elim}
use mathlib.Core.Bool.{Bool, true, false}
use mathlib.Core.List.{List, [], ◌∷◌, ◌++◌, map}
use native.Mathlib.Nat.{not-suc-le-zero, le_of_suc-le-suc}
use native.Mathlib.Omega.{arith}
use borrow.Author.Tests.{ltb-true, ltb-false, eqb-true}
use lib.Dec.{eqb, ltb}
use lib.ListN.{get_or, take, drop}
use Rattle.parts.specs.Pick.{pick}
use Rattle.parts.specs.Span.{span, holdsb}
use Rattle.parts.specs.declared.span.Span.{Span}
use Rattle.parts.specs.declared.table.Row.{Row}
use Rattle.parts.proofs.Every.{apart, both}
use Rattle.parts.proofs.Ranges.{holds-bounds}
use Rattle.device.specs.declared.state.Operation.{Operation}
use Rattle.device.specs.Device.{pending, suspendable, barred}
use Rattle.device.specs.Operation.{cells_of, over, finished, complete_on}
use Rattle.device.proofs.Leaves.{program-cells}

-- ---- a cell outside a range
module _ (f : ℕ → ℕ) where
  front-elsewhere : (n a : ℕ) (cells : List ℕ) → n ≤ a → get_or (map f (take n cells) ++ drop n cells) a 0 ≡ get_or cells a 0
  front-elsewhere zero a cells h = refl
  front-elsewhere (suc n) a [] h = refl
  front-elsewhere (suc n) zero (x ∷ xs) h = absurd (not-suc-le-zero h)
  front-elsewhere (suc n) (suc a) (x ∷ xs) h = front-elsewhere n a xs (le_of_suc-le-suc h)

  pub over-elsewhere : (first count a : ℕ) (cells : List ℕ) → (a < first) ⊎ (first + count ≤ a) → get_or (over f (span first count) cells) a 0 ≡ get_or cells a 0
  over-elsewhere zero count a cells h = ⊎_elim (λ l. absurd (not-suc-le-zero l)) (λ l. front-elsewhere count a cells (omega arith)) h
  over-elsewhere (suc first) zero a [] h = refl
  over-elsewhere (suc first) (suc count) a [] h = refl
  over-elsewhere (suc first) count zero (x ∷ xs) h = refl
  over-elsewhere (suc first) count (suc a) (x ∷ xs) h = over-elsewhere first count a xs (⊎_elim (λ l. inl (le_of_suc-le-suc l)) (λ l. inr (omega arith)) h)

-- a cell that a range does not hold lies outside it
pub outside : (s : Span) (i : ℕ) → holdsb s i ≡ false → (i < s.first) ⊎ (s.first + s.count ≤ i)
unfolding holdsb
outside s i = by (ltb i s.first) refl
  where
    by : (b : Bool) → ltb i s.first ≡ b → pick b false (ltb (i - s.first) s.count) ≡ false → (i < s.first) ⊎ (s.first + s.count ≤ i)
    by true e h = inl (ltb-true i s.first e)
    by false e h = let l = ltb-false i s.first e in let m = ltb-false (i - s.first) s.count h in inr (omega arith)

-- ---- two ranges, one of which ends before the other begins
commute : (f g : ℕ → ℕ) (l : List ℕ) (a n b m : ℕ) → a + n ≤ b → over f (span a n) (over g (span b m) l) ≡ over g (span b m) (over f (span a n) l)
commute f g l zero zero b m h = refl
commute f g [] zero (suc n) zero m h = absurd (omega arith)
commute f g [] zero (suc n) (suc b) zero h = refl
commute f g [] zero (suc n) (suc b) (suc m) h = refl
commute f g [] (suc a) n zero m h = absurd (omega arith)
commute f g [] (suc a) zero (suc b) zero h = refl
commute f g [] (suc a) zero (suc b) (suc m) h = refl
commute f g [] (suc a) (suc n) (suc b) zero h = refl
commute f g [] (suc a) (suc n) (suc b) (suc m) h = refl
commute f g (x ∷ l) zero (suc n) zero m h = absurd (omega arith)
commute f g (x ∷ l) zero (suc n) (suc b) m h = ap (λ (t : List ℕ). f x ∷ t) (commute f g l zero n b m (omega arith))
commute f g (x ∷ l) (suc a) n zero m h = absurd (omega arith)
commute f g (x ∷ l) (suc a) n (suc b) m h = ap (λ (t : List ℕ). x ∷ t) (commute f g l a n b m (omega arith))

-- ---- beside a suspended erase
-- what it does not bar is a program outside its range
pub beside : (r : Row) (s : Operation) (c a : ℕ) → barred r s c a ≡ false → pending s ≡ true → (c ≡ 0) × (holdsb (cells_of r s) a ≡ false)
unfolding barred
beside r s c a f y = by (eqb c 0) refl (rw y at f)
  where
    by : (b : Bool) → eqb c 0 ≡ b → pick b (holdsb (cells_of r s) a) true ≡ false → (c ≡ 0) × (holdsb (cells_of r s) a ≡ false)
    by true e g = (eqb-true c 0 e, g)
    by false e g = apart (sym g)

-- so where what runs can be suspended, nothing is
pub alone : (r : Row) (s : Operation) (c a : ℕ) → suspendable r c ≡ true → barred r s c a ≡ false → pending s ≡ false
unfolding suspendable
alone r s c a e f = by (pending s) refl
  where
    by : (b : Bool) → pending s ≡ b → b ≡ false
    by true y = let z : c ≡ 0 = (beside r s c a f y).0 in apart (rw z at (both r.suspends (pick (eqb c 1) true (eqb c 2)) e).1)
    by false y = refl

-- ---- a program at an address outside the cells of another operation
module _ (r : Row) (o s : Operation) (program : o.kind ≡ 0) (out : holdsb (cells_of r s) o.address ≡ false) (cells : List ℕ) where
  pub commutes : complete_on r s (complete_on r o cells) ≡ complete_on r o (complete_on r s cells)
  unfolding complete_on
  commutes =
      rw (program-cells r o program)
      (⊎_elim
      (λ l. sym (commute (finished r o) (finished r s) cells o.address 1 (cells_of r s).first (cells_of r s).count (omega arith)))
      (λ l. commute (finished r s) (finished r o) cells (cells_of r s).first (cells_of r s).count o.address 1 l)
      (outside (cells_of r s) o.address out))

  -- it leaves those cells
  pub untouched : (i : ℕ) → holdsb (cells_of r s) i ≡ true → get_or (complete_on r o cells) i 0 ≡ get_or cells i 0
  unfolding complete_on
  untouched i h =
      let w = holds-bounds (cells_of r s) i h in
      rw (program-cells r o program)
      (over-elsewhere (finished r o) o.address 1 i cells
      (⊎_elim (λ l. inr (omega (arith, w.0))) (λ l. inl (omega (arith, w.1))) (outside (cells_of r s) o.address out)))

-- a program leaves every cell but its own
pub one_cell : (r : Row) (o : Operation) (cells : List ℕ) → o.kind ≡ 0 → (i : ℕ) → (o.address ≡ i → ⊥) → get_or (complete_on r o cells) i 0 ≡ get_or cells i 0
unfolding complete_on
one_cell r o cells k i n = rw (program-cells r o k) (over-elsewhere (finished r o) o.address 1 i cells (by (ltb i o.address) refl))
  where
    by : (b : Bool) → ltb i o.address ≡ b → (i < o.address) ⊎ (o.address + 1 ≤ i)
    by true e = inl (ltb-true i o.address e)
    by false e = inr (omega (arith, ltb-false i o.address e, n))
