-- The job's decision and the least time's count agree: a sector is erased where some cell has a bit that must rise.
use Prim.Native.Nat.{ℕ, zero, suc, ◌+◌, ◌/◌, ◌%◌, ◌^◌, ◌<◌, min}
use mathlib.Core.Path.{◌≡◌, refl, sym, ap, ◌∙◌}
use mathlib.Core.Bool.{Bool, true, false}
use mathlib.Core.List.{List, [], ◌∷◌, map}
use native.Mathlib.Omega.{arith}
use native.Mathlib.Nat.{zero-add}
use borrow.Author.Tests.{eq-eqb, ne_eqb, lt-ltb}
use lib.Dec.{eqb, ltb}
use lib.Bits.{bit_and, and_step}
use Rattle.std.proofs.Common.{Option, Some, None}
use Rattle.parts.specs.Pick.{pick}
use Rattle.parts.specs.Width.{value_of, fits_in}
use Rattle.parts.proofs.Values.{value_same, value-and, fits_lt}
use Rattle.parts.proofs.Every.{both}
use Rattle.values.specs.declared.search.Decision.{Decision}
use Rattle.values.specs.declared.search.Decision.TheVariants.{NoErase, SectorErase}
use Rattle.values.specs.Search.{rise_in, first_found, rise_from, decides, decision_of}
use Rattle.values.specs.Fit.{fit_all}
use Rattle.values.proofs.Clears.{clears}
use Rattle.least.specs.LeastTime.{rises, rising}

-- a decision by a test
abbrev pub erases_if : Bool → Decision
erases_if b = pick b SectorErase NoErase

-- one bit: it rises here, and then it is lost; or one further on does
one_bit : (x y : ℕ) (f r : Option (ℕ × ℕ)) → x < 2 → y < 2 → decides (pick (eqb x 0) (pick (eqb y 1) f r) r) ≡ SectorErase → min x y ≡ y → decides r ≡ SectorErase
one_bit zero zero f r hx hy e m = e
one_bit zero (suc zero) f r hx hy e m = absurd (omega arith)
one_bit zero (suc (suc y)) f r hx hy e m = absurd (omega arith)
one_bit (suc zero) zero f r hx hy e m = e
one_bit (suc zero) (suc zero) f r hx hy e m = e
one_bit (suc zero) (suc (suc y)) f r hx hy e m = absurd (omega arith)
one_bit (suc (suc x)) y f r hx hy e m = absurd (omega arith)

-- where a bit must rise, AND with the new value does not leave it
lost : (i k b o n : ℕ) → decides (rise_in i k b o n) ≡ SectorErase → bit_and o n ≡ n → ⊥
unfolding rise_in
lost i zero b o n e q = let z : ◌≡◌ {A = ℕ} 0 1 = cc in absurd (omega arith)
lost i (suc k) b o n e q =
    let s = and_step o n in
    let low : min (o % 2) (n % 2) ≡ n % 2 = omega (arith, s, q) in
    let high : bit_and (o / 2) (n / 2) ≡ n / 2 = omega (arith, s, q) in
    lost i k (b + 1) (o / 2) (n / 2) (one_bit (o % 2) (n % 2) (Some (i, b)) (rise_in i k (b + 1) (o / 2) (n / 2)) (omega arith) (omega arith) e low) high

module _ (w : ℕ) where
  -- one cell
  rise_one : (i o x : ℕ) → fits_in w x ≡ true → decides (rise_in i w 0 (value_of w o) x) ≡ erases_if (rises w o x)
  rise_one i o x f = by (rise_in i w 0 (value_of w o) x) refl
    where
      fit : x < 2 ^ w
      fit = fits_lt w x f

      same : value_of w (bit_and o x) ≡ bit_and (value_of w o) x
      same = value-and w o x ∙ ap (bit_and (value_of w o)) (value_same w x fit)

      by : (t : Option (ℕ × ℕ)) → rise_in i w 0 (value_of w o) x ≡ t → decides t ≡ erases_if (rises w o x)
      by (Some p) e =
          rw (ne_eqb (value_of w (bit_and o x)) (value_of w x) (λ q. lost i w 0 (value_of w o) x (ap decides e) (sym same ∙ (q ∙ value_same w x fit))))
      by None e = rw (eq-eqb (value_of w (bit_and o x)) (value_of w x) (same ∙ (clears i w 0 (value_of w o) x fit e ∙ sym (value_same w x fit))))

  -- the cells from the i-th on
  rises-are : (i : ℕ) (l v : List ℕ) → fit_all w v ≡ true → decides (rise_from w i (map (value_of w) l) v) ≡ erases_if (ltb 0 (rising w l v))
  unfolding rise_from fit_all
  rises-are i [] v f = refl
  rises-are i (o ∷ l) [] f = refl
  rises-are i (o ∷ l) (x ∷ v) f =
      let b = both (fits_in w x) (fit_all w v) f in
      either (rise_in i w 0 (value_of w o) x) (rise_from w (i + 1) (map (value_of w) l) v) (rises w o x) (rising w l v) (rise_one i o x b.0) (rises-are (i + 1) l v b.1)
    where
      either : (r s : Option (ℕ × ℕ)) (b : Bool) (n : ℕ) → decides r ≡ erases_if b → decides s ≡ erases_if (ltb 0 n) → decides (first_found r s) ≡ erases_if (ltb 0 (pick b 1 0 + n))
      either (Some found) s true n p q = rw (lt-ltb 0 (1 + n) (omega arith))
      either (Some found) s false n p q = let z : ◌≡◌ {A = ℕ} 0 1 = cc in absurd (omega arith)
      either None s true n p q = let z : ◌≡◌ {A = ℕ} 0 1 = cc in absurd (omega arith)
      either None s false n p q = rw (zero-add n) q

  -- a sector's decision by how many of its cells have such a bit
  pub decision-is : (l v : List ℕ) → fit_all w v ≡ true → decision_of w (map (value_of w) l) v ≡ erases_if (ltb 0 (rising w l v))
  decision-is l v f = rises-are 0 l v f
