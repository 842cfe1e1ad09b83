-- Where no bit must rise, AND with the new value leaves it.
use Rattle.std.proofs.Common.{Option, Some, None, ◌≡◌, ℕ, zero, suc, ◌+◌, ◌/◌, ◌%◌, ◌^◌, ◌<◌, min, true, eqb, List, [], ◌∷◌, map, length, get_or, sym, refl, ap, ◌∙◌, le_of_suc-le-suc, not-suc-le-zero, pow-suc, arith}
use lib.Bits.{bit_and, and_step, and_zero_r}
use Rattle.parts.specs.Pick.{pick}
use Rattle.parts.specs.Width.{value_of, fits_in}
use Rattle.parts.proofs.Values.{fits_lt}
use Rattle.values.specs.declared.search.Decision.TheVariants.{NoErase}
use Rattle.values.specs.Search.{rise_in, first_found, rise_from, decides, decision_of}

-- one bit: what is left does not rise, and the bit stays
one_bit : (i b x y : ℕ) (r : Option (ℕ × ℕ)) → x < 2 → y < 2 → pick (eqb x 0) (pick (eqb y 1) (Some (i, b)) r) r ≡ None → (r ≡ None) × (min x y ≡ y)
one_bit i b zero zero r hx hy e = (e, refl)
one_bit i b zero (suc zero) r hx hy e = cc
one_bit i b zero (suc (suc y)) r hx hy e = absurd (omega arith)
one_bit i b (suc zero) zero r hx hy e = (e, refl)
one_bit i b (suc zero) (suc zero) r hx hy e = (e, refl)
one_bit i b (suc zero) (suc (suc y)) r hx hy e = absurd (omega arith)
one_bit i b (suc (suc x)) y r hx hy e = absurd (omega arith)

-- a cell
pub clears : (i k b o n : ℕ) → n < 2 ^ k → rise_in i k b o n ≡ None → bit_and o n ≡ n
unfolding rise_in
clears i zero b o n h e =
    let z : n ≡ 0 = omega arith in
    ap (λ (m : ℕ). bit_and o m) z ∙ (and_zero_r o ∙ sym z)
clears i (suc k) b o n h e =
    let p = pow-suc 2 k in
    let q = one_bit i b (o % 2) (n % 2) (rise_in i k (b + 1) (o / 2) (n / 2)) (omega arith) (omega arith) e in
    let l : n / 2 < 2 ^ k = omega arith in
    let r = clears i k (b + 1) (o / 2) (n / 2) l q.0 in
    and_step o n ∙ omega (arith, r, q.1)

-- neither of two searches found one
neither : (r s : Option (ℕ × ℕ)) → first_found r s ≡ None → (r ≡ None) × (s ≡ None)
neither (Some p) s e = cc
neither None s e = (refl, e)

-- cells that hold l, at each place
nowhere : (w c : ℕ) (l v : List ℕ) (i : ℕ) → rise_from w c (map (value_of w) l) v ≡ None → i < length l → i < length v → fits_in w (get_or v i 0) ≡ true
    → bit_and (value_of w (get_or l i 0)) (get_or v i 0) ≡ get_or v i 0
unfolding rise_from
nowhere w c [] v i e hl hv f = absurd (not-suc-le-zero hl)
nowhere w c (o ∷ l) [] i e hl hv f = absurd (not-suc-le-zero hv)
nowhere w c (o ∷ l) (x ∷ v) zero e hl hv f = clears c w 0 (value_of w o) x (fits_lt w x f) (neither (rise_in c w 0 (value_of w o) x) (rise_from w (c + 1) (map (value_of w) l) v) e).0
nowhere w c (o ∷ l) (x ∷ v) (suc i) e hl hv f =
    nowhere w (c + 1) l v i (neither (rise_in c w 0 (value_of w o) x) (rise_from w (c + 1) (map (value_of w) l) v) e).1 (le_of_suc-le-suc hl) (le_of_suc-le-suc hv) f

-- a sector decided unerased
pub cleared : (w : ℕ) (l v : List ℕ) (i : ℕ) → decision_of w (map (value_of w) l) v ≡ NoErase → i < length l → i < length v → fits_in w (get_or v i 0) ≡ true
    → bit_and (value_of w (get_or l i 0)) (get_or v i 0) ≡ get_or v i 0
cleared w l v i e = nowhere w 0 l v i (none (rise_from w 0 (map (value_of w) l) v) e)
  where
    none : (r : Option (ℕ × ℕ)) → decides r ≡ NoErase → r ≡ None
    none (Some p) q = cc
    none None q = refl
