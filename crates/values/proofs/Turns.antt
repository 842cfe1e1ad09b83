-- The search for a rising bit, in a cell and over the cells; and by the library's words the values at the front, those that fit, and the sum.
use Rattle.std.proofs.Common.{◌≡◌, ◌⊎◌, inl, inr, ℕ, suc, ◌+◌, ◌-◌, ◌/◌, ◌%◌, ◌<◌, ◌≤◌, Bool, true, false, cond, eqb, Some, None, List, [], ◌∷◌, length, get_or, drop, fold, refl, ◌∙◌, add-one, arith, drop_of_length-le, drop-cons, eq-eqb, ne_eqb}
use Rattle.std.specs.List.{prefix_len}
use Rattle.parts.specs.Pick.{pick}
use Rattle.parts.specs.Width.{value_of, fits_in}
use Rattle.values.specs.Search.{rise_in, rise_from, leading_of}
use Rattle.values.specs.Total.{total_of}
use Rattle.values.specs.Fit.{fit_all}

-- ---- the bits of a cell, from bit b on
module _ (i w b o n : ℕ) (more : b < w) where
  left : w - b ≡ suc (w - (b + 1))
  left = omega arith

  pub bit-hit : o % 2 ≡ 0 → n % 2 ≡ 1 → rise_in i (w - b) b o n ≡ Some (i, b)
  unfolding rise_in
  bit-hit p q = rw left (simp (eq-eqb _ _ p, eq-eqb _ _ q))

  pub bit-miss-old : (o % 2 ≡ 0 → ⊥) → rise_in i (w - b) b o n ≡ rise_in i (w - (b + 1)) (b + 1) (o / 2) (n / 2)
  unfolding rise_in
  bit-miss-old p = rw left (simp (ne_eqb _ _ p))

  pub bit-miss-new : o % 2 ≡ 0 → (n % 2 ≡ 1 → ⊥) → rise_in i (w - b) b o n ≡ rise_in i (w - (b + 1)) (b + 1) (o / 2) (n / 2)
  unfolding rise_in
  bit-miss-new p q = rw left (simp (eq-eqb _ _ p, ne_eqb _ _ q))

pub bit-none : (i w b o n : ℕ) → w ≤ b → rise_in i (w - b) b o n ≡ None
unfolding rise_in
bit-none i w b o n h = let z : w - b ≡ 0 = omega arith in rw z

pub ruleset bit_misses = (bit-miss-old, bit-miss-new)

-- ---- the cells, from the i-th on
module _ (w i o n : ℕ) (os ns olds news : List ℕ) (head-old : os ≡ o ∷ olds) (head-new : ns ≡ n ∷ news) where
  pub rest-hit : (b : ℕ) → rise_in i w 0 o n ≡ Some (i, b) → rise_from w i os ns ≡ Some (i, b)
  unfolding rise_from
  rest-hit b e = rw (head-old, head-new) (rw e)

  pub rest-miss : rise_in i w 0 o n ≡ None → rise_from w i os ns ≡ rise_from w (i + 1) olds news
  unfolding rise_from
  rest-miss e = rw (head-old, head-new) (rw e)

pub rest-none : (w i : ℕ) (os ns : List ℕ) → (os ≡ []) ⊎ (ns ≡ []) → rise_from w i os ns ≡ None
unfolding rise_from
rest-none w i [] ns e = refl
rest-none w i (o ∷ os) [] e = refl
rest-none w i (o ∷ os) (n ∷ ns) (inl e) = cc
rest-none w i (o ∷ os) (n ∷ ns) (inr e) = cc

-- ---- values at the front, values that fit, and their sum
pub prefix-leading : (v : ℕ) (xs : List ℕ) → prefix_len (λ x. eqb x v) xs ≡ leading_of v xs
unfolding leading_of
prefix-leading v [] = refl
prefix-leading v (x ∷ xs) = by (eqb x v) (prefix-leading v xs)
  where
    by : (b : Bool) → prefix_len (λ y. eqb y v) xs ≡ leading_of v xs → cond b (1 + prefix_len (λ y. eqb y v) xs) 0 ≡ pick b (1 + leading_of v xs) 0
    by true e = rw e
    by false e = refl

module _ (w : ℕ) (xs : List ℕ) (i : ℕ) where
  pub fit-more : i < length xs → fits_in w (get_or xs i 0) ≡ true → fit_all w (drop i xs) ≡ fit_all w (drop (i + 1) xs)
  unfolding fit_all
  fit-more h e = rw (drop-cons xs i 0 h) (simp (e, add-one))

  pub fit-ends : i < length xs → fits_in w (get_or xs i 0) ≡ false → fit_all w (drop i xs) ≡ false
  unfolding fit_all
  fit-ends h e = rw (drop-cons xs i 0 h) (simp e)

  pub fit_none : length xs ≤ i → fit_all w (drop i xs) ≡ true
  unfolding fit_all
  fit_none h = rw (drop_of_length-le xs h)

pub fold-total : (w a : ℕ) (xs : List ℕ) → a < 65536 → fold (λ s x. (s + value_of w x) % 65536) a xs ≡ (a + total_of w xs) % 65536
unfolding total_of
fold-total w a [] h = omega arith
fold-total w a (x ∷ xs) h = fold-total w ((a + value_of w x) % 65536) xs (omega arith) ∙ omega arith

pub fold-sum : (w : ℕ) (xs : List ℕ) → fold (λ s x. (s + value_of w x) % 65536) 0 xs ≡ total_of w xs % 65536
fold-sum w xs = let z : 0 + total_of w xs ≡ total_of w xs = omega arith in fold-total w 0 xs (omega arith) ∙ rw z
