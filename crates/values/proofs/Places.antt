-- What is known of values by their places: all fit where every one does, and no more are at the front than there are.
use Rattle.std.proofs.Common.{◌≡◌, ℕ, zero, suc, ◌+◌, ◌<◌, ◌≤◌, true, eqb, List, [], ◌∷◌, length, get_or, zero-le, le_of_suc-le-suc, not-suc-le-zero, arith}
use Rattle.parts.specs.Width.{fits_in}
use Rattle.parts.proofs.Every.{split, both}
use Rattle.values.specs.Search.{leading_of}
use Rattle.values.specs.Fit.{fit_all}

-- where all fit, the value at each place does
pub fit_at : (w : ℕ) (xs : List ℕ) → fit_all w xs ≡ true → (i : ℕ) → i < length xs → fits_in w (get_or xs i 0) ≡ true
unfolding fit_all
fit_at w [] e i h = absurd (not-suc-le-zero h)
fit_at w (x ∷ xs) e zero h = (both (fits_in w x) (fit_all w xs) e).0
fit_at w (x ∷ xs) e (suc i) h = fit_at w xs (both (fits_in w x) (fit_all w xs) e).1 i (le_of_suc-le-suc h)

-- no more are at the front than there are
pub leading_le : (v : ℕ) (xs : List ℕ) → leading_of v xs ≤ length xs
unfolding leading_of
leading_le v [] = zero-le
leading_le v (x ∷ xs) = split (λ (n : ℕ). n ≤ suc (length xs)) (eqb x v) (1 + leading_of v xs) 0 (λ _. omega (arith, leading_le v xs)) (λ _. zero-le)
