-- Where a bit must rise, the decision of a sector, and values to be passed over.
use Rattle.std.specs.Prelude.{ℕ, zero, suc, ◌+◌, ◌/◌, ◌%◌, List, [], ◌∷◌, ◌==◌, Option, Some, None}
use Rattle.parts.specs.Pick.{pick}
use Rattle.values.specs.declared.search.Decision.{Decision}
use Rattle.values.specs.declared.search.Decision.TheVariants.{NoErase, SectorErase}

-- of cell i, the lowest of the k bits from bit b on that is 0 in the old value and 1 in the new, both shifted to begin there
unfoldable pub rise_in : ℕ → ℕ → ℕ → ℕ → ℕ → Option (ℕ × ℕ)
rise_in i zero b o n = None
rise_in i (suc k) b o n = pick (o % 2 == 0) (pick (n % 2 == 1) (Some (i, b)) (rise_in i k (b + 1) (o / 2) (n / 2))) (rise_in i k (b + 1) (o / 2) (n / 2))

-- the first of two searches, or where that found nothing the second
abbrev pub first_found : Option (ℕ × ℕ) → Option (ℕ × ℕ) → Option (ℕ × ℕ)
first_found (Some p) r = Some p
first_found None r = r

-- the first cell with such a bit, the cells counted from i on
unfoldable pub rise_from : ℕ → ℕ → List ℕ → List ℕ → Option (ℕ × ℕ)
rise_from w i [] ns = None
rise_from w i (o ∷ os) [] = None
rise_from w i (o ∷ os) (n ∷ ns) = first_found (rise_in i w 0 o n) (rise_from w (i + 1) os ns)

-- a bit that must rise asks for an erase
abbrev pub decides : Option (ℕ × ℕ) → Decision
decides (Some p) = SectorErase
decides None = NoErase

-- a sector's decision, from the values read and the image's
abbrev pub decision_of : ℕ → List ℕ → List ℕ → Decision
decision_of w read image = decides (rise_from w 0 read image)

-- how many of the values at the front are v
unfoldable pub leading_of : ℕ → List ℕ → ℕ
leading_of v [] = 0
leading_of v (x ∷ xs) = pick (x == v) (1 + leading_of v xs) 0
