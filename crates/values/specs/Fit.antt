-- Whether values fit a width.
use Rattle.std.specs.Prelude.{ℕ, Bool, true, false, List, [], ◌∷◌}
use Rattle.parts.specs.Pick.{pick}
use Rattle.parts.specs.Width.{fits_in}

-- every image value fits the width
unfoldable pub fit_all : ℕ → List ℕ → Bool
fit_all w [] = true
fit_all w (x ∷ xs) = pick (fits_in w x) (fit_all w xs) false
