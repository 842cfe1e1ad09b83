-- The sum of a range's values in 16 bits.
use Rattle.std.specs.Prelude.{ℕ, ◌+◌, ◌%◌, List, [], ◌∷◌}
use Rattle.parts.specs.Width.{value_of}

-- the values added up
unfoldable pub total_of : ℕ → List ℕ → ℕ
total_of w [] = 0
total_of w (x ∷ xs) = value_of w x + total_of w xs

-- in 16 bits, wrapping
abbrev pub sum_of : ℕ → List ℕ → ℕ
sum_of w xs = total_of w xs % 65536
