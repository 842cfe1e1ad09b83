-- Numbers in bytes, little-endian.
use Rattle.std.specs.Prelude.{ℕ, ◌+◌, ◌*◌, List, [], ◌∷◌, take, drop}

-- the number that bytes spell, the low byte first
unfoldable pub number : List ℕ → ℕ
number [] = 0
number (b ∷ bs) = b + 256 * number bs

-- the number in n bytes from byte a on; a byte past the end counts 0
unfoldable pub field : List ℕ → ℕ → ℕ → ℕ
field bytes a n = number (take n (drop a bytes))
