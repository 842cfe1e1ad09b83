-- What a width decides: a cell's value, blank, the words that fit, and the sector's size.
use Rattle.std.specs.Prelude.{ℕ, ◌-◌, ◌%◌, ◌^◌, Bool, eqb, leb}
use Rattle.parts.specs.Pick.{pick}

-- the value of a word: its low bits, as many as the width
abbrev pub value_of : ℕ → ℕ → ℕ
value_of width x = x % 2 ^ width

-- blank: each bit 1, FFFFH or FFH
abbrev pub blank_of : ℕ → ℕ
blank_of width = 2 ^ width - 1

-- a word is a value of the width: not above blank (255 on an eight-bit part)
unfoldable pub fits_in : ℕ → ℕ → Bool
fits_in width x = leb x (blank_of width)

-- sectors have 2,048 words, or 4,096 bytes on eight-bit parts
unfoldable pub sector_size : ℕ → ℕ
sector_size width = pick (eqb width 8) 4096 2048
