-- The ranges of a part: an address's sector and block, and the protected end.
use Rattle.std.specs.Prelude.{ℕ, ◌-◌, ◌*◌, ◌/◌, Bool, false, ltb}
use Rattle.parts.specs.Pick.{pick}
use Rattle.parts.specs.Width.{sector_size}
use Rattle.parts.specs.declared.span.Span.{Span}
use Rattle.parts.specs.declared.table.End.{End}
use Rattle.parts.specs.declared.table.End.TheVariants.{Neither, Lowest, Highest}
use Rattle.parts.specs.declared.table.Row.{Row}

-- count cells from an address on
abbrev pub span : ℕ → ℕ → Span
span a n = record { first = a; count = n }

-- a range holds an address
unfoldable pub holdsb : Span → ℕ → Bool
holdsb s a = pick (ltb a s.first) false (ltb (a - s.first) s.count)

-- of the ranges of size cells, one after the other from address 0, the one that holds an address
abbrev pub range_of : ℕ → ℕ → Span
range_of size a = span (a / size * size) size

-- the sector of an address
unfoldable pub sector_of : Row → ℕ → Span
sector_of r a = range_of (sector_size r.width) a

-- a part has blocks
unfoldable pub has_blocks : Row → Bool
has_blocks r = ltb 0 r.block

-- the block of an address
unfoldable pub block_of : Row → ℕ → Span
block_of r a = range_of r.block a

-- the block at an end of the part: none, that of the lowest address or that of the highest
abbrev pub block_at : Row → End → Span
block_at r Neither = span 0 0
block_at r Lowest = block_of r 0
block_at r Highest = block_of r (r.cells - 1)

-- what WP# low protects
unfoldable pub protected_of : Row → Span
protected_of r = block_at r r.protected
