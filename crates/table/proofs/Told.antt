-- What stands beside the refusal of a part.
use Rattle.std.specs.Prelude.{◌≡◌, ◌<◌, ℕ, get_or}
use mathlib.Core.Path.{ap}
use lib.ListN.{get_or-eq_default}
use Rattle.parts.specs.Table.{no_line, lines, line_of, row_from}

-- past the table each number is 0
pub row-past : (part : ℕ) → 10 < part → row_from (line_of part) ≡ row_from no_line
row-past part h = ap row_from (get_or-eq_default lines no_line h)

-- what the check proves `part_row` by
pub ruleset past = (row-past)
