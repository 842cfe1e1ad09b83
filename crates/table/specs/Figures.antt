-- The figures of the part table.
use Rattle.std.specs.Prelude.{ℕ, Result, Ok, Err, List, [], ◌∷◌, eqb, ltb, get_or}
use Rattle.parts.specs.Names.{NO-ENTRY}
use Rattle.parts.specs.Pick.{pick, ◌when◌, ◌else◌, ◌or_else◌}
use Rattle.parts.specs.Table.{row_of, part_refusal}
use Rattle.parts.specs.Refused.{number_of}
use Rattle.parts.specs.declared.refusal.Refusal.{Refusal}
use Rattle.parts.specs.declared.table.Row.{Row}

-- a figure: 0 or the refusal, and the number
pub record Figure : Type 0 where
  pub answer : ℕ
  pub value : ℕ

abbrev pub figure : ℕ → ℕ → Figure
figure n v = record { answer = n; value = v }

-- the columns from Width, 0, to Chip, 6
abbrev pub columns : Row → List ℕ
columns r = r.width ∷ r.cells ∷ r.block ∷ r.device ∷ r.program ∷ r.erase ∷ r.chip ∷ []

-- 1, then 15 for a column above 6
abbrev pub figure_refusal : ℕ → ℕ → ℕ
figure_refusal part column = part_refusal part or_else NO-ENTRY when ltb 6 column else 0

-- the figure of a part in a column, 0 beside a refusal
unfoldable pub figure_of : ℕ → ℕ → Figure
figure_of part column =
    pick (eqb (figure_refusal part column) 0)
    (figure 0 (get_or (columns (row_of part)) column 0))
    (figure (figure_refusal part column) 0)

-- what the call tells: 0 beside a refusal
abbrev pub told_figure : Result ℕ Refusal → Figure
told_figure (Ok n) = figure 0 n
told_figure (Err e) = figure (number_of e) 0
