-- What an operation leaves on the cells, finished or cut short.
use Rattle.std.specs.Prelude.{ℕ, List, ◌++◌, map, eqb, take, drop}
use Rattle.std.specs.Int.Bits.{bit_and, bit_or}
use Rattle.parts.specs.Names.{PROGRAM, SECTOR, BLOCK}
use Rattle.parts.specs.Pick.{pick, ◌when◌, ◌else◌}
use Rattle.parts.specs.Width.{value_of, blank_of}
use Rattle.parts.specs.Span.{span, sector_of, block_of}
use Rattle.parts.specs.declared.span.Span.{Span}
use Rattle.parts.specs.declared.table.Row.{Row}
use Rattle.device.specs.declared.state.Operation.{Operation}

-- the cells of an operation: the programmed cell, the sector, the block or the chip
unfoldable pub cells_of : Row → Operation → Span
cells_of r o =
    span o.address 1 when eqb o.kind PROGRAM
    else sector_of r o.address when eqb o.kind SECTOR
    else block_of r o.address when eqb o.kind BLOCK
    else span 0 r.cells

-- f at each cell of a range; the others as they were
abbrev pub over : (ℕ → ℕ) → Span → List ℕ → List ℕ
over f s cells = take s.first cells ++ (map f (take s.count (drop s.first cells)) ++ drop s.count (drop s.first cells))

-- program leaves old AND data; erase leaves blank
abbrev pub finished : Row → Operation → ℕ → ℕ
finished r o old = pick (eqb o.kind PROGRAM) (bit_and old o.«data») (blank_of r.width)

-- cut short: a programmed cell is old AND (data OR scar), an erased one old OR scar, on the part's width
abbrev pub scarred : Row → Operation → ℕ → ℕ → ℕ
scarred r o scar old =
    pick (eqb o.kind PROGRAM)
    (bit_and old (bit_or o.«data» (value_of r.width scar)))
    (bit_or (value_of r.width old) (value_of r.width scar))

-- the cells once the operation has completed
unfoldable pub complete_on : Row → Operation → List ℕ → List ℕ
complete_on r o cells = over (finished r o) (cells_of r o) cells

-- the cells after a power cut while it ran
unfoldable pub cut_on : Row → Operation → ℕ → List ℕ → List ℕ
cut_on r o scar cells = over (scarred r o scar) (cells_of r o) cells
