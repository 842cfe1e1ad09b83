-- The refusals of a command and of a driver's start, in document 01's order.
use Rattle.std.specs.Prelude.{ℕ, eqb, ltb}
use Rattle.parts.specs.Names.{PROGRAM, CHIP, NO-ADDRESS, WIDE-DATA, BAD-INTERVAL, NO-COMMAND}
use Rattle.parts.specs.Pick.{◌when◌, ◌unless◌, ◌else◌, ◌or_else◌}
use Rattle.parts.specs.Width.{fits_in}
use Rattle.parts.specs.Table.{found_of}
use Rattle.parts.specs.Time.{has_command, is_interval}
use Rattle.parts.specs.declared.table.Row.{Row}
use Rattle.parts.specs.Table.{Found}

-- 4 for data that does not fit, of a program only
unfoldable pub data_refusal : Row → ℕ → ℕ → ℕ
data_refusal r command x = 0 unless eqb command PROGRAM else WIDE-DATA unless fits_in r.width x else 0

-- 14 for a command that the part does not have; 3 for an address at or past the cells, but not of a chip erase; 4
unfoldable pub target_refusal : Row → ℕ → ℕ → ℕ → ℕ
target_refusal r command a x =
    NO-COMMAND unless has_command r command
    else 0 when eqb command CHIP
    else NO-ADDRESS unless ltb a r.cells
    else data_refusal r command x

-- of a command's writes, on a part that was looked up
abbrev pub command_on : Found → ℕ → ℕ → ℕ → ℕ
command_on f command a x = f.answer or_else target_refusal f.row command a x

-- of a command's writes: 1, 14, 3, 4
unfoldable pub command_refusal : ℕ → ℕ → ℕ → ℕ → ℕ
command_refusal part command a x = command_on (found_of part) command a x

-- of a driver's start, on a part that was looked up: 10 for a polling interval that is not 1 to 1,000
abbrev pub start_on : Found → ℕ → ℕ → ℕ → ℕ → ℕ
start_on f command a x p =
    f.answer
    or_else BAD-INTERVAL unless is_interval p
    else target_refusal f.row command a x

-- of a driver's start: 1, 10, 14, 3, 4
unfoldable pub start_refusal : ℕ → ℕ → ℕ → ℕ → ℕ → ℕ
start_refusal part command a x p = start_on (found_of part) command a x p
