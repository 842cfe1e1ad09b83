-- Commands: those a part has, their table times, and how many polls they take.
use Rattle.std.specs.Prelude.{ℕ, ◌+◌, ◌-◌, ◌/◌, List, [], ◌∷◌, Bool, true, false, eqb, ltb, leb, get_or}
use Rattle.parts.specs.Names.{BLOCK, CHIP}
use Rattle.parts.specs.Pick.{pick, ◌when◌, ◌else◌}
use Rattle.parts.specs.Span.{has_blocks}
use Rattle.parts.specs.declared.table.Row.{Row}

-- a part has a command: none above 3, and block only where it has blocks
unfoldable pub has_command : Row → ℕ → Bool
has_command r command = false when ltb CHIP command else has_blocks r when eqb command BLOCK else true

-- the times of the commands, in the order of their numbers: program, sector, block, chip
abbrev pub times : Row → List ℕ
times r = r.program ∷ r.erase ∷ r.erase ∷ r.chip ∷ []

-- T: the table time of a command
unfoldable pub time_of : Row → ℕ → ℕ
time_of r command = get_or (times r) command 0

-- a polling interval: 1 to 1,000 µs
unfoldable pub is_interval : ℕ → Bool
is_interval p = false when ltb p 1 else leb p 1000

-- T / p rounded up; 0 for no p
unfoldable pub rounded_up : ℕ → ℕ → ℕ
rounded_up T p = pick (eqb p 0) 0 ((T + (p - 1)) / p)

-- N of a command: how many polls, p apart, reach its table time
abbrev pub polls_of : Row → ℕ → ℕ → ℕ
polls_of r command p = rounded_up (time_of r command) p
