-- The job file: remarks, image and a trailer that points back.
use Rattle.std.specs.Prelude.{ℕ, zero, suc, ◌+◌, ◌-◌, ◌/◌, ◌%◌, Bool, true, false, List, [], ◌∷◌, eqb, ltb, length, drop}
use Rattle.parts.specs.Names.{BAD-FILE}
use Rattle.parts.specs.Pick.{pick, ◌when◌, ◌else◌}
use Rattle.jobfile.specs.Bytes.{field}
use Rattle.jobfile.specs.declared.trailer.JobFile.{JobFile}

-- ---- the fields of a trailer t, 16 bytes
-- bytes 0-1: the part
abbrev pub part_of : List ℕ → ℕ
part_of t = field t 0 2

-- byte 2: the WP# level, 0 low, 1 high
abbrev pub level_of : List ℕ → ℕ
level_of t = field t 2 1

-- byte 3: zero
abbrev pub zero_of : List ℕ → ℕ
zero_of t = field t 3 1

-- bytes 4-7: the first address
abbrev pub first_of : List ℕ → ℕ
first_of t = field t 4 4

-- bytes 8-9: p
abbrev pub p_of : List ℕ → ℕ
p_of t = field t 8 2

-- bytes 10-11: zero
abbrev pub zeros_of : List ℕ → ℕ
zeros_of t = field t 10 2

-- bytes 12-15: the distance in bytes from the trailer back to the image
abbrev pub distance_of : List ℕ → ℕ
distance_of t = field t 12 4

-- ---- the file
-- a trailer is wrong that has so many bytes before it: a wrong zero, a level above 1, an odd distance, or one beyond the file's start
unfoldable pub wrong : List ℕ → ℕ → Bool
wrong t before =
    true when ltb 0 (zero_of t)
    else true when ltb 0 (zeros_of t)
    else true when ltb 1 (level_of t)
    else true when eqb (distance_of t % 2) 1
    else ltb before (distance_of t)

-- the trailer of a file: its last 16 bytes
abbrev pub trailer_of : List ℕ → List ℕ
trailer_of file = drop (length file - 16) file

-- a file is malformed: under 16 bytes, or its trailer is wrong
unfoldable pub malformed : List ℕ → Bool
malformed file = true when ltb (length file) 16 else wrong (trailer_of file) (length file - 16)

-- refusal 13, all numbers beside it 0
abbrev pub refused : JobFile
refused = record { answer = BAD-FILE; part = 0; wp = false; first = 0; p = 0; start = 0; count = 0 }

-- what is asked, by its numbers
abbrev pub asks : ℕ → Bool → ℕ → ℕ → ℕ → ℕ → JobFile
asks part wp first p start count =
    record { answer = 0; part = part; wp = wp; first = first; p = p; start = start; count = count }

-- what a trailer asks that has so many bytes before it: the image begins the distance before the trailer, two bytes a value
abbrev pub asked : List ℕ → ℕ → JobFile
asked t before =
    asks (part_of t) (eqb (level_of t) 1) (first_of t) (p_of t) (before - distance_of t) (distance_of t / 2)

-- what a job file asks
unfoldable pub job_of : List ℕ → JobFile
job_of file = pick (malformed file) refused (asked (trailer_of file) (length file - 16))

-- n values of a file from byte start on, two bytes each; a byte past the file counts 0
unfoldable pub values_of : List ℕ → ℕ → ℕ → List ℕ
values_of file start zero = []
values_of file start (suc n) = field file start 2 ∷ values_of file (start + 2) n
