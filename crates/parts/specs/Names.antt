-- The numbers of document 01 by name: commands, stages of a write sequence, kinds of a last cycle, bits 7, 6 and 2, the codes of suspend and resume, and the table of refusals.
-- Capitals as in the source, its `_` as `-`.
use Rattle.std.specs.Prelude.{ℕ}

-- ---- commands
-- program
abbrev pub PROGRAM : ℕ
PROGRAM = 0

-- sector erase
abbrev pub SECTOR : ℕ
SECTOR = 1

-- block erase
abbrev pub BLOCK : ℕ
BLOCK = 2

-- chip erase
abbrev pub CHIP : ℕ
CHIP = 3

-- ---- the seven stages of a write sequence
-- none begun
abbrev pub NONE-BEGUN : ℕ
NONE-BEGUN = 0

-- AAH at U1
abbrev pub FIRST-AAH : ℕ
FIRST-AAH = 1

-- 55H at U2
abbrev pub FIRST-55H : ℕ
FIRST-55H = 2

-- A0H at U1: program is armed
abbrev pub ARMED : ℕ
ARMED = 3

-- 80H at U1: it goes on
abbrev pub GONE-ON : ℕ
GONE-ON = 4

-- AAH at U1 again
abbrev pub SECOND-AAH : ℕ
SECOND-AAH = 5

-- 55H at U2 again
abbrev pub SECOND-55H : ℕ
SECOND-55H = 6

-- ---- the last cycle that was sent
-- none
abbrev pub NO-CYCLE : ℕ
NO-CYCLE = 0

-- a read
abbrev pub A-READ : ℕ
A-READ = 1

-- a write
abbrev pub A-WRITE : ℕ
A-WRITE = 2

-- ---- the bits of a word that tell how an operation stands
-- bit 7
abbrev pub BIT-7 : ℕ
BIT-7 = 128

-- bit 6
abbrev pub BIT-6 : ℕ
BIT-6 = 64

-- bit 2
abbrev pub BIT-2 : ℕ
BIT-2 = 4

-- ---- document 02, Wish 2: an erase is suspended and resumed by one write each
-- suspend, B0H
abbrev pub SUSPEND-CODE : ℕ
SUSPEND-CODE = 0xb0

-- resume, 30H
abbrev pub RESUME-CODE : ℕ
RESUME-CODE = 0x30

-- ---- refusals
-- part above 10
abbrev pub NO-PART : ℕ
NO-PART = 1

-- lent cells are not the part's number
abbrev pub WRONG-CELLS : ℕ
WRONG-CELLS = 2

-- address at or past the cells
abbrev pub NO-ADDRESS : ℕ
NO-ADDRESS = 3

-- data above 255 on an eight-bit part
abbrev pub WIDE-DATA : ℕ
WIDE-DATA = 4

-- a state out of range for its part
abbrev pub BAD-STATE : ℕ
BAD-STATE = 5

-- first or count not a multiple of the sector
abbrev pub NOT-SECTORS : ℕ
NOT-SECTORS = 6

-- first + count past the cells
abbrev pub PAST-CELLS : ℕ
PAST-CELLS = 7

-- image value above 255, eight-bit part
abbrev pub WIDE-IMAGE : ℕ
WIDE-IMAGE = 8

-- WP# low and the range holds a protected cell
abbrev pub PROTECTED : ℕ
PROTECTED = 9

-- p is 0 or above 1,000
abbrev pub BAD-INTERVAL : ℕ
BAD-INTERVAL = 10

-- polling gave up
abbrev pub GAVE-UP : ℕ
GAVE-UP = 11

-- confirming read differs
abbrev pub DIFFERS : ℕ
DIFFERS = 12

-- job file malformed or too long
abbrev pub BAD-FILE : ℕ
BAD-FILE = 13

-- command above 3, or block erase asked of parts 1 to 3
abbrev pub NO-COMMAND : ℕ
NO-COMMAND = 14

-- k past the command's writes, or figure above 6
abbrev pub NO-ENTRY : ℕ
NO-ENTRY = 15
