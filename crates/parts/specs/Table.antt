-- The part table of document 01, one line a part.
use Rattle.std.specs.Prelude.{ℕ, ◌^◌, Result, Ok, Err, Bool, true, false, List, [], ◌∷◌, ltb, get_or}
use Rattle.parts.specs.Names.{NO-PART}
use Rattle.parts.specs.Pick.{◌when◌, ◌else◌}
use Rattle.parts.specs.declared.table.End.{End}
use Rattle.parts.specs.declared.table.End.TheVariants.{Neither, Lowest, Highest}
use Rattle.parts.specs.Refused.{number_of}
use Rattle.parts.specs.declared.refusal.Refusal.{Refusal}
use Rattle.parts.specs.declared.table.Line.{Line}
use Rattle.parts.specs.declared.table.Row.{Row}

-- a part's line: the columns of the table, and beside them U1, U2, two to the compared bits, the codes of sector and block, the end that WP# low protects, and whether an erase can be suspended
abbrev pub line : ℕ → ℕ → ℕ → ℕ → ℕ → ℕ → ℕ → ℕ → ℕ → ℕ → ℕ → ℕ → End → Bool → Line
line width cells block device program erase chip u1 u2 compared sector-code block-code protected suspends =
    record {
      columns = width ∷ cells ∷ block ∷ device ∷ program ∷ erase ∷ chip ∷ [];
      beside = u1 ∷ u2 ∷ compared ∷ sector-code ∷ block-code ∷ [];
      protected = protected;
      suspends = suspends;
    }

abbrev pub lines : List Line
lines =
    -- Width, Cells, Block (0: none), Device ID, Program, Sector/block, Chip; U1, U2, compared, sector code, block code, protected end, an erase can be suspended
    line 16 8192 4096 0xfff0 14 18000 70000 0x555 0x2aa (2 ^ 11) 0x30 0x50 Lowest false  -- 0 bench (house)
    ∷ line 8 131072 0 0xb5 14 18000 70000 0x5555 0x2aaa (2 ^ 15) 0x30 0x50 Neither false  -- 1 SF010A
    ∷ line 8 262144 0 0xb6 14 18000 70000 0x5555 0x2aaa (2 ^ 15) 0x30 0x50 Neither false  -- 2 SF020A
    ∷ line 8 524288 0 0xb7 14 18000 70000 0x5555 0x2aaa (2 ^ 15) 0x30 0x50 Neither false  -- 3 SF040
    ∷ line 16 131072 32768 0x2789 14 18000 70000 0x5555 0x2aaa (2 ^ 15) 0x30 0x50 Neither false  -- 4 VF200A
    ∷ line 16 262144 32768 0x2780 14 18000 70000 0x5555 0x2aaa (2 ^ 15) 0x30 0x50 Neither false  -- 5 VF400A
    ∷ line 16 524288 32768 0x2781 14 18000 70000 0x5555 0x2aaa (2 ^ 15) 0x30 0x50 Neither false  -- 6 VF800A
    ∷ line 16 1048576 32768 0x274b 28 36000 140000 0x5555 0x2aaa (2 ^ 15) 0x30 0x50 Lowest true  -- 7 WF1601
    ∷ line 16 1048576 32768 0x274a 28 36000 140000 0x5555 0x2aaa (2 ^ 15) 0x30 0x50 Highest true  -- 8 WF1602
    ∷ line 16 4194304 32768 0x236d 7 18000 40000 0x555 0x2aa (2 ^ 11) 0x50 0x30 Lowest true  -- 9 VF6401B
    ∷ line 16 4194304 32768 0x236c 7 18000 40000 0x555 0x2aa (2 ^ 11) 0x50 0x30 Highest true  -- 10 VF6402B
    ∷ []

-- past the table there is no number: each is read as 0
abbrev pub no_line : Line
no_line = record { columns = []; beside = []; protected = Neither; suspends = false }

-- each number of a line by its name
abbrev pub row_from : Line → Row
row_from l =
    record {
      width = get_or l.columns 0 0;
      cells = get_or l.columns 1 0;
      block = get_or l.columns 2 0;
      device = get_or l.columns 3 0;
      program = get_or l.columns 4 0;
      erase = get_or l.columns 5 0;
      chip = get_or l.columns 6 0;
      u1 = get_or l.beside 0 0;
      u2 = get_or l.beside 1 0;
      compared = get_or l.beside 2 0;
      sector_code = get_or l.beside 3 0;
      block_code = get_or l.beside 4 0;
      protected = l.protected;
      suspends = l.suspends;
    }

-- the line of a part
abbrev pub line_of : ℕ → Line
line_of part = get_or lines part no_line

-- the row of a part
unfoldable pub row_of : ℕ → Row
row_of part = row_from (line_of part)

-- refusal 1: a part above 10
unfoldable pub part_refusal : ℕ → ℕ
part_refusal part = NO-PART when ltb 10 part else 0

-- what is known of a part: 0 or the refusal, and the row
pub record Found : Type 0 where
  pub answer : ℕ
  pub row : Row

-- the row by the part's number
abbrev pub found_of : ℕ → Found
found_of part = record { answer = part_refusal part; row = row_of part }

-- what a call for it tells: a row of zeros beside a refusal
abbrev pub told_row : Result Row Refusal → Found
told_row (Ok r) = record { answer = 0; row = r }
told_row (Err e) = record { answer = number_of e; row = row_from no_line }
