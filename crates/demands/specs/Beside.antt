-- Cases of bus cycles beside the marked ones, held by the same test: the part table entry by entry, as the chip shows it, and
-- sentences that no marked case touches.
use Rattle.std.specs.Prelude.{ℕ, ◌+◌, ◌-◌, Bool, true, false, List, [], ◌∷◌, ◌++◌, eqb}
use Rattle.parts.specs.Pick.{pick}
use Rattle.table.specs.Figures.{figure_of}
use Rattle.device.specs.declared.cycle.Action.TheVariants.{Write, Cut}
use Rattle.device.specs.declared.cycle.Cycle.{Cycle}
use Rattle.device.specs.Cycle.{cycle}
use Rattle.demands.specs.Marked.{Cell, cell, Case, write, write_low, read, idle_for, cut, arm, arm_low, unlock}

-- ---- the part table once more: what a chip of the part has to show
pub record Sheet : Type 0 where
  pub part : ℕ
  pub u1 : ℕ
  pub u2 : ℕ
  pub device : ℕ
  pub program : ℕ
  pub erase : ℕ
  pub chip : ℕ
  -- the sector's code, its size, and blank
  pub code : ℕ
  pub sector : ℕ
  pub blank : ℕ
  -- what the first read of its range shows of an erase that runs
  pub first_read : ℕ

abbrev pub sheet : ℕ → ℕ → ℕ → ℕ → ℕ → ℕ → ℕ → ℕ → ℕ → ℕ → ℕ → Sheet
sheet n u v d p e c k s b f =
    record { part = n; u1 = u; u2 = v; device = d; program = p; erase = e; chip = c; code = k; sector = s; blank = b; first_read = f }

-- No, U1, U2, Device ID, Program, Sector/block, Chip, sector code, sector, blank, an erase's first read
abbrev pub sheets : List Sheet
sheets =
    sheet 0 0x555 0x2aa 0xfff0 14 18000 70000 0x30 2048 0xffff 0x40
    ∷ sheet 1 0x5555 0x2aaa 0xb5 14 18000 70000 0x30 4096 0xff 0x40
    ∷ sheet 2 0x5555 0x2aaa 0xb6 14 18000 70000 0x30 4096 0xff 0x40
    ∷ sheet 3 0x5555 0x2aaa 0xb7 14 18000 70000 0x30 4096 0xff 0x40
    ∷ sheet 4 0x5555 0x2aaa 0x2789 14 18000 70000 0x30 2048 0xffff 0x40
    ∷ sheet 5 0x5555 0x2aaa 0x2780 14 18000 70000 0x30 2048 0xffff 0x40
    ∷ sheet 6 0x5555 0x2aaa 0x2781 14 18000 70000 0x30 2048 0xffff 0x40
    ∷ sheet 7 0x5555 0x2aaa 0x274b 28 36000 140000 0x30 2048 0xffff 0x44
    ∷ sheet 8 0x5555 0x2aaa 0x274a 28 36000 140000 0x30 2048 0xffff 0x44
    ∷ sheet 9 0x555 0x2aa 0x236d 7 18000 40000 0x50 2048 0xffff 0x44
    ∷ sheet 10 0x555 0x2aa 0x236c 7 18000 40000 0x50 2048 0xffff 0x44
    ∷ []

-- a case on a part whose cells all hold 0, or all of them blank
abbrev pub on : ℕ → ℕ → List Cycle → List ℕ → List Cell → Bool → Case
on part fill cycles reads cells pending =
    record { part = part; fill = fill; but = []; cycles = cycles; reads = reads; ranges = []; cells = cells; pending = pending }

abbrev pub identify : ℕ → ℕ → List Cycle
identify u v = write u 0xaa ∷ write v 0x55 ∷ write u 0x90 ∷ []

-- what a read at the moment of completion shows, all the part's bits but 7 inverted: of blank, and of a value whose bit 7 is 0
abbrev pub blank_at_once : ℕ
blank_at_once = 0x80

abbrev pub at_once : Sheet → ℕ → ℕ
at_once s v = s.blank - v - 0x80

-- identification at 0, 1, 2 and 256; a program that is busy a µs before its time and done then, its word read at that moment, again
-- with no time between, and a µs later; a sector erase and a chip erase, the same, and the cells around the sector
abbrev pub shown : Sheet → List Case
shown s =
    on s.part 0 (identify s.u1 s.u2 ++ (read 0 0 ∷ read 0 1 ∷ read 0 2 ∷ read 0 256 ∷ [])) (0xbf ∷ s.device ∷ 0 ∷ 0 ∷ []) [] false
    ∷ on s.part s.blank (arm s.u1 s.u2 ++ (write 7 0x12 ∷ idle_for (s.program - 1) ∷ read 0 7 ∷ [])) (0x00c0 ∷ []) (cell 7 s.blank ∷ []) true
    ∷ on s.part s.blank (arm s.u1 s.u2 ++ (write 7 0x12 ∷ idle_for (s.program - 1) ∷ read 1 7 ∷ read 0 7 ∷ read 1 7 ∷ []))
    (at_once s 0x12 ∷ at_once s 0x12 ∷ 0x12 ∷ [])
    (cell 7 0x12 ∷ [])
    false
    ∷ on s.part 0 (unlock s.u1 s.u2 ++ (write (s.sector + 5) s.code ∷ idle_for (s.erase - 1) ∷ read 0 0 ∷ [])) (0x0040 ∷ []) (cell s.sector 0 ∷ []) true
    ∷ on s.part 0 (unlock s.u1 s.u2 ++ (write (s.sector + 5) s.code ∷ idle_for s.erase ∷ []))
    []
    (cell (s.sector - 1) 0 ∷ cell s.sector s.blank ∷ cell (s.sector + s.sector - 1) s.blank ∷ cell (s.sector + s.sector) 0 ∷ [])
    false
    ∷ on s.part 0
    (unlock s.u1 s.u2 ++ (write (s.sector + 5) s.code ∷ read s.erase s.sector ∷ read 0 0 ∷ read 1 s.sector ∷ read 0 0 ∷ []))
    (blank_at_once ∷ at_once s 0 ∷ s.blank ∷ 0 ∷ [])
    []
    false
    ∷ on s.part 0 (unlock s.u1 s.u2 ++ (write s.u1 0x10 ∷ idle_for (s.chip - 1) ∷ read 0 0 ∷ [])) (s.first_read ∷ []) [] true
    ∷ on s.part 0 (unlock s.u1 s.u2 ++ (write s.u1 0x10 ∷ idle_for s.chip ∷ [])) [] [] false
    ∷ []

abbrev pub shown_all : List Sheet → List Case
shown_all [] = []
shown_all (s ∷ ss) = shown s ++ shown_all ss

-- ---- the figures of each part, from 0 on: Width, Cells, Block, Device ID, Program, Sector/block, Chip
abbrev pub figures : List (List ℕ)
figures =
    (16 ∷ 8192 ∷ 4096 ∷ 0xfff0 ∷ 14 ∷ 18000 ∷ 70000 ∷ [])
    ∷ (8 ∷ 131072 ∷ 0 ∷ 0xb5 ∷ 14 ∷ 18000 ∷ 70000 ∷ [])
    ∷ (8 ∷ 262144 ∷ 0 ∷ 0xb6 ∷ 14 ∷ 18000 ∷ 70000 ∷ [])
    ∷ (8 ∷ 524288 ∷ 0 ∷ 0xb7 ∷ 14 ∷ 18000 ∷ 70000 ∷ [])
    ∷ (16 ∷ 131072 ∷ 32768 ∷ 0x2789 ∷ 14 ∷ 18000 ∷ 70000 ∷ [])
    ∷ (16 ∷ 262144 ∷ 32768 ∷ 0x2780 ∷ 14 ∷ 18000 ∷ 70000 ∷ [])
    ∷ (16 ∷ 524288 ∷ 32768 ∷ 0x2781 ∷ 14 ∷ 18000 ∷ 70000 ∷ [])
    ∷ (16 ∷ 1048576 ∷ 32768 ∷ 0x274b ∷ 28 ∷ 36000 ∷ 140000 ∷ [])
    ∷ (16 ∷ 1048576 ∷ 32768 ∷ 0x274a ∷ 28 ∷ 36000 ∷ 140000 ∷ [])
    ∷ (16 ∷ 4194304 ∷ 32768 ∷ 0x236d ∷ 7 ∷ 18000 ∷ 40000 ∷ [])
    ∷ (16 ∷ 4194304 ∷ 32768 ∷ 0x236c ∷ 7 ∷ 18000 ∷ 40000 ∷ [])
    ∷ []

-- the figures of a part from column k on are these
abbrev pub figures_are : ℕ → ℕ → List ℕ → Bool
figures_are part k [] = true
figures_are part k (v ∷ vs) = pick (eqb (figure_of part k).value v) (figures_are part (k + 1) vs) false

-- and those of the parts from n on
abbrev pub parts_are : ℕ → List (List ℕ) → Bool
parts_are n [] = true
parts_are n (vs ∷ rest) = pick (figures_are n 0 vs) (parts_are (n + 1) rest) false

-- ---- the protected block, from both sides: a program with WP# low is ignored at one address and starts at its neighbour
abbrev pub guarded : ℕ → ℕ → ℕ → ℕ → ℕ → List Case
guarded part u v inside outside =
    on part 0xffff (arm u v ++ (write_low inside 0 ∷ read 0 0 ∷ [])) (0xffff ∷ []) [] false
    ∷ on part 0xffff (arm u v ++ (write_low outside 0 ∷ read 0 0 ∷ [])) (0x00c0 ∷ []) [] true
    ∷ []

abbrev pub protected_ends : List Case
protected_ends =
    guarded 0 0x555 0x2aa 4095 4096
    ++ (guarded 7 0x5555 0x2aaa 32767 32768
    ++ (guarded 8 0x5555 0x2aaa 1015808 1015807
    ++ (guarded 9 0x555 0x2aa 32767 32768
    ++ guarded 10 0x555 0x2aa 4161536 4161535)))

-- ---- the compared address bits: 11 on parts 0, 9 and 10, 15 on the rest
abbrev pub compared_bits : List Case
compared_bits =
    on 0 0xffff (arm 0x1555 0x12aa ++ (write 7 0 ∷ read 0 7 ∷ [])) (0x00c0 ∷ []) [] true
    ∷ on 10 0xffff (arm 0x5555 0x2aaa ++ (write 7 0 ∷ read 0 7 ∷ [])) (0x00c0 ∷ []) [] true
    ∷ on 4 0xffff (arm 0xd555 0xaaaa ++ (write 7 0 ∷ read 0 7 ∷ [])) (0x00c0 ∷ []) [] true
    ∷ on 4 0xffff (arm 0x1555 0x2aaa ++ (write 7 0 ∷ read 0 7 ∷ [])) (0xffff ∷ []) [] false
    ∷ on 3 0xff (arm 0x555 0x2aa ++ (write 7 0 ∷ read 0 7 ∷ [])) (0xff ∷ []) [] false
    ∷ []

-- ---- sentences
abbrev pub sentences : List Case
sentences =
    -- command bytes are compared on the low eight data bits
    on 5 0xffff (write 0x5555 0x12aa ∷ write 0x2aaa 0x3455 ∷ write 0x5555 0x56a0 ∷ write 7 0 ∷ read 0 7 ∷ []) (0x00c0 ∷ []) [] true
    -- AAH at U1 as the third write, and as an erase's sixth, begins nothing
    ∷ on 0 0xffff (write 0x555 0xaa ∷ write 0x2aa 0x55 ∷ (arm 0x555 0x2aa ++ (write 7 0 ∷ read 0 7 ∷ []))) (0xffff ∷ []) [] false
    ∷ on 0 0xffff (unlock 0x555 0x2aa ++ (arm 0x555 0x2aa ++ (write 7 0 ∷ read 0 7 ∷ []))) (0xffff ∷ []) [] false
    -- a write while busy does nothing, to bit 6 neither
    ∷ on 0 0xffff (arm 0x555 0x2aa ++ (write 7 0 ∷ write 8 0 ∷ read 1 7 ∷ [])) (0x00c0 ∷ []) [] true
    -- a read disturbs no sequence, a stray write ends it
    ∷ on 0 0xffff (write 0x555 0xaa ∷ read 0 0 ∷ write 0x2aa 0x55 ∷ read 0 0 ∷ write 0x555 0xa0 ∷ read 0 0 ∷ write 7 0 ∷ read 0 7 ∷ []) (0xffff ∷ 0xffff ∷ 0xffff ∷ 0x00c0 ∷ []) [] true
    ∷ on 0 0xffff (write 0x555 0xaa ∷ write 0x2aa 0x55 ∷ write 0 0 ∷ write 0x555 0xa0 ∷ write 7 0 ∷ read 0 7 ∷ []) (0xffff ∷ []) [] false
    -- starting an operation ends identification mode, and so do F0H, a stray write and a cut at rest
    ∷ on 0 0xffff (identify 0x555 0x2aa ++ (arm 0x555 0x2aa ++ (write 7 0 ∷ read 1 0 ∷ read 14 0 ∷ []))) (0x00c0 ∷ 0xffff ∷ []) [] false
    ∷ on 0 0xffff (identify 0x555 0x2aa ++ (write 0x555 0xaa ∷ write 0x2aa 0x55 ∷ write 0x555 0xf0 ∷ read 0 0 ∷ [])) (0xffff ∷ []) [] false
    ∷ on 0 0xffff (identify 0x555 0x2aa ++ (write 9 0xf0 ∷ read 0 0 ∷ [])) (0xffff ∷ []) [] false
    ∷ on 0 0xffff (identify 0x555 0x2aa ++ (cut 0 ∷ read 0 0 ∷ [])) (0xffff ∷ []) [] false
    -- a sequence begun in identification keeps that mode
    ∷ on 0 0xffff (identify 0x555 0x2aa ++ (write 0x555 0xaa ∷ read 0 0 ∷ [])) (0xbf ∷ []) [] false
    -- WP# low: a chip erase of part 5, which has no such pin, starts; of the bench and of part 8 it is ignored
    ∷ on 5 0 (unlock 0x5555 0x2aaa ++ (write_low 0x5555 0x10 ∷ read 1 7 ∷ [])) (0x0040 ∷ []) [] true
    ∷ on 0 0 (unlock 0x555 0x2aa ++ (write_low 0x555 0x10 ∷ read 1 7 ∷ [])) (0 ∷ []) [] false
    ∷ on 8 0 (unlock 0x5555 0x2aaa ++ (write_low 0x5555 0x10 ∷ read 1 7 ∷ [])) (0 ∷ []) [] false
    -- WP# is sampled at the last write alone
    ∷ on 0 0xffff (write_low 0x555 0xaa ∷ write_low 0x2aa 0x55 ∷ write_low 0x555 0xa0 ∷ write 7 0 ∷ read 0 7 ∷ []) (0x00c0 ∷ []) [] true
    -- 50H on part 3 is a broken write; on parts 9 and 7 30H and 50H change places
    ∷ on 3 0 (unlock 0x5555 0x2aaa ++ (write 7 0x50 ∷ read 1 7 ∷ [])) (0 ∷ []) [] false
    ∷ on 9 0 (unlock 0x555 0x2aa ++ (write 40000 0x30 ∷ idle_for 18000 ∷ [])) [] (cell 32767 0 ∷ cell 32768 0xffff ∷ cell 65535 0xffff ∷ cell 65536 0 ∷ []) false
    ∷ on 7 0 (unlock 0x5555 0x2aaa ++ (write 40000 0x30 ∷ idle_for 36000 ∷ [])) [] (cell 38911 0 ∷ cell 38912 0xffff ∷ cell 40959 0xffff ∷ cell 40960 0 ∷ []) false
    -- on an eight-bit part a cut uses the scar's low eight bits
    ∷ on 3 0x34 (unlock 0x5555 0x2aaa ++ (write 7 0x30 ∷ cut 0xab0f ∷ [])) [] (cell 0 0x3f ∷ cell 4095 0x3f ∷ cell 4096 0x34 ∷ []) false
    ∷ []

-- ---- document 02, Wish 1: the word comes a microsecond after bit 7
-- a program of 1234H at 7 on part 5, which takes 14 µs, and what follows
abbrev pub writing1234 : List Cycle → List Cycle
writing1234 cs = arm 0x5555 0x2aaa ++ (write 7 0x1234 ∷ cs)

abbrev pub edges : List Case
edges =
    -- read 0 µs after completion, and 1 µs later; on an eight-bit part, too
    on 5 0xffff (writing1234 (read 14 7 ∷ read 1 7 ∷ [])) (0xed4b ∷ 0x1234 ∷ []) (cell 7 0x1234 ∷ []) false
    ∷ on 3 0xff (arm 0x5555 0x2aaa ++ (write 7 0x34 ∷ read 14 7 ∷ read 1 7 ∷ [])) (0x4b ∷ 0x34 ∷ []) (cell 7 0x34 ∷ []) false
    -- with more time than was left it is never seen
    ∷ on 5 0xffff (writing1234 (read 15 7 ∷ read 0 7 ∷ [])) (0x1234 ∷ 0x1234 ∷ []) [] false
    -- cycles with 0 µs keep it: reads at any address, idle ones, stray writes, a sequence begun; any time ends it
    ∷ on 5 0xffff (writing1234 (idle_for 14 ∷ read 0 8 ∷ idle_for 0 ∷ read 0 7 ∷ [])) (0x0080 ∷ 0xed4b ∷ []) [] false
    ∷ on 5 0xffff (writing1234 (idle_for 14 ∷ write 0 0 ∷ read 0 7 ∷ write 0x5555 0xaa ∷ read 0 7 ∷ read 1 7 ∷ [])) (0xed4b ∷ 0xed4b ∷ 0x1234 ∷ []) [] false
    ∷ on 5 0xffff (writing1234 (idle_for 14 ∷ idle_for 1 ∷ read 0 7 ∷ [])) (0x1234 ∷ []) [] false
    -- in identification mode the codes are inverted
    ∷ on 5 0xffff (writing1234 (idle_for 14 ∷ (identify 0x5555 0x2aaa ++ (read 0 0 ∷ read 0 1 ∷ read 0 2 ∷ read 1 0 ∷ [])))) (0xffc0 ∷ 0xd8ff ∷ 0xff7f ∷ 0xbf ∷ []) [] false
    -- an ignored command keeps it, too
    ∷ on 0 0xffff (arm 0x555 0x2aa ++ (write 4096 0x1234 ∷ idle_for 14 ∷ (arm_low 0x555 0x2aa ++ (write_low 7 0 ∷ read 0 4096 ∷ [])))) (0xed4b ∷ []) (cell 7 0xffff ∷ []) false
    -- writes are taken as before, and a start ends it
    ∷ on 5 0xffff (writing1234 (idle_for 14 ∷ (arm 0x5555 0x2aaa ++ (write 8 0 ∷ read 0 7 ∷ read 15 8 ∷ [])))) (0x00c0 ∷ 0 ∷ []) (cell 7 0x1234 ∷ cell 8 0 ∷ []) false
    -- a cut finds the operation complete, and ends it
    ∷ on 5 0xffff (writing1234 (cycle 14 true (Cut 0x00ff) ∷ read 0 7 ∷ [])) (0x1234 ∷ []) (cell 7 0x1234 ∷ []) false
    ∷ on 5 0xffff (writing1234 (idle_for 14 ∷ cut 0x00ff ∷ read 0 7 ∷ [])) (0x1234 ∷ []) (cell 7 0x1234 ∷ []) false
    ∷ []

-- ---- document 02, Wish 2: an erase is held
-- on part 7, all of whose cells hold 1234H: a sector erase at 2,053, its range 2,048 to 4,095, which takes 36,000 µs, and what follows
abbrev pub erasing : List Cycle → List Cycle
erasing cs = unlock 0x5555 0x2aaa ++ (write 2053 0x30 ∷ cs)

-- the same, suspended at address 0 after 100 µs
abbrev pub suspended : List Cycle → List Cycle
suspended cs = erasing (idle_for 100 ∷ write 0 0xb0 ∷ cs)

-- a program that follows, and what follows it
abbrev pub programs : ℕ → ℕ → List Cycle → List Cycle
programs a x cs = arm 0x5555 0x2aaa ++ (write a x ∷ cs)

abbrev pub on_seven : List Cycle → List ℕ → List Cell → Bool → Case
on_seven cycles reads cells pending = on 7 0x1234 cycles reads cells pending

abbrev pub holds : List Case
holds =
    -- while it runs bit 6 alternates at each read, bit 2 at those of the range; it is 0 elsewhere
    on_seven (erasing (read 0 2048 ∷ read 0 2047 ∷ read 0 4095 ∷ read 0 4096 ∷ read 0 2048 ∷ [])) (0x44 ∷ 0x00 ∷ 0x40 ∷ 0x00 ∷ 0x44 ∷ []) [] true
    -- no other write than B0H does anything then
    ∷ on_seven (erasing (write 0 0x30 ∷ write 0 0xf0 ∷ write 0x5555 0xaa ∷ read 0 2048 ∷ [])) (0x44 ∷ []) [] true
    -- bits 6 and 2 begin at 1 at each start, suspend and resume
    ∷ on_seven (erasing (read 0 2048 ∷ write 0 0xb0 ∷ read 0 2048 ∷ write 0 0x30 ∷ read 0 2048 ∷ [])) (0x44 ∷ 0xc4 ∷ 0x44 ∷ []) [] true
    -- suspended, read inside and outside, a program outside, which takes 28 µs and is read as it ends, and inside then; resumed, and done
    ∷ on_seven
    (suspended
    (read 0 2048 ∷ read 5 4095 ∷ read 0 2047 ∷ read 0 4096 ∷ read 0 2048
    ∷ programs 4096 0x0f0f
    (read 0 2048 ∷ read 28 4096 ∷ read 0 2048 ∷ read 1 2048
    ∷ write 9 0x30 ∷ read 0 2048 ∷ idle_for 35899 ∷ read 0 2048 ∷ read 1 2048 ∷ read 1 2048 ∷ read 0 4096 ∷ [])))
    (0xc4 ∷ 0xc0 ∷ 0x1234 ∷ 0x1234 ∷ 0xc4 ∷ 0xc0 ∷ 0xfd7b ∷ 0xffbb ∷ 0xc0 ∷ 0x44 ∷ 0x00 ∷ 0x0080 ∷ 0xffff ∷ 0x0204 ∷ [])
    (cell 2047 0x1234 ∷ cell 2048 0xffff ∷ cell 4095 0xffff ∷ cell 4096 0x0204 ∷ cell 4097 0x1234 ∷ [])
    false
    -- a cut while suspended with a program running, a µs before its end, and at it
    ∷ on_seven (suspended (programs 4096 0x0f0f (cycle 27 true (Cut 0x00ff) ∷ read 0 2048 ∷ [])))
    (0x12ff ∷ [])
    (cell 2047 0x1234 ∷ cell 2048 0x12ff ∷ cell 4095 0x12ff ∷ cell 4096 0x0234 ∷ cell 4097 0x1234 ∷ [])
    false
    ∷ on_seven (suspended (programs 4096 0x0f0f (cycle 28 true (Cut 0x00ff) ∷ []))) [] (cell 2048 0x12ff ∷ cell 4095 0x12ff ∷ cell 4096 0x0204 ∷ []) false
    -- a cut while suspended with nothing running
    ∷ on_seven (suspended (cut 0x00ff ∷ read 0 4095 ∷ [])) (0x12ff ∷ []) (cell 2047 0x1234 ∷ cell 4096 0x1234 ∷ []) false
    -- a program into the range is ignored, at both its ends; beside them it starts
    ∷ on_seven (suspended (programs 2048 0 (read 0 4096 ∷ read 0 2048 ∷ programs 4095 0 (read 0 4095 ∷ [])))) (0x1234 ∷ 0xc4 ∷ 0xc0 ∷ []) [] false
    ∷ on_seven (suspended (programs 2047 0 (read 0 2048 ∷ read 29 2047 ∷ []))) (0xc0 ∷ 0 ∷ []) [] false
    -- with WP# low so is one into the protected block, 0 to 32,767; past it it starts
    ∷ on_seven (suspended (arm_low 0x5555 0x2aaa ++ (write_low 32767 0 ∷ read 0 32767 ∷ read 0 2048 ∷ []))) (0x1234 ∷ 0xc4 ∷ []) [] false
    ∷ on_seven (suspended (arm_low 0x5555 0x2aaa ++ (write_low 32768 0 ∷ read 0 2048 ∷ []))) (0xc0 ∷ []) [] true
    -- any erase is ignored: of a sector, a block, the chip
    ∷ on_seven (suspended (unlock 0x5555 0x2aaa ++ (write 8192 0x30 ∷ read 0 8192 ∷ read 0 2048 ∷ []))) (0x1234 ∷ 0xc4 ∷ []) [] false
    ∷ on_seven (suspended (unlock 0x5555 0x2aaa ++ (write 65536 0x50 ∷ read 0 65536 ∷ read 0 2048 ∷ []))) (0x1234 ∷ 0xc4 ∷ []) [] false
    ∷ on_seven (suspended (unlock 0x5555 0x2aaa ++ (write 0x5555 0x10 ∷ read 0 0 ∷ read 0 2048 ∷ []))) (0x1234 ∷ 0xc4 ∷ []) [] false
    -- and what is ignored returns to read mode
    ∷ on_seven (suspended (identify 0x5555 0x2aaa ++ (unlock 0x5555 0x2aaa ++ (write 8192 0x30 ∷ read 0 0 ∷ [])))) (0x1234 ∷ []) [] false
    -- 30H with a sequence begun breaks it, or is a program's data
    ∷ on_seven (suspended (write 0x5555 0xaa ∷ write 0 0x30 ∷ read 0 2048 ∷ write 0 0x30 ∷ read 0 2048 ∷ [])) (0xc4 ∷ 0x44 ∷ []) [] true
    ∷ on_seven (suspended (programs 4096 0x30 (read 29 4096 ∷ read 0 2048 ∷ []))) (0x30 ∷ 0xc4 ∷ []) [] false
    -- B0H at rest, F0H and a stray write return to read mode, and it stays suspended; reads within a sequence are veiled, too
    ∷ on_seven (suspended (write 0 0xb0 ∷ read 0 2048 ∷ write 0 0xf0 ∷ read 0 2048 ∷ write 0 0 ∷ write 0x5555 0xaa ∷ read 0 2048 ∷ [])) (0xc4 ∷ 0xc0 ∷ 0xc4 ∷ []) [] false
    -- in identification mode the codes, in the range too, and no such read counts; resume ends that mode
    ∷ on_seven (suspended (identify 0x5555 0x2aaa ++ (read 0 0 ∷ read 0 2048 ∷ write 0 0xf0 ∷ read 0 2048 ∷ []))) (0xbf ∷ 0 ∷ 0xc4 ∷ []) [] false
    ∷ on_seven (suspended (identify 0x5555 0x2aaa ++ (write 9 0x30 ∷ read 0 0 ∷ []))) (0x40 ∷ []) [] true
    -- WP# is not looked at, and the low eight data bits count; a block erase on part 9
    ∷ on 9 0x1234
    (unlock 0x555 0x2aa
    ++ (write 40000 0x30 ∷ idle_for 1 ∷ write_low 7 0x12b0 ∷ read 0 32768 ∷ read 0 65535 ∷ read 0 32767 ∷ read 0 65536 ∷ write_low 7 0x5530 ∷ idle_for 17998 ∷ read 0 32768 ∷ read 2 65535 ∷ []))
    (0xc4 ∷ 0xc0 ∷ 0x1234 ∷ 0x1234 ∷ 0x44 ∷ 0xffff ∷ [])
    (cell 32767 0x1234 ∷ cell 32768 0xffff ∷ cell 65535 0xffff ∷ cell 65536 0x1234 ∷ [])
    false
    -- with the time that is left B0H finds the erase complete; it suspends no chip erase and no program, and 30H resumes nothing that is not suspended
    ∷ on_seven (erasing (cycle 36000 true (Write 0 0xb0) ∷ read 1 2048 ∷ [])) (0xffff ∷ []) (cell 2048 0xffff ∷ []) false
    ∷ on_seven (unlock 0x5555 0x2aaa ++ (write 0x5555 0x10 ∷ write 0 0xb0 ∷ read 0 7 ∷ [])) (0x44 ∷ []) [] true
    ∷ on_seven (programs 7 0 (write 0 0xb0 ∷ read 0 7 ∷ write 0 0x30 ∷ read 28 8 ∷ write 0 0x30 ∷ read 1 8 ∷ [])) (0xc0 ∷ 0xed4b ∷ 0x1234 ∷ []) [] false
    -- on part 6 B0H and 30H are what they were
    ∷ on 6 0x1234 (unlock 0x5555 0x2aaa ++ (write 2053 0x30 ∷ write 0 0xb0 ∷ read 0 2053 ∷ read 0 2053 ∷ write 0 0x30 ∷ read 0 2053 ∷ [])) (0x40 ∷ 0x00 ∷ 0x40 ∷ []) [] true
    ∷ []
