-- The marked cases of document 01, as one list; the two bills are those of document 02, Wish 1, and reads come at least 1 µs after a completion.
use Rattle.std.specs.Prelude.{ℕ, Bool, true, false, not, List, [], ◌∷◌, ◌++◌, eqb, get_or, set, replicate, take, drop}
use Rattle.parts.specs.Pick.{pick, ◌unless◌, ◌else◌}
use Rattle.parts.specs.Table.{row_of}
use Rattle.device.specs.declared.cycle.Action.{Action}
use Rattle.device.specs.declared.cycle.Action.TheVariants.{Read, Write, Idle, Cut}
use Rattle.device.specs.declared.cycle.Cycle.{Cycle}
use Rattle.device.specs.declared.cycle.Reply.{Reply}
use Rattle.device.specs.Device.{fresh_device, busy}
use Rattle.device.specs.Cycle.{cycle, Chip, chip, Outcome, cycle_of}
use Rattle.device.specs.Trace.{leaves}
use Rattle.driver.specs.Reads.{is_read}
use Rattle.billing.specs.File.{blank_bench}
use Rattle.job.specs.declared.bill.Bill.{Bill}
use Rattle.job.specs.Bill.{Loaded, load_of}

-- ---- a case of bus cycles
-- a cell by its address, and what it holds
pub record Cell : Type 0 where
  pub at : ℕ
  pub value : ℕ

abbrev pub cell : ℕ → ℕ → Cell
cell a v = record { at = a; value = v }

-- count cells from an address on that all hold a value
pub record Range : Type 0 where
  pub first : ℕ
  pub count : ℕ
  pub value : ℕ

abbrev pub range : ℕ → ℕ → ℕ → Range
range a n v = record { first = a; count = n; value = v }

pub record Case : Type 0 where
  -- before: the part, what all its cells hold, but those listed; the device is fresh
  pub part : ℕ
  pub fill : ℕ
  pub but : List Cell
  -- the cycles sent
  pub cycles : List Cycle
  -- after: the values of the reads among them, in order; what whole ranges and some of the cells hold; whether an operation is
  -- pending
  pub reads : List ℕ
  pub ranges : List Range
  pub cells : List Cell
  pub pending : Bool

-- ---- cycles: writes with WP# high at 0 µs, reads and others after some µs
abbrev pub write : ℕ → ℕ → Cycle
write a x = cycle 0 true (Write a x)

abbrev pub write_low : ℕ → ℕ → Cycle
write_low a x = cycle 0 false (Write a x)

abbrev pub read : ℕ → ℕ → Cycle
read e a = cycle e true (Read a)

abbrev pub read_low : ℕ → ℕ → Cycle
read_low e a = cycle e false (Read a)

abbrev pub idle_for : ℕ → Cycle
idle_for e = cycle e true Idle

abbrev pub cut : ℕ → Cycle
cut s = cycle 0 true (Cut s)

-- the writes in front of a program's data and of an erase's last write, at unlock addresses u and v
abbrev pub arm : ℕ → ℕ → List Cycle
arm u v = write u 0xaa ∷ write v 0x55 ∷ write u 0xa0 ∷ []

-- the same with WP# low
abbrev pub arm_low : ℕ → ℕ → List Cycle
arm_low u v = write_low u 0xaa ∷ write_low v 0x55 ∷ write_low u 0xa0 ∷ []

abbrev pub unlock : ℕ → ℕ → List Cycle
unlock u v = write u 0xaa ∷ write v 0x55 ∷ write u 0x80 ∷ write u 0xaa ∷ write v 0x55 ∷ []

-- ---- a case of jobs: on a blank bench, WP# high, first 0, 2,048 values, p 10, all FFFFH but the sixth
pub record JobCase : Type 0 where
  -- the sixth values of jobs before it, and its own
  pub earlier : List ℕ
  pub sixth : ℕ
  -- what it hands back
  pub bill : Bill

abbrev pub image_of : ℕ → List ℕ
image_of sixth = set (replicate 2048 0xffff) 5 sixth

-- a job of such an image
abbrev pub load_sixth : List ℕ → ℕ → Loaded
load_sixth cells sixth = load_of 0 cells 0 (image_of sixth) true 10

-- ---- the cases, by document 01's numbers
-- 1: erase unlock, 50H at 2,053: on part 9 the sector 2,048 to 4,095
abbrev pub case_1_sector : Case
case_1_sector =
    record {
      part = 9;
      fill = 0;
      but = [];
      cycles = unlock 0x555 0x2aa ++ (write 2053 0x50 ∷ idle_for 18000 ∷ []);
      reads = [];
      ranges = range 0 2048 0 ∷ range 2048 2048 0xffff ∷ range 4096 2048 0 ∷ [];
      cells = [];
      pending = false;
    }

-- 1: on part 7 the block 0 to 32,767
abbrev pub case_1_block : Case
case_1_block =
    record {
      part = 7;
      fill = 0;
      but = [];
      cycles = unlock 0x5555 0x2aaa ++ (write 2053 0x50 ∷ idle_for 36000 ∷ []);
      reads = [];
      ranges = range 0 32768 0xffff ∷ range 32768 2048 0 ∷ [];
      cells = [];
      pending = false;
    }

-- 2: program 0F0FH over 00F0H: 0000H
abbrev pub case_2 : Case
case_2 =
    record {
      part = 0;
      fill = 0xffff;
      but = cell 7 0x00f0 ∷ [];
      cycles = arm 0x555 0x2aa ++ (write 7 0x0f0f ∷ idle_for 14 ∷ []);
      reads = [];
      ranges = [];
      cells = cell 6 0xffff ∷ cell 7 0 ∷ cell 8 0xffff ∷ [];
      pending = false;
    }

-- 3: program on part 5, 13 µs: busy
abbrev pub case_3_busy : Case
case_3_busy =
    record {
      part = 5;
      fill = 0xffff;
      but = [];
      cycles = arm 0x5555 0x2aaa ++ (write 7 0x1234 ∷ idle_for 13 ∷ []);
      reads = [];
      ranges = [];
      cells = cell 7 0xffff ∷ [];
      pending = true;
    }

-- 3: 14: done
abbrev pub case_3_done : Case
case_3_done =
    record {
      part = 5;
      fill = 0xffff;
      but = [];
      cycles = arm 0x5555 0x2aaa ++ (write 7 0x1234 ∷ idle_for 14 ∷ []);
      reads = [];
      ranges = [];
      cells = cell 7 0x1234 ∷ [];
      pending = false;
    }

-- 3: and the word is read a µs later
abbrev pub case_3_read : Case
case_3_read =
    record {
      part = 5;
      fill = 0xffff;
      but = [];
      cycles = arm 0x5555 0x2aaa ++ (write 7 0x1234 ∷ read 15 7 ∷ []);
      reads = 0x1234 ∷ [];
      ranges = [];
      cells = cell 7 0x1234 ∷ [];
      pending = false;
    }

-- 4: part 5, programming data 0000H: reads 00C0H, 0080H
abbrev pub case_4_programming : Case
case_4_programming =
    record {
      part = 5;
      fill = 0xffff;
      but = [];
      cycles = arm 0x5555 0x2aaa ++ (write 7 0 ∷ read 1 7 ∷ read 1 7 ∷ []);
      reads = 0x00c0 ∷ 0x0080 ∷ [];
      ranges = [];
      cells = [];
      pending = true;
    }

-- 4: erasing: 0040H, 0000H
abbrev pub case_4_erasing : Case
case_4_erasing =
    record {
      part = 5;
      fill = 0;
      but = [];
      cycles = unlock 0x5555 0x2aaa ++ (write 7 0x30 ∷ read 1 7 ∷ read 1 7 ∷ []);
      reads = 0x0040 ∷ 0 ∷ [];
      ranges = [];
      cells = [];
      pending = true;
    }

-- 5: AAH, AAH at U1, 55H at U2, A0H at U1: nothing armed
abbrev pub case_5 : Case
case_5 =
    record {
      part = 0;
      fill = 0xffff;
      but = [];
      cycles = write 0x555 0xaa ∷ write 0x555 0xaa ∷ write 0x2aa 0x55 ∷ write 0x555 0xa0 ∷ write 7 0 ∷ read 14 7 ∷ [];
      reads = 0xffff ∷ [];
      ranges = [];
      cells = cell 7 0xffff ∷ [];
      pending = false;
    }

-- 6: part 9 takes 5555H as 555H
abbrev pub case_6 : Case
case_6 =
    record {
      part = 9;
      fill = 0xffff;
      but = [];
      cycles = arm 0x5555 0x2aaa ++ (write 7 0x1234 ∷ read 8 7 ∷ []);
      reads = 0x1234 ∷ [];
      ranges = [];
      cells = cell 7 0x1234 ∷ [];
      pending = false;
    }

-- 7: bench, WP# low: program at 4,095 ignored
abbrev pub case_7_ignored : Case
case_7_ignored =
    record {
      part = 0;
      fill = 0xffff;
      but = [];
      cycles = arm_low 0x555 0x2aa ++ (write_low 4095 0 ∷ read_low 0 4095 ∷ []);
      reads = 0xffff ∷ [];
      ranges = [];
      cells = cell 4095 0xffff ∷ [];
      pending = false;
    }

-- 7: at 4,096 starts
abbrev pub case_7_starts : Case
case_7_starts =
    record {
      part = 0;
      fill = 0xffff;
      but = [];
      cycles = arm_low 0x555 0x2aa ++ (write_low 4096 0 ∷ read_low 0 4096 ∷ []);
      reads = 0x00c0 ∷ [];
      ranges = [];
      cells = cell 4096 0xffff ∷ [];
      pending = true;
    }

-- 8: cut, scar 00FFH: erasing 1234H leaves 12FFH
abbrev pub case_8_erasing : Case
case_8_erasing =
    record {
      part = 0;
      fill = 0x1234;
      but = [];
      cycles = unlock 0x555 0x2aa ++ (write 7 0x30 ∷ cut 0x00ff ∷ []);
      reads = [];
      ranges = [];
      cells = cell 0 0x12ff ∷ cell 2047 0x12ff ∷ cell 2048 0x1234 ∷ [];
      pending = false;
    }

-- 8: so does programming 1234H on blank
abbrev pub case_8_programming : Case
case_8_programming =
    record {
      part = 0;
      fill = 0xffff;
      but = [];
      cycles = arm 0x555 0x2aa ++ (write 7 0x1234 ∷ cut 0x00ff ∷ []);
      reads = [];
      ranges = [];
      cells = cell 6 0xffff ∷ cell 7 0x12ff ∷ cell 8 0xffff ∷ [];
      pending = false;
    }

-- 9: part 3 identifies as BFH, B7H
abbrev pub case_9 : Case
case_9 =
    record {
      part = 3;
      fill = 0;
      but = [];
      cycles = write 0x5555 0xaa ∷ write 0x2aaa 0x55 ∷ write 0x5555 0x90 ∷ read 0 0 ∷ read 0 1 ∷ [];
      reads = 0xbf ∷ 0xb7 ∷ [];
      ranges = [];
      cells = [];
      pending = false;
    }

-- 10: the sixth 1234H
abbrev pub case_10 : JobCase
case_10 =
    record {
      earlier = [];
      sixth = 0x1234;
      bill =
          record {
            saved = 60988;
            spent = 21;
            erases = 0;
            programs = 1;
            polls = 2;
            scans = 4096;
            confirms = 1;
            sum = 2613;
            answer = 0;
          };
    }

-- 11: then, on the cells that case 10 left, the sixth 1235H
abbrev pub case_11 : JobCase
case_11 =
    record {
      earlier = 0x1234 ∷ [];
      sixth = 0x1235;
      bill =
          record {
            saved = 42987;
            spent = 18022;
            erases = 1;
            programs = 1;
            polls = 1802;
            scans = 2048;
            confirms = 2;
            sum = 2614;
            answer = 0;
          };
    }

pub data Marked : Type 0 where
  Bus : Case → Marked
  Load : JobCase → Marked

-- the one list
abbrev pub cases : List Marked
cases =
    Bus case_1_sector
    ∷ Bus case_1_block
    ∷ Bus case_2
    ∷ Bus case_3_busy
    ∷ Bus case_3_done
    ∷ Bus case_3_read
    ∷ Bus case_4_programming
    ∷ Bus case_4_erasing
    ∷ Bus case_5
    ∷ Bus case_6
    ∷ Bus case_7_ignored
    ∷ Bus case_7_starts
    ∷ Bus case_8_erasing
    ∷ Bus case_8_programming
    ∷ Bus case_9
    ∷ Load case_10
    ∷ Load case_11
    ∷ []

-- ---- a case holds: every cycle is accepted, and what is shown and left is as it says
-- whether every cycle is accepted, the values of the reads among them, and the chip at the end
pub record Ran : Type 0 where
  pub accepted : Bool
  pub reads : List ℕ
  pub chip : Chip

abbrev pub shows : Action → Reply → List ℕ → List ℕ
shows a r vs = pick (is_read a) (r.value ∷ vs) vs

-- one cycle in front of others
abbrev pub further : Cycle → Outcome → Ran → Ran
further c o r =
    record {
      accepted = pick (eqb o.reply.answer 0) r.accepted false;
      reads = shows c.action o.reply r.reads;
      chip = r.chip;
    }

abbrev pub ran : ℕ → Chip → List Cycle → Ran
ran part h [] = record { accepted = true; reads = []; chip = h }
ran part h (c ∷ cs) =
    let o = cycle_of part h.cells h.device c in
    further c o (ran part (leaves o) cs)

abbrev pub same_list : List ℕ → List ℕ → Bool
same_list [] [] = true
same_list [] (y ∷ ys) = false
same_list (x ∷ xs) [] = false
same_list (x ∷ xs) (y ∷ ys) = pick (eqb x y) (same_list xs ys) false

abbrev pub holds_all : List ℕ → List Cell → Bool
holds_all cells [] = true
holds_all cells (l ∷ ls) = pick (eqb (get_or cells l.at 0) l.value) (holds_all cells ls) false

abbrev pub all_are : ℕ → List ℕ → Bool
all_are v [] = true
all_are v (x ∷ xs) = pick (eqb x v) (all_are v xs) false

abbrev pub hold_ranges : List ℕ → List Range → Bool
hold_ranges cells [] = true
hold_ranges cells (r ∷ rs) = pick (all_are r.value (take r.count (drop r.first cells))) (hold_ranges cells rs) false

abbrev pub same_bool : Bool → Bool → Bool
same_bool true b = b
same_bool false b = not b

abbrev pub as_said : Case → Ran → Bool
as_said k r =
    false unless r.accepted
    else false unless same_list r.reads k.reads
    else false unless hold_ranges r.chip.cells k.ranges
    else false unless holds_all r.chip.cells k.cells
    else same_bool (busy r.chip.device.core) k.pending

-- cells in which some hold something else
abbrev pub holding : List ℕ → List Cell → List ℕ
holding cells [] = cells
holding cells (l ∷ ls) = holding (set cells l.at l.value) ls

-- the cells before
abbrev pub before : Case → List ℕ
before k = holding (replicate (row_of k.part).cells k.fill) k.but

abbrev pub holds_case : Case → Bool
holds_case k = as_said k (ran k.part (chip (before k) fresh_device) k.cycles)

-- the cells after jobs
abbrev pub after_jobs : List ℕ → List ℕ → List ℕ
after_jobs cells [] = cells
after_jobs cells (x ∷ xs) = after_jobs (load_sixth cells x).cells xs

abbrev pub same_bill : Bill → Bill → Bool
same_bill a b =
    same_list
    (a.saved ∷ a.spent ∷ a.erases ∷ a.programs ∷ a.polls ∷ a.scans ∷ a.confirms ∷ a.sum ∷ a.answer ∷ [])
    (b.saved ∷ b.spent ∷ b.erases ∷ b.programs ∷ b.polls ∷ b.scans ∷ b.confirms ∷ b.sum ∷ b.answer ∷ [])

-- a marked case holds
abbrev pub holds_marked : Marked → Bool
holds_marked (Bus k) = holds_case k
holds_marked (Load k) = same_bill (load_sixth (after_jobs blank_bench k.earlier) k.sixth).bill k.bill
