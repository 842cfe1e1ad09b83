-- Refusals beside those that a marked case meets: calls with two faults at once and the number that wins, and the last value
-- that is taken before each refusal. And a job file, byte by byte.
use Rattle.std.specs.Prelude.{ℕ, Bool, true, false, List, [], ◌∷◌, eqb, replicate}
use Rattle.table.specs.Figures.{figure_refusal}
use Rattle.commands.specs.declared.effect.Mode.{Mode}
use Rattle.commands.specs.declared.effect.Mode.TheVariants.{ReadMode, Identification}
use Rattle.device.specs.declared.state.Device.{Device}
use Rattle.device.specs.declared.cycle.Action.{Action}
use Rattle.device.specs.declared.cycle.Action.TheVariants.{Read, Write, Idle, Cut}
use Rattle.device.specs.Device.{operation, no_operation, core, fresh_core, device, fresh_device}
use Rattle.device.specs.Cycle.{cycle_refusal}
use Rattle.driver.specs.Refusals.{command_refusal, start_refusal}
use Rattle.driver.specs.Writes.{kth_refusal}
use Rattle.request.specs.Refusal.{job_refusal}
use Rattle.jobfile.specs.declared.trailer.JobFile.{JobFile}
use Rattle.jobfile.specs.JobFile.{asks}

-- a call that may be refused: what it is given
pub data Asked : Type 0 where
  -- part, column
  Figure : ℕ → ℕ → Asked
  -- part, command, address, data; and k; and p
  Writes : ℕ → ℕ → ℕ → ℕ → Asked
  Kth : ℕ → ℕ → ℕ → ℕ → ℕ → Asked
  Start : ℕ → ℕ → ℕ → ℕ → ℕ → Asked
  -- part, number of cells, device, action
  Cycle : ℕ → ℕ → Device → Action → Asked
  -- part, number of cells, first, how many values, each of them, WP#, p
  Job : ℕ → ℕ → ℕ → ℕ → ℕ → Bool → ℕ → Asked

-- its refusal, 0 for none
abbrev pub refusal : Asked → ℕ
refusal (Figure part column) = figure_refusal part column
refusal (Writes part command a x) = command_refusal part command a x
refusal (Kth part command a x k) = kth_refusal part command a x k
refusal (Start part command a x p) = start_refusal part command a x p
refusal (Cycle part n d a) = cycle_refusal part n d a
refusal (Job part n first count x wp p) = job_refusal part n first (replicate count x) wp p

-- a call, and the number that it has to answer
pub record Answered : Type 0 where
  pub number : ℕ
  pub asked : Asked

abbrev pub says : ℕ → Asked → Answered
says n a = record { number = n; asked = a }

abbrev pub answered_so : Answered → Bool
answered_so s = eqb (refusal s.asked) s.number

-- ---- part figures: 1, 15
abbrev pub figures : List Answered
figures = says 1 (Figure 11 7) ∷ says 1 (Figure 256 0) ∷ says 15 (Figure 10 7) ∷ says 0 (Figure 10 6) ∷ says 0 (Figure 0 0) ∷ []

-- ---- a command's writes: 1, 14, 3, 4; the k-th: then 15
abbrev pub writes : List Answered
writes =
    says 1 (Writes 11 4 0xffffffff 0xffff)
    ∷ says 14 (Writes 3 4 0xffffffff 0xffff)
    ∷ says 14 (Writes 3 2 0xffffffff 0xffff)
    ∷ says 3 (Writes 3 0 524288 0x100)
    ∷ says 4 (Writes 3 0 524287 0x100)
    ∷ says 0 (Writes 3 0 524287 0xff)
    ∷ says 0 (Writes 3 1 524287 0x100)
    ∷ says 3 (Writes 4 2 131072 0)
    ∷ says 0 (Writes 4 2 131071 0)
    ∷ says 0 (Writes 3 3 0xffffffff 0xffff)
    ∷ says 1 (Kth 11 4 0xffffffff 0xffff 6)
    ∷ says 14 (Kth 3 2 0xffffffff 0xffff 6)
    ∷ says 3 (Kth 3 0 524288 0x100 4)
    ∷ says 4 (Kth 3 0 524287 0x100 4)
    ∷ says 15 (Kth 3 0 524287 0xff 4)
    ∷ says 0 (Kth 3 0 524287 0xff 3)
    ∷ says 15 (Kth 3 3 0xffffffff 0xffff 6)
    ∷ says 0 (Kth 3 3 0xffffffff 0xffff 5)
    ∷ []

-- ---- a driver's start: 1, 10, 14, 3, 4
abbrev pub starts : List Answered
starts =
    says 1 (Start 11 4 0xffffffff 0xffff 0)
    ∷ says 10 (Start 3 4 0xffffffff 0xffff 0)
    ∷ says 10 (Start 3 4 0xffffffff 0xffff 1001)
    ∷ says 14 (Start 3 4 0xffffffff 0xffff 1000)
    ∷ says 14 (Start 3 2 0xffffffff 0xffff 1)
    ∷ says 3 (Start 3 0 524288 0x100 1)
    ∷ says 4 (Start 3 0 524287 0x100 1)
    ∷ says 0 (Start 3 0 524287 0xff 1)
    ∷ says 0 (Start 3 1 524287 0xffff 1000)
    ∷ says 0 (Start 3 3 0xffffffff 0xffff 1000)
    ∷ []

-- ---- a bus cycle: 1, 2, 5, 3 (read or write), 4 (write)
-- a device at rest at a stage; one on which a command runs, in a mode, at a stage; and either of them with a completion 0 µs old
abbrev pub at_stage : ℕ → Device
at_stage s = device fresh_core s

abbrev pub running : Mode → ℕ → ℕ → ℕ → ℕ → ℕ → Device
running m k a x left s = device (core m false false (operation k a x left true) no_operation) s

abbrev pub recent_at : Mode → ℕ → ℕ → Device
recent_at m left s = device (core m true false (operation 0 7 0xff left true) no_operation) s

-- an erase suspended, in a mode, with a completion 0 µs old or not: its command, address and time left; the stage
abbrev pub suspended_at : Mode → Bool → ℕ → ℕ → ℕ → ℕ → Device
suspended_at m n k a left s = device (core m n false no_operation (operation k a 0x30 left true)) s

-- a command that runs beside the suspended erase of the sector at 0
abbrev pub beside_erase : ℕ → ℕ → ℕ → Device
beside_erase k a left = device (core ReadMode false false (operation k a 0x1234 left true) (operation 1 7 0x30 36000 true)) 0

abbrev pub cycles : List Answered
cycles =
    says 1 (Cycle 11 7 (at_stage 7) (Write 0xffffffff 0xffff))
    ∷ says 2 (Cycle 3 524287 (at_stage 7) (Write 0xffffffff 0xffff))
    ∷ says 5 (Cycle 3 524288 (at_stage 7) (Write 0xffffffff 0xffff))
    ∷ says 3 (Cycle 3 524288 (at_stage 6) (Write 524288 0x100))
    ∷ says 4 (Cycle 3 524288 (at_stage 6) (Write 524287 0x100))
    ∷ says 0 (Cycle 3 524288 (at_stage 6) (Write 524287 0xff))
    ∷ says 3 (Cycle 3 524288 fresh_device (Read 524288))
    ∷ says 0 (Cycle 3 524288 fresh_device (Read 524287))
    ∷ says 0 (Cycle 3 524288 fresh_device Idle)
    ∷ says 0 (Cycle 3 524288 fresh_device (Cut 0xffff))
    -- more time left than the table's; a command that the part does not have; an address past its cells; data that does not fit
    ∷ says 5 (Cycle 3 524288 (running ReadMode 0 7 0xff 15 0) Idle)
    ∷ says 0 (Cycle 3 524288 (running ReadMode 0 7 0xff 14 0) Idle)
    ∷ says 5 (Cycle 3 524288 (running ReadMode 3 7 0xff 70001 0) Idle)
    ∷ says 0 (Cycle 3 524288 (running ReadMode 3 7 0xff 70000 0) Idle)
    ∷ says 5 (Cycle 3 524288 (running ReadMode 2 7 0xff 1 0) Idle)
    ∷ says 5 (Cycle 3 524288 (running ReadMode 4 7 0xff 1 0) Idle)
    ∷ says 5 (Cycle 3 524288 (running ReadMode 0 524288 0xff 1 0) Idle)
    ∷ says 0 (Cycle 3 524288 (running ReadMode 0 524287 0xff 1 0) Idle)
    ∷ says 5 (Cycle 3 524288 (running ReadMode 1 7 0x100 1 0) Idle)
    -- a mode or a stage beside what runs; without time left nothing of an operation counts
    ∷ says 5 (Cycle 3 524288 (running Identification 0 7 0 1 0) Idle)
    ∷ says 5 (Cycle 3 524288 (running ReadMode 0 7 0 1 1) Idle)
    ∷ says 0 (Cycle 3 524288 (running Identification 9 0xffffffff 0xffff 0 6) Idle)
    -- a completion 0 µs old at any stage and in any mode; beside what runs there is none
    ∷ says 0 (Cycle 3 524288 (recent_at ReadMode 0 0) (Read 524287))
    ∷ says 0 (Cycle 3 524288 (recent_at Identification 0 6) (Cut 0xffff))
    ∷ says 5 (Cycle 3 524288 (recent_at ReadMode 0 7) Idle)
    ∷ says 5 (Cycle 3 524288 (recent_at ReadMode 1 0) Idle)
    ∷ says 5 (Cycle 3 524288 (recent_at ReadMode 14 0) (Read 524288))
    ∷ says 3 (Cycle 3 524288 (recent_at Identification 0 6) (Read 524288))
    -- an erase suspended on a part that can: a sector's or a block's, with no more time left than the table's, at an address of the part, at any stage and in
    -- any mode, with a completion 0 µs old or none
    ∷ says 0 (Cycle 7 1048576 (suspended_at ReadMode false 1 1048575 36000 0) (Read 1048575))
    ∷ says 0 (Cycle 10 4194304 (suspended_at Identification true 2 4194303 18000 6) (Cut 0xffff))
    ∷ says 5 (Cycle 6 524288 (suspended_at ReadMode false 1 7 18000 0) Idle)
    ∷ says 0 (Cycle 6 524288 (suspended_at ReadMode false 1 7 0 0) Idle)
    ∷ says 5 (Cycle 7 1048576 (suspended_at ReadMode false 0 7 28 0) Idle)
    ∷ says 5 (Cycle 7 1048576 (suspended_at ReadMode false 3 7 140000 0) Idle)
    ∷ says 5 (Cycle 7 1048576 (suspended_at ReadMode false 1 7 36001 0) Idle)
    ∷ says 5 (Cycle 7 1048576 (suspended_at ReadMode false 2 1048576 36000 0) Idle)
    ∷ says 5 (Cycle 7 1048576 (suspended_at ReadMode false 1 7 1 7) Idle)
    ∷ says 3 (Cycle 7 1048576 (suspended_at ReadMode false 1 7 1 6) (Read 1048576))
    -- beside it a program outside its range, and nothing else
    ∷ says 0 (Cycle 7 1048576 (beside_erase 0 2048 28) Idle)
    ∷ says 5 (Cycle 7 1048576 (beside_erase 0 2047 28) Idle)
    ∷ says 5 (Cycle 7 1048576 (beside_erase 1 2048 28) Idle)
    ∷ says 5 (Cycle 7 1048576 (beside_erase 2 32768 28) Idle)
    ∷ says 5 (Cycle 7 1048576 (beside_erase 3 0 28) Idle)
    ∷ says 5 (Cycle 7 1048576 (beside_erase 0 2048 29) Idle)
    -- 3 and 4 are given busy or not
    ∷ says 3 (Cycle 3 524288 (running ReadMode 0 7 0 1 0) (Read 524288))
    ∷ []

-- ---- a job: 1, 2, 10, 6, 7, 8, 9
abbrev pub jobs : List Answered
jobs =
    says 1 (Job 11 8191 1 1 0 false 0)
    ∷ says 2 (Job 0 8191 1 1 0 false 0)
    ∷ says 10 (Job 0 8192 1 1 0 false 0)
    ∷ says 10 (Job 0 8192 1 1 0 false 1001)
    ∷ says 6 (Job 0 8192 8193 2048 0 false 1000)
    ∷ says 6 (Job 0 8192 8192 2047 0 false 1)
    ∷ says 7 (Job 0 8192 8192 2048 0 false 1)
    ∷ says 0 (Job 0 8192 6144 2048 0 false 1000)
    ∷ says 0 (Job 0 8192 8192 0 0 false 1)
    ∷ says 7 (Job 0 8192 10240 0 0 false 1)
    ∷ says 6 (Job 3 524288 2048 4096 0x100 true 1)
    ∷ says 8 (Job 3 524288 4096 4096 0x100 true 1)
    ∷ says 0 (Job 3 524288 4096 4096 0xff false 1)
    ∷ says 9 (Job 0 8192 2048 2048 0 false 1)
    ∷ says 0 (Job 0 8192 2048 2048 0 true 1)
    ∷ says 0 (Job 0 8192 4096 2048 0 false 1)
    ∷ says 0 (Job 0 8192 0 0 0 false 1)
    ∷ says 9 (Job 8 1048576 1015808 2048 0 false 1)
    ∷ says 0 (Job 8 1048576 1013760 2048 0 false 1)
    ∷ []

-- ---- a job file: a remark, two values, and the trailer that points back to them
abbrev pub file_bytes : List ℕ
file_bytes =
    0x2a
    ∷ 0x34 ∷ 0x12 ∷ 0x78 ∷ 0x56
    ∷ 0x02 ∷ 0x01
    ∷ 0x01
    ∷ 0x00
    ∷ 0x03 ∷ 0x04 ∷ 0x05 ∷ 0x06
    ∷ 0x07 ∷ 0x08
    ∷ 0x00 ∷ 0x00
    ∷ 0x04 ∷ 0x00 ∷ 0x00 ∷ 0x00
    ∷ []

-- part 0102H, WP# high, first address 06050403H, p 0807H; the image from byte 1 on, 1234H and 5678H
abbrev pub file_asks : JobFile
file_asks = asks 0x0102 true 0x06050403 0x0807 1 2

abbrev pub file_values : List ℕ
file_values = 0x1234 ∷ 0x5678 ∷ []
