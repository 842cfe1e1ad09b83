-- Numbers that C may give for a state: the last ones that are one beside the first that are none, zeros and the largest among them; and
-- a begin. A call with numbers that are no state in range gives 5, after 1 and 2 where it has those.
use Rattle.std.specs.Prelude.{ℕ, Bool, List, [], ◌∷◌, eqb, replicate}
use Rattle.device.specs.declared.cycle.Action.{Action}
use Rattle.device.specs.declared.cycle.Action.TheVariants.{Read, Write, Idle, Cut}
use Rattle.job.specs.Loading.{begin_load}
use Rattle.numbers.specs.declared.machine.DriverNumbers.{DriverNumbers}
use Rattle.bus.specs.declared.cycle.OperationNumbers.{OperationNumbers}
use Rattle.bus.specs.declared.cycle.DeviceNumbers.{DeviceNumbers}
use Rattle.numbers.specs.declared.loading.LoadingNumbers.{LoadingNumbers}
use Rattle.numbers.specs.Machine.{stepped_of}
use Rattle.bus.specs.Cycle.{high, cycled_of}
use Rattle.numbers.specs.Loading.{begin_numbers, turned_of}

-- a call on such numbers: what it is given
pub data Given : Type 0 where
  -- a driver; 0 was read
  Step : DriverNumbers → Given
  -- part, number of cells, device, WP#, action; no time has passed
  Bus : ℕ → ℕ → DeviceNumbers → ℕ → Action → Given
  -- part, first, how many values, each of them, WP#, p
  Begin : ℕ → ℕ → ℕ → ℕ → ℕ → ℕ → Given
  -- a job under way; how many values, each of them; 0 was read
  Turn : LoadingNumbers → ℕ → ℕ → Given

-- its answer
abbrev pub answer : Given → ℕ
answer (Step n) = (stepped_of n 0).answer
answer (Bus part n d wp a) = (cycled_of part (replicate n 0) d 0 wp a).reply.answer
answer (Begin part first count x wp p) = (begin_numbers (begin_load part first (replicate count x) (high wp) p)).answer
answer (Turn n count x) = (turned_of n (replicate count x) (replicate 4096 0) 0).turn.answer

-- a call, and the number that it has to answer
pub record Expected : Type 0 where
  pub number : ℕ
  pub given : Given

abbrev pub gives : ℕ → Given → Expected
gives n g = record { number = n; given = g }

abbrev pub gives_so : Expected → Bool
gives_so s = eqb (answer s.given) s.number

-- ---- a driver: part, command, address, data, p; phase, count
abbrev pub drives : ℕ → ℕ → ℕ → ℕ → ℕ → ℕ → ℕ → DriverNumbers
drives part command a x p phase count = record { part = part; command = command; address = a; «data» = x; p = p; phase = phase; count = count }

-- on part 3 a program takes 14 µs: polled each 10 µs, N is 2
abbrev pub programs : ℕ → ℕ → ℕ → DriverNumbers
programs x phase count = drives 3 0 7 x 10 phase count

abbrev pub steps : List Expected
steps =
    gives 5 (Step (drives 0 0 0 0 0 0 0))
    ∷ gives 5 (Step (drives 0xffffffff 0xffffffff 0xffffffff 0xffff 0xffffffff 0xffffffff 0xffffffff))
    -- a start that would be refused
    ∷ gives 5 (Step (drives 11 0 7 0 10 0 0))
    ∷ gives 5 (Step (drives 3 0 7 0 1001 0 0))
    ∷ gives 0 (Step (drives 3 0 7 0 1000 0 0))
    ∷ gives 5 (Step (drives 3 2 7 0 10 0 0))
    ∷ gives 0 (Step (drives 4 2 7 0 10 0 0))
    ∷ gives 5 (Step (drives 3 0 524288 0 10 0 0))
    ∷ gives 0 (Step (drives 3 0 524287 0xff 10 0 0))
    ∷ gives 5 (Step (drives 3 0 7 0x100 10 0 0))
    ∷ gives 0 (Step (drives 3 1 7 0x100 10 0 0))
    -- fewer writes than the command has
    ∷ gives 0 (Step (programs 0 0 3))
    ∷ gives 5 (Step (programs 0 0 4))
    ∷ gives 0 (Step (drives 3 1 7 0 10 0 5))
    ∷ gives 5 (Step (drives 3 1 7 0 10 0 6))
    -- at most 2N polls; bit 7 of 80H is not that of 0
    ∷ gives 0 (Step (programs 0x80 1 3))
    ∷ gives 11 (Step (programs 0x80 1 4))
    ∷ gives 5 (Step (programs 0x80 1 5))
    -- a confirming read after 1 to 2N polls
    ∷ gives 5 (Step (programs 0 2 0))
    ∷ gives 0 (Step (programs 0 2 1))
    ∷ gives 12 (Step (programs 0x80 2 4))
    ∷ gives 5 (Step (programs 0 2 5))
    -- the endings 0, 11 after 2N polls, and 12
    ∷ gives 5 (Step (programs 0 3 0))
    ∷ gives 0 (Step (programs 0 3 1))
    ∷ gives 0 (Step (programs 0 3 4))
    ∷ gives 5 (Step (programs 0 3 5))
    ∷ gives 5 (Step (programs 0 4 3))
    ∷ gives 11 (Step (programs 0 4 4))
    ∷ gives 5 (Step (programs 0 4 5))
    ∷ gives 5 (Step (programs 0 5 0))
    ∷ gives 12 (Step (programs 0 5 1))
    ∷ gives 12 (Step (programs 0 5 4))
    ∷ gives 5 (Step (programs 0 5 5))
    -- no phase
    ∷ gives 5 (Step (programs 0 6 1))
    ∷ []

-- ---- a device: mode, stage; kind, address, data, time left, toggle of what runs; recent completion, turned bit 2; the same five of what is suspended
abbrev pub operates : ℕ → ℕ → ℕ → ℕ → ℕ → OperationNumbers
operates kind a x left toggle = record { kind = kind; address = a; «data» = x; left = left; toggle = toggle }

abbrev pub stands_beside : ℕ → ℕ → OperationNumbers → ℕ → ℕ → OperationNumbers → DeviceNumbers
stands_beside mode stage o recent turned s = record { mode = mode; stage = stage; recent = recent; turned = turned; running = o; suspended = s }

-- with nothing suspended
abbrev pub stands : ℕ → ℕ → ℕ → ℕ → ℕ → ℕ → ℕ → ℕ → DeviceNumbers
stands mode stage kind a x left toggle recent = stands_beside mode stage (operates kind a x left toggle) recent 0 (operates 0 0 0 0 0)

abbrev pub cycles : List Expected
cycles =
    gives 0 (Bus 0 8192 (stands 0 0 0 0 0 0 0 0) 1 Idle)
    ∷ gives 1 (Bus 11 8191 (stands 2 7 4 0xffffffff 0xffff 0xffffffff 2 0) 0xffffffff (Write 0xffffffff 0xffff))
    ∷ gives 2 (Bus 0 8191 (stands 2 7 4 0xffffffff 0xffff 0xffffffff 2 0) 0xffffffff (Write 0xffffffff 0xffff))
    ∷ gives 5 (Bus 0 8192 (stands 2 7 4 0xffffffff 0xffff 0xffffffff 2 0xffffffff) 0xffffffff (Write 0xffffffff 0xffff))
    -- a mode, a toggle, a recent completion, a stage
    ∷ gives 5 (Bus 0 8192 (stands 2 0 0 0 0 0 0 0) 1 (Write 0xffffffff 0))
    ∷ gives 3 (Bus 0 8192 (stands 1 0 0 0 0 0 0 0) 1 (Write 8192 0))
    ∷ gives 5 (Bus 0 8192 (stands 0 0 0 0 0 0 2 0) 1 (Read 0xffffffff))
    ∷ gives 3 (Bus 0 8192 (stands 0 0 0 0 0 0 1 0) 1 (Read 8192))
    ∷ gives 5 (Bus 0 8192 (stands 0 0 0 0 0 0 0 2) 1 (Read 0xffffffff))
    ∷ gives 3 (Bus 0 8192 (stands 0 0 0 0 0 0 0 1) 1 (Read 8192))
    ∷ gives 1 (Bus 11 8191 (stands 0 0 0 0 0 0 0 2) 1 Idle)
    ∷ gives 2 (Bus 0 8191 (stands 0 0 0 0 0 0 0 2) 1 Idle)
    ∷ gives 5 (Bus 0 8192 (stands 0 7 0 0 0 0 0 0) 1 (Cut 0xffff))
    ∷ gives 0 (Bus 0 8192 (stands 1 6 0 0 0 0 1 0) 1 (Cut 0xffff))
    -- with no time left nothing of an operation counts but the toggle; with time left, all of it
    ∷ gives 0 (Bus 0 8192 (stands 1 6 0xffffffff 0xffffffff 0xffff 0 1 0) 0 Idle)
    ∷ gives 5 (Bus 0 8192 (stands 0 0 4 7 0 1 1 0) 0 Idle)
    ∷ gives 5 (Bus 0 8192 (stands 0 0 0 8192 0 1 1 0) 0 Idle)
    ∷ gives 0 (Bus 0 8192 (stands 0 0 0 8191 0 1 1 0) 0 Idle)
    ∷ gives 5 (Bus 0 8192 (stands 1 0 0 8191 0 1 1 0) 0 Idle)
    ∷ gives 5 (Bus 0 8192 (stands 0 1 0 8191 0 1 1 0) 0 Idle)
    -- a completion 0 µs old, at rest and beside what runs
    ∷ gives 0 (Bus 0 8192 (stands 1 6 0 0 0 0 0 1) 0 Idle)
    ∷ gives 5 (Bus 0 8192 (stands 0 0 0 8191 0 1 1 1) 0 Idle)
    -- a turned bit 2, and a toggle of what is suspended
    ∷ gives 5 (Bus 0 8192 (stands_beside 0 0 (operates 0 0 0 0 0) 0 2 (operates 0 0 0 0 0)) 1 (Read 0xffffffff))
    ∷ gives 3 (Bus 0 8192 (stands_beside 0 0 (operates 0 0 0 0 0) 0 1 (operates 0 0 0 0 0)) 1 (Read 8192))
    ∷ gives 5 (Bus 0 8192 (stands_beside 0 0 (operates 0 0 0 0 0) 0 0 (operates 0 0 0 0 2)) 1 (Read 0xffffffff))
    ∷ gives 3 (Bus 0 8192 (stands_beside 0 0 (operates 0 0 0 0 0) 0 0 (operates 9 0xffffffff 0xffff 0 1)) 1 (Read 8192))
    -- an erase suspended, which the bench cannot; specs/Refused.antt has those of part 7
    ∷ gives 5 (Bus 0 8192 (stands_beside 0 0 (operates 0 0 0 0 0) 0 0 (operates 1 0 0x30 1 1)) 1 Idle)
    ∷ gives 0 (Bus 0 8192 (stands_beside 0 0 (operates 0 0 0 0 0) 0 0 (operates 1 0 0x30 0 1)) 1 Idle)
    ∷ []

-- ---- a begin: 1, 10, 6, 7, 8, 9; WP# is high at any level but 0
abbrev pub begins : List Expected
begins =
    gives 1 (Begin 11 1 1 0xffff 0 0)
    ∷ gives 10 (Begin 0 1 1 0xffff 0 0)
    ∷ gives 10 (Begin 3 1 1 0xffff 0 1001)
    ∷ gives 6 (Begin 3 1 4096 0xffff 0 1000)
    ∷ gives 6 (Begin 3 524288 4095 0xffff 0 1)
    ∷ gives 7 (Begin 3 524288 4096 0xffff 0 1)
    ∷ gives 8 (Begin 3 520192 4096 0x100 0 1)
    ∷ gives 0 (Begin 3 520192 4096 0xff 0 1)
    ∷ gives 9 (Begin 0 2048 2048 0xffff 0 1)
    ∷ gives 0 (Begin 0 2048 2048 0xffff 2 1)
    ∷ gives 0 (Begin 0 4096 2048 0xffff 0 1000)
    ∷ gives 0 (Begin 0 8192 0 0 0 1)
    ∷ []

-- ---- a job under way on part 0, whose sectors have 2,048 cells, at p 10: first, count, WP#; progress, base, at; the driver; the ending
abbrev pub at_work : ℕ → ℕ → ℕ → ℕ → ℕ → ℕ → DriverNumbers → ℕ → LoadingNumbers
at_work first count wp progress base i d ending =
    record { part = 0; first = first; count = count; wp = wp; p = 10; progress = progress; base = base; at = i; driver = d; ending = ending }

abbrev pub no_drive : DriverNumbers
no_drive = drives 0 0 0 0 0 0 0

-- the same of another part and p, waiting
abbrev pub waits : ℕ → ℕ → ℕ → ℕ → ℕ → LoadingNumbers
waits part first count wp p =
    record { part = part; first = first; count = count; wp = wp; p = p; progress = 0; base = 0; at = 0; driver = no_drive; ending = 0 }

abbrev pub waiting_turns : List Expected
waiting_turns =
    gives 5 (Turn (waits 0 0 0 0 0) 0 0)
    ∷ gives 5 (Turn (waits 0xffffffff 0xffffffff 0xffffffff 0xffffffff 0xffffffff) 0 0)
    -- the job's refusals but 8: 1, 10, 6, 7, 9
    ∷ gives 5 (Turn (waits 11 0 0 0 10) 0 0)
    ∷ gives 5 (Turn (waits 0 4096 2048 0 1001) 2048 0)
    ∷ gives 0 (Turn (waits 0 4096 2048 0 1000) 2048 0)
    ∷ gives 5 (Turn (waits 0 4097 2048 0 10) 2048 0)
    ∷ gives 5 (Turn (waits 0 4096 2047 0 10) 2047 0)
    ∷ gives 5 (Turn (waits 0 8192 2048 0 10) 2048 0)
    ∷ gives 0 (Turn (waits 0 6144 2048 0 10) 2048 0)
    ∷ gives 0 (Turn (waits 0 8192 0 0 10) 0 0)
    ∷ gives 5 (Turn (waits 0 2048 2048 0 10) 2048 0)
    ∷ gives 0 (Turn (waits 0 2048 2048 2 10) 2048 0)
    -- another image than the begin's
    ∷ gives 5 (Turn (waits 0 4096 2048 0 10) 4096 0)
    ∷ gives 5 (Turn (waits 0 4096 4096 0 10) 2048 0)
    -- no progress; no phase, whether one is driven or not
    ∷ gives 5 (Turn (at_work 4096 2048 0 7 0 0 no_drive 0) 2048 0)
    ∷ gives 5 (Turn (at_work 4096 2048 0 0 0 0 (drives 0 0 0 0 0 6 0) 0) 2048 0)
    ∷ gives 0 (Turn (at_work 4096 2048 0 0 0xffffffff 0xffffffff (drives 11 4 0xffffffff 0xffff 0 5 0xffffffff) 0xffffffff) 2048 0)
    -- the endings 0, 11 and 12
    ∷ gives 0 (Turn (at_work 4096 2048 0 6 0 0 no_drive 0) 2048 0)
    ∷ gives 5 (Turn (at_work 4096 2048 0 6 0 0 no_drive 5) 2048 0)
    ∷ gives 5 (Turn (at_work 4096 2048 0 6 0 0 no_drive 10) 2048 0)
    ∷ gives 11 (Turn (at_work 4096 2048 0 6 0 0 no_drive 11) 2048 0)
    ∷ gives 12 (Turn (at_work 4096 2048 0 6 0xffffffff 0xffffffff no_drive 12) 2048 0)
    ∷ gives 5 (Turn (at_work 4096 2048 0 6 0 0 no_drive 13) 2048 0)
    ∷ []

-- scanning 1 and looking 2: the sector's first cell within the image, the cell within the sector
abbrev pub reading_turns : List Expected
reading_turns =
    gives 0 (Turn (at_work 4096 4096 0 1 2048 2046 no_drive 0) 4096 0)
    ∷ gives 5 (Turn (at_work 4096 4096 0 1 2047 0 no_drive 0) 4096 0)
    ∷ gives 5 (Turn (at_work 4096 4096 0 1 4096 0 no_drive 0) 4096 0)
    ∷ gives 5 (Turn (at_work 4096 4096 0 1 0 2048 no_drive 0) 4096 0)
    ∷ gives 0 (Turn (at_work 4096 4096 0 2 0 2047 no_drive 0) 4096 0)
    ∷ gives 5 (Turn (at_work 4096 4096 0 2 1 2047 no_drive 0) 4096 0)
    ∷ gives 5 (Turn (at_work 4096 4096 0 2 0 2048 no_drive 0) 4096 0)
    ∷ []

-- driving an erase 3, a fill 4 or a burn 5, in the second sector at cell 9: what the driver has to ask for, and each number another one
abbrev pub driving_turn : ℕ → DriverNumbers → Given
driving_turn progress d = Turn (at_work 4096 4096 0 progress 2048 9 d 0) 4096 0x1234

abbrev pub driving_turns : List Expected
driving_turns =
    gives 0 (driving_turn 3 (drives 0 1 6144 0 10 0 5))
    ∷ gives 5 (driving_turn 3 (drives 1 1 6144 0 10 0 5))
    ∷ gives 5 (driving_turn 3 (drives 0 0 6144 0 10 0 3))
    ∷ gives 5 (driving_turn 3 (drives 0 1 6153 0 10 0 5))
    ∷ gives 5 (driving_turn 3 (drives 0 1 6144 1 10 0 5))
    ∷ gives 5 (driving_turn 3 (drives 0 1 6144 0 11 0 5))
    -- what the driver's step refuses
    ∷ gives 5 (driving_turn 3 (drives 0 1 6144 0 10 0 6))
    ∷ gives 0 (driving_turn 4 (drives 0 0 6153 0x1234 10 0 3))
    ∷ gives 5 (driving_turn 4 (drives 0 1 6153 0x1234 10 0 3))
    ∷ gives 5 (driving_turn 4 (drives 0 0 6154 0x1234 10 0 3))
    ∷ gives 5 (driving_turn 4 (drives 0 0 6153 0x1235 10 0 3))
    ∷ gives 0 (driving_turn 5 (drives 0 0 6153 0x1234 10 0 3))
    ∷ gives 5 (driving_turn 5 (drives 0 0 6144 0x1234 10 0 3))
    ∷ gives 5 (driving_turn 5 (drives 0 0 6153 0 10 0 3))
    -- a confirming read that differs ends the job
    ∷ gives 12 (driving_turn 5 (drives 0 0 6153 0x1234 10 2 1))
    ∷ []

-- a value that does not fit, which the begin refuses with 8: its program's start is refused with 4
abbrev pub wide_turn : Expected
wide_turn =
    gives 4 (Turn (record { part = 3; first = 4096; count = 4096; wp = 1; p = 10; progress = 2; base = 0; at = 0; driver = no_drive; ending = 0 }) 4096 0x100)
