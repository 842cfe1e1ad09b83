-- Cycles sent one by one through the bus cycle, and counted.
use Rattle.std.specs.Prelude.{ℕ, zero, suc, ◌+◌, Bool, false, List, [], ◌∷◌, eqb, replicate}
use Rattle.parts.specs.Names.{PROGRAM, NO-CYCLE, A-READ, A-WRITE}
use Rattle.parts.specs.Pick.{pick}
use Rattle.device.specs.declared.cycle.Action.{Action}
use Rattle.device.specs.declared.cycle.Action.TheVariants.{Read, Write, Idle, Cut}
use Rattle.device.specs.declared.cycle.Cycle.{Cycle}
use Rattle.device.specs.Device.{fresh_device}
use Rattle.device.specs.Cycle.{Outcome, cycle_of}
use Rattle.job.specs.declared.loader.Job.{Job}
use Rattle.job.specs.declared.loader.Purpose.{Purpose}
use Rattle.job.specs.declared.loader.Purpose.TheVariants.{Scan, Lead, Begin, Poll, Confirm}
use Rattle.job.specs.declared.loader.Turn.{Turn}
use Rattle.job.specs.declared.loader.Turn.TheVariants.{Play, Stop}
use Rattle.job.specs.declared.run.Tally.{Tally}
use Rattle.job.specs.declared.run.Last.{Last}
use Rattle.job.specs.declared.run.Held.{Held}
use Rattle.job.specs.declared.run.RunEnd.{RunEnd}
use Rattle.job.specs.Loader.{Turned, turned, next_sector, turn_of}

-- a cycle and why it is sent
pub record Sent : Type 0 where
  pub purpose : Purpose
  pub cycle : Cycle

abbrev pub sent : Purpose → Cycle → Sent
sent p c = record { purpose = p; cycle = c }

-- the cells, and what is held beside them: the device, the counts, the last cycle and its reply
pub record World : Type 0 where
  pub cells : List ℕ
  pub held : Held

abbrev pub world : List ℕ → Held → World
world cells h = record { cells = cells; held = h }

-- ---- counts and time
-- erases, programs, polls, scans, confirms, time
abbrev pub tally : ℕ → ℕ → ℕ → ℕ → ℕ → ℕ → Tally
tally e p l s c t = record { erases = e; programs = p; polls = l; scans = s; confirms = c; time = t }

-- an operation counts when its last write is sent
abbrev pub begun_of : Tally → ℕ → ℕ → Tally
begun_of t command e =
    pick (eqb command PROGRAM)
    (tally t.erases (t.programs + 1) t.polls t.scans t.confirms (t.time + e))
    (tally (t.erases + 1) t.programs t.polls t.scans t.confirms (t.time + e))

-- one cycle more, of e µs
abbrev pub counted_of : Tally → Purpose → ℕ → Tally
counted_of t Scan e = tally t.erases t.programs t.polls (t.scans + 1) t.confirms (t.time + e)
counted_of t Lead e = tally t.erases t.programs t.polls t.scans t.confirms (t.time + e)
counted_of t (Begin c) e = begun_of t c e
counted_of t Poll e = tally t.erases t.programs (t.polls + 1) t.scans t.confirms (t.time + e)
counted_of t Confirm e = tally t.erases t.programs t.polls t.scans (t.confirms + 1) (t.time + e)

-- ---- the last cycle, by its kind
abbrev pub last : ℕ → ℕ → Bool → ℕ → ℕ → Last
last k e wp a x = record { kind = k; elapsed = e; wp = wp; address = a; «data» = x }

abbrev pub no_last : Last
no_last = last NO-CYCLE 0 false 0 0

abbrev pub last_of : ℕ → Bool → Action → Last
last_of e wp (Read a) = last A-READ e wp a 0
last_of e wp (Write a x) = last A-WRITE e wp a x
last_of e wp Idle = no_last
last_of e wp (Cut s) = no_last

-- ---- one cycle sent
-- nothing is sent yet: a fresh device
abbrev pub none_sent : Held
none_sent = record { device = fresh_device; tally = tally 0 0 0 0 0 0; last = no_last; reply = 0; sent = 0 }

abbrev pub held_of : Held → Purpose → Cycle → Outcome → Held
held_of h p c o =
    record {
      device = o.reply.device;
      tally = counted_of h.tally p c.elapsed;
      last = last_of c.elapsed c.wp c.action;
      reply = o.reply.value;
      sent = h.sent + 1;
    }

unfoldable pub send_of : ℕ → World → Purpose → Cycle → World
send_of part w p c =
    world (cycle_of part w.cells w.held.device c).cells
    (held_of w.held p c (cycle_of part w.cells w.held.device c))

-- ---- a list sent
abbrev pub play_of : ℕ → World → List Sent → World
play_of part w [] = w
play_of part w (s ∷ ss) = play_of part (send_of part w s.purpose s.cycle) ss

-- ---- the loader's cycles, at most k: from a turn on, what a cycle shows goes to the loader's next step
abbrev pub run_of : Job → List ℕ → ℕ → Turned → World → World
run_of j image zero t w = w
run_of j image (suc k) t w =
    elim t.turn [
      | Stop n ↦ w
      | Play l p c ↦ run_of j image k (turn_of j image t.seen l (send_of j.part w p c).held.reply) (send_of j.part w p c)
    ]

-- the number with which the loader stops at a turn; 0 where it goes on
abbrev pub stop_number : Turn → ℕ
stop_number (Play l p c) = 0
stop_number (Stop n) = n

-- the number with which the loader stops within k cycles, from a turn on; 0 while it goes on
abbrev pub stop_of : Job → List ℕ → ℕ → Turned → World → ℕ
stop_of j image zero t w = stop_number t.turn
stop_of j image (suc k) t w =
    elim t.turn [
      | Stop n ↦ n
      | Play l p c ↦ stop_of j image k (turn_of j image t.seen l (send_of j.part w p c).held.reply) (send_of j.part w p c)
    ]

-- what is held when a run ends, and the number with which the loader stopped
abbrev pub run_end : Held → ℕ → RunEnd
run_end h n = record { held = h; answer = n }

-- a run from the start: nothing seen, nothing sent, the first sector's first read
abbrev pub run_from : Job → List ℕ → List ℕ → ℕ → World
run_from j image cells k = run_of j image k (turned (replicate 4096 0) (next_sector j 0)) (world cells none_sent)

-- the number with which the loader stops in such a run
abbrev pub stop_from : Job → List ℕ → List ℕ → ℕ → ℕ
stop_from j image cells k = stop_of j image k (turned (replicate 4096 0) (next_sector j 0)) (world cells none_sent)
