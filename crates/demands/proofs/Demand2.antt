-- Demand 2 is met. What is proved stands in specs/Demand2.antt.
use Rattle.std.specs.Prelude.{None}
use Prim.Native.Nat.{ℕ, ◌+◌, ◌-◌, ◌*◌, ◌/◌, ◌^◌, ◌≤◌, ◌<◌}
use mathlib.Core.Path.{◌≡◌, refl, sym, subst, ap, ap₂, ◌∙◌}
use mathlib.Core.Bool.{Bool, true, false}
use mathlib.Core.List.{List, [], ◌∷◌, ◌++◌}
use native.Mathlib.Nat.{div-add-mod', mul_left_comm}
use native.Mathlib.Omega.{arith}
use borrow.Author.Tests.{eq-eqb, eqb-true, eqb-false}
use lib.Dec.{eqb}
use lib.Pow.{pow-add}
use lib.ListN.{length, take, replicate}
use Rattle.parts.specs.Pick.{pick}
use Rattle.parts.specs.Width.{value_of}
use Rattle.parts.specs.Table.{row_of}
use Rattle.parts.specs.declared.table.Row.{Row}
use Rattle.parts.proofs.Every.{apart}
use Rattle.parts.proofs.Sound.{width-least, suspends-on}
use Rattle.device.specs.declared.state.Device.{Device}
use Rattle.device.specs.declared.state.Operation.{Operation}
use Rattle.device.specs.declared.cycle.Action.TheVariants.{Read}
use Rattle.device.specs.declared.cycle.Cycle.{Cycle}
use Rattle.device.specs.declared.cycle.Reply.{Reply}
use Rattle.device.specs.Device.{busy}
use Rattle.device.specs.Cycle.{cycle, Chip, chip, Outcome, veils, cycle_refusal, accepted_of, cycle_of}
use Rattle.device.specs.Trace.{after, play, started_in, uncut_action}
use Rattle.device.specs.Recent.{DifferButSeven, recent_once}
use Rattle.device.proofs.Accepted.{accepted}
use Rattle.device.proofs.Recent.{recent-exactly, word-later, word-after-completion}
use Rattle.device.proofs.Suspended.{suspended-is, stands, resumed-by, resumed-is, as_before}
use Rattle.device.proofs.Started.{started-append, reads-start, one-read-starts}
use Rattle.driver.specs.declared.machine.Driver.{Driver}
use Rattle.driver.specs.declared.machine.Started.{Started}
use Rattle.driver.specs.declared.machine.Step.{Step}
use Rattle.driver.specs.declared.machine.Phase.{Phase}
use Rattle.driver.specs.declared.machine.Phase.TheVariants.{Writing, Polling, Confirming, Done, GaveUp, Differs}
use Rattle.driver.specs.Refusals.{command_refusal, start_refusal}
use Rattle.driver.specs.Writes.{write, unlock, last_write, write_count, writes_of, six_places, command_writes}
use Rattle.driver.specs.Machine.{address_of, confirm_after, bit_seven, bit_wanted, start_of, most_polls, count_fits, in_range, step, matches, polling_of, confirming_of, phase_of, step_of}
use Rattle.driver.specs.Talk.{Stepping, AsSaid, write_cycles, shown_after, Told, talk, heard}
use Rattle.driver.proofs.Asked.{asking, begun}
use Rattle.driver.proofs.Theorems as Theorems
use Rattle.bus.specs.Cycle.{high, device_numbers}
use Rattle.bus.proofs.Back.{taken-numbers}
use Rattle.demands.specs.Calls.{BusCall, OnBus, on_bus, bus_left, refused_cycle, to_write, StepCall, ToStep, to_step, AsPromised, ToStart, to_start, refused_start}
use Rattle.demands.specs.Demand2.{IdleUnprotected, StartedDriver, start_asked, operation_asked, polls, cycles_at_most, ChipFor, first_named, talked, no_read, Demand2}
use Rattle.numbers.specs.declared.machine.DriverNumbers.{DriverNumbers}
use Rattle.numbers.specs.declared.machine.StartNumbers.{StartNumbers}
use Rattle.numbers.specs.declared.machine.StepNumbers.{StepNumbers}
use Rattle.numbers.specs.Machine.{driver_numbers, driver_of, step_numbers, stepped_of}
use Rattle.numbers.specs.Loop.{Looped, told_numbers, loop, heard_numbers, loop_hearing}
use Rattle.numbers.proofs.Back.{driver-back, step-of-driver, next-back}
use Rattle.numbers.proofs.Loop.{loop-is-talk, hearing-is-heard}
use Rattle.demands.specs.Controller.{StationStartCall, on_station}
use Rattle.demands.proofs.Controller.{station-left}

-- ---- a bus cycle, and a completion that is 0 µs old
-- what a call on k hands back
bus-left : (c : BusCall) (k : OnBus) → on_bus c ≡ k → bus_left c ≡ cycle_of k.part k.cells k.device k.cycle
bus-left c k q =
    ap₂ {A = List ℕ} {B = Reply} {C = Outcome} (λ l r. record { cells = l; reply = r }) c.promise.1 c.promise.0
    ∙ ap (λ (k : OnBus). cycle_of k.part k.cells k.device k.cycle) q

-- a call with its cycle written out
with-cycle : (g : OnBus) (c : Cycle) → g.cycle ≡ c → g ≡ record { part = g.part; cells = g.cells; device = g.device; cycle = c }
with-cycle g c q = ap (λ (x : Cycle). record { part = g.part; cells = g.cells; device = g.device; cycle = x }) q

still-taken : (g : OnBus) (c : Cycle) → g.cycle ≡ c → refused_cycle g ≡ 0 → cycle_refusal g.part (length g.cells) g.device c.action ≡ 0
still-taken g c q z = rw q at z

differ-as : (w x y u v : ℕ) → x ≡ u → y ≡ v → DifferButSeven w u v → DifferButSeven w x y
differ-as w x y u v p q d = rw (p, q) d

exactly : (c : BusCall) → let g = on_bus c in refused_cycle g ≡ 0
    → (bus_left c).reply.device.core.recent
    ≡ pick (uncut_action g.cycle.action) (pick (busy (bus_left c).reply.device.core) false (recent_once g.device.core g.cycle.elapsed)) false
unfolding after
exactly c z =
    let g = on_bus c in
    subst (λ (o : Outcome). o.reply.device.core.recent ≡ pick (uncut_action g.cycle.action) (pick (busy o.reply.device.core) false (recent_once g.device.core g.cycle.elapsed)) false)
    (sym (bus-left c g refl)) (recent-exactly g.part (chip g.cells g.device) g.cycle (accepted g.part (length g.cells) g.device g.cycle.action z))

comes-later : (c e : BusCall) → let g = on_bus c in refused_cycle g ≡ 0
    → (a : ℕ) (u v : Bool) (t : ℕ) → g.device.core.recent ≡ true → g.cycle ≡ cycle 0 u (Read a)
    → on_bus e ≡ record { part = g.part; cells = g.cells; device = g.device; cycle = cycle t v (Read a) } → 0 < t
    → DifferButSeven (row_of g.part).width c.back.value e.back.value
comes-later c e z a u v t n gc hc some =
    let g = on_bus c in
    differ-as (row_of g.part).width _ _ _ _ (ap (λ (o : Outcome). o.reply.value) (bus-left c _ (with-cycle g (cycle 0 u (Read a)) gc)))
    (ap (λ (o : Outcome). o.reply.value) (bus-left e _ hc))
    (word-later g.part g.cells g.device a (still-taken g (cycle 0 u (Read a)) gc z) n u v t some)

comes-after : (c e : BusCall) → let g = on_bus c in refused_cycle g ≡ 0
    → (a s : ℕ) (u v : Bool) (t : ℕ) → veils (row_of g.part) g.device.core a ≡ false → 0 < s → g.device.core.running.left ≡ s → g.cycle ≡ cycle s u (Read a)
    → on_bus e ≡ record { part = g.part; cells = (bus_left c).cells; device = (bus_left c).reply.device; cycle = cycle t v (Read a) } → 0 < t
    → DifferButSeven (row_of g.part).width c.back.value e.back.value
comes-after c e z a s u v t clear some l gc hc later =
    let g = on_bus c in
    let first = bus-left c _ (with-cycle g (cycle s u (Read a)) gc) in
    differ-as (row_of g.part).width _ _ _ _ (ap (λ (o : Outcome). o.reply.value) first)
    (ap (λ (o : Outcome). o.reply.value) (bus-left e _ hc)
    ∙ ap (λ (o : Outcome). (cycle_of g.part o.cells o.reply.device (cycle t v (Read a))).reply.value) first)
    (word-after-completion g.part g.cells g.device a s u (still-taken g (cycle s u (Read a)) gc z) clear some l t v later)

-- ---- a command's writes together
-- the first count of six places are the writes
places-are : (part command address x : ℕ) → command_refusal part command address x ≡ 0
    → take (command_writes part command address x).count (command_writes part command address x).writes ≡ writes_of (row_of part) command address x
unfolding command_writes writes_of write_count
places-are part command address x accepted = rw (eq-eqb (command_refusal part command address x) 0 accepted) (by (eqb command 0))
  where
    r : Row
    r = row_of part

    by : (t : Bool)
        → take (pick t 4 6)
        (six_places (pick t (unlock r (write r.u1 0xa0 ∷ last_write r command address x ∷ [])) (unlock r (write r.u1 0x80 ∷ unlock r (last_write r command address x ∷ [])))))
        ≡ pick t (unlock r (write r.u1 0xa0 ∷ last_write r command address x ∷ [])) (unlock r (write r.u1 0x80 ∷ unlock r (last_write r command address x ∷ [])))
    by true = refl
    by false = refl

-- ---- the driver
-- the driver's cycles on a chip: its writes, some polls, and what follows that starts nothing
begins-once : (part command address word : ℕ) (wp : Bool) (cells : List ℕ) (d : Device) (cs ds : List Cycle) (m e at : ℕ) (o : Operation)
    → cs ≡ write_cycles wp (writes_of (row_of part) command address word) ++ (replicate m (cycle e wp (Read at)) ++ ds)
    → started_in part (chip cells d) (write_cycles wp (writes_of (row_of part) command address word)) ≡ o ∷ []
    → ((h : Chip) → started_in part h ds ≡ []) → started_in part (chip cells d) cs ≡ o ∷ []
begins-once part command address word wp cells d cs ds m e at o q one none =
    let ws = write_cycles wp (writes_of (row_of part) command address word) in
    ap (started_in part (chip cells d)) q
    ∙ (started-append part (chip cells d) ws (replicate m (cycle e wp (Read at)) ++ ds)
    ∙ ap₂ {A = List Operation} {B = List Operation} {C = List Operation} (λ x y. x ++ y) one (reads-start part m e wp at ds none (play part (chip cells d) ws)))

-- a function that steps as promised gives what the definition says
as_said : (steps : Stepping) → AsPromised steps → AsSaid steps
as_said steps w d v t = sym (w.handed d v t) ∙ ((w.call d v t).promise ∙ ap (λ (g : ToStep). step_of g.driver g.read) (w.gave d v t))

-- and the definition is such a function
abbrev stepped : Driver → ℕ → StepCall
stepped d v = record { lifetimes = tt; given = (d, (v, tt)); back = step_of d v; ends = (d, (v, tt)); promise = refl }

-- the first step is one of the state that the definition says
first-is : (s : StartedDriver) → let g = start_asked s in first_named s ≡ s.steps (start_of g.part g.command g.address g.word g.p).driver s.read
first-is s = ap (λ (t : Started). s.steps t.driver s.read) s.start.promise

-- so a started driver talks as by the definition; it polls N times where the cell shows the wanted bit 7, else it gives up
module _ (s : StartedDriver) (h : ChipFor (start_asked s)) where
  abbrev part : ℕ
  part = (start_asked s).part

  abbrev command : ℕ
  command = (start_asked s).command

  abbrev address : ℕ
  address = (start_asked s).address

  abbrev word : ℕ
  word = (start_asked s).word

  abbrev p : ℕ
  p = (start_asked s).p

  abbrev i : IdleUnprotected part command address h.cells h.device h.wp
  i = h.ready

  alike : (n : ℕ) → talked s h n ≡ talk step_of part h.wp n (step_of (start_of part command address word p).driver s.read) (chip h.cells h.device)
  alike n =
      ap (λ (t : Step). talk s.steps part h.wp n t (chip h.cells h.device)) (first-is s)
      ∙ Theorems.talks-alike part command address word p s.accepted s.steps (as_said s.steps s.promised) h.wp n s.read (chip h.cells h.device) s.word

  one : started_in part (chip h.cells h.device) (write_cycles h.wp (writes_of (row_of part) command address word)) ≡ operation_asked (start_asked s) ∷ []
  one =
      (Theorems.writes_start part command address word h.wp h.cells h.device (asking part command address word (begun part command address word p s.accepted).asked)
      i.whole i.rests i.heeded).1

  starts : (n : ℕ) → cycles_at_most (start_asked s) ≤ n → started_in part (chip h.cells h.device) (talked s h n).cycles ≡ operation_asked (start_asked s) ∷ []
  starts n enough = by (eqb (bit_seven shown) (bit_wanted command word)) refl
    where
      shown : ℕ
      shown = shown_after (row_of part) command address word h.cells

      N : ℕ
      N = polls (start_asked s)

      by : (t : Bool) → eqb (bit_seven shown) (bit_wanted command word) ≡ t → started_in part (chip h.cells h.device) (talked s h n).cycles ≡ operation_asked (start_asked s) ∷ []
      by true t =
          begins-once part command address word h.wp h.cells h.device _ (cycle confirm_after h.wp (Read (address_of command address)) ∷ []) N p (address_of command address)
          (operation_asked (start_asked s))
          (ap (λ (t : Told). t.cycles)
          (alike n ∙ Theorems.performs part command address word p h.wp h.cells h.device s.accepted i.whole i.rests i.heeded (eqb-true _ _ t) n s.read (omega arith)))
          one (one-read-starts part confirm_after h.wp (address_of command address))
      by false t =
          begins-once part command address word h.wp h.cells h.device _ [] (N * 2) p (address_of command address) (operation_asked (start_asked s))
          (ap (λ (t : Told). t.cycles)
          (alike n ∙ Theorems.gives_up part command address word p h.wp h.cells h.device s.accepted i.whole i.rests i.heeded (eqb-false _ _ t) n s.read (omega arith)))
          one (λ h. refl)

-- ---- what a step takes of the value that it is given
-- bit 7 is among the low eight bits
low_bit : (w x : ℕ) → 8 ≤ w → bit_seven x ≡ bit_seven (value_of w x)
low_bit w x h =
    let q : 2 ^ w ≡ 256 * 2 ^ (w - 8) = (let e : w ≡ 8 + (w - 8) = omega arith in ap (λ (n : ℕ). 2 ^ n) e) ∙ pow-add 2 8 (w - 8) in
    let k : x / 2 ^ w * 2 ^ w ≡ 256 * (x / 2 ^ w * 2 ^ (w - 8)) = ap (λ (n : ℕ). x / 2 ^ w * n) q ∙ mul_left_comm (x / 2 ^ w) 256 (2 ^ (w - 8)) in
    omega (arith, k, div-add-mod' x (2 ^ w))

module _ (d : Driver) (u v : ℕ) where
  -- nothing of the value
  ignores : (f : Phase) → no_read f d.count ≡ true → phase_of (row_of d.part) f d u ≡ phase_of (row_of d.part) f d v
  unfolding polling_of matches
  ignores Writing e = refl
  ignores Polling e = rw (eqb-true d.count 0 e)
  ignores Confirming e = apart e
  ignores Done e = refl
  ignores GaveUp e = refl
  ignores Differs e = refl

  -- its value on the part's width
  counts : (f : Phase) → bit_seven u ≡ bit_seven v → value_of (row_of d.part).width u ≡ value_of (row_of d.part).width v
      → phase_of (row_of d.part) f d u ≡ phase_of (row_of d.part) f d v
  unfolding polling_of matches confirming_of
  counts Writing b e = refl
  counts Polling b e = rw b
  counts Confirming b e = rw e
  counts Done b e = refl
  counts GaveUp b e = refl
  counts Differs b e = refl

  -- a state out of range is refused whatever is given
  in-range : ((start_refusal d.part d.command d.address d.«data» d.p ≡ 0) → phase_of (row_of d.part) d.phase d u ≡ phase_of (row_of d.part) d.phase d v)
      → step_of d u ≡ step_of d v
  unfolding step_of in_range
  in-range same =
      by (eqb (start_refusal d.part d.command d.address d.«data» d.p) 0) refl
    where
      fits : Bool
      fits = count_fits d.phase (write_count d.command) (most_polls (row_of d.part) d.command d.p) d.count

      by : (t : Bool) → eqb (start_refusal d.part d.command d.address d.«data» d.p) 0 ≡ t
          → pick (pick t fits false) (phase_of (row_of d.part) d.phase d u) (step 5 d None 0) ≡ pick (pick t fits false) (phase_of (row_of d.part) d.phase d v) (step 5 d None 0)
      by true t = ap (λ (x : Step). pick fits x (step 5 d None 0)) (same (eqb-true _ 0 t))
      by false t = refl

-- bit 7 of two words of the same value, where a step looks at them
bits : (d : Driver) (u v : ℕ) → value_of (row_of d.part).width u ≡ value_of (row_of d.part).width v
    → start_refusal d.part d.command d.address d.«data» d.p ≡ 0 → bit_seven u ≡ bit_seven v
bits d u v e z =
    let w = (row_of d.part).width in
    let h = width-least d.part (begun d.part d.command d.address d.«data» d.p z).asked.known in
    low_bit w u h ∙ (ap bit_seven e ∙ sym (low_bit w v h))

-- two steps of one state whose definition gives the same
same_step : (c e : StepCall) → (to_step c).driver ≡ (to_step e).driver
    → step_of (to_step c).driver (to_step c).read ≡ step_of (to_step c).driver (to_step e).read → c.back ≡ e.back
same_step c e same h = c.promise ∙ (h ∙ (ap (λ (d : Driver). step_of d (to_step e).read) same ∙ sym e.promise))

-- the driver of a start
abbrev driver_started : ToStart → Driver
driver_started g = (start_of g.part g.command g.address g.word g.p).driver

-- ---- the C controller's loop, from the numbers of a start on
begun-numbers : (c : StationStartCall) → c.back.driver ≡ driver_numbers (driver_started (to_start c.given))
begun-numbers c = ap (λ (t : StartNumbers). t.driver) c.promise

-- they mean the driver
names-driver : (g : ToStart) (v : DriverNumbers) → v ≡ driver_numbers (driver_started g) → driver_of v ≡ driver_started g
names-driver g v b = ap driver_of b ∙ driver-back (driver_started g)

module _ (g : ToStart) (v : DriverNumbers) (b : v ≡ driver_numbers (driver_started g)) (wp read n : ℕ) where
  -- its first step is the driver's
  first_step : stepped_of v read ≡ step_numbers (step_of (driver_started g) read)
  first_step = ap (λ (x : DriverNumbers). stepped_of x read) b ∙ step-of-driver (driver_started g) read

  loops : (cells : List ℕ) (d : Device)
      → loop g.part wp n (stepped_of v read) cells (device_numbers d) ≡ told_numbers (talk step_of g.part (high wp) n (step_of (driver_started g) read) (chip cells d))
  loops cells d =
      ap (λ (s : StepNumbers). loop g.part wp n s cells (device_numbers d)) first_step
      ∙ loop-is-talk wp g.part n (step_of (driver_started g) read) (next-back (driver_started g) read) (chip cells d)

  hears : (f : ℕ → ℕ) → loop_hearing wp f n (stepped_of v read) ≡ heard_numbers (heard step_of (high wp) f n (step_of (driver_of v) read))
  hears f =
      ap (loop_hearing wp f n) first_step
      ∙ (hearing-is-heard wp f n (step_of (driver_started g) read) (next-back (driver_started g) read)
      ∙ ap (λ (d : Driver). heard_numbers (heard step_of (high wp) f n (step_of d read))) (sym (names-driver g v b)))

-- a driver that steps by its definition steps as promised
as-defined : AsPromised step_of
as-defined = record { call = λ d v t. stepped d v; gave = λ d v t. refl; handed = λ d v t. refl }

-- the driver that a C controller has started, stepped by its definition
abbrev from_C : (c : StationStartCall) → refused_start (to_start c.given) ≡ 0 → (read : ℕ) → read < 2 ^ 16 → StartedDriver
from_C c accepted read w =
    let g = to_start c.given in
    record {
      start =
          record {
            lifetimes = tt;
            given = c.given;
            back = start_of g.part g.command g.address g.word g.p;
            ends = c.ends;
            promise = refl;
          };
      accepted = accepted;
      steps = step_of;
      promised = as-defined;
      read = read;
      word = w;
    }

-- ---- together
pub demand-2 : Demand2
unfolding cycle_of accepted_of confirm_after
demand-2 =
    record {
      cycle-acts = λ c accepted. rw (c.promise.0, c.promise.1, eq-eqb (refused_cycle (on_bus c)) 0 accepted);
      recent-exactly = exactly;
      word-comes-later = comes-later;
      word-comes-after-completion = comes-after;
      erase-suspended = suspended-is;
      suspended-stands = stands;
      resumed-by = resumed-by;
      erase-resumed = resumed-is;
      parts-that-suspend = suspends-on;
      others-as-before = λ part. as_before (row_of part);
      writes-run = λ c accepted cells d wp i. let g = to_write c in
          rw (c.promise, places-are g.part g.command g.address g.word accepted)
          (Theorems.writes_start g.part g.command g.address g.word wp cells d accepted i.whole i.rests i.heeded).0;
      writes_start = λ c accepted cells d wp i. let g = to_write c in
          rw (c.promise, places-are g.part g.command g.address g.word accepted)
          (Theorems.writes_start g.part g.command g.address g.word wp cells d accepted i.whole i.rests i.heeded).1;
      driver-starts = starts;
      poll-shows-bit-7 = λ s h. let g = start_asked s in let i = h.ready in
          Theorems.nth-poll-matches g.part g.command g.address g.word g.p h.wp h.cells h.device s.accepted i.whole i.rests i.heeded;
      confirm-shows-word = λ s h. let g = start_asked s in let i = h.ready in
          Theorems.confirm-shows g.part g.command g.address g.word g.p h.wp h.cells h.device s.accepted i.whole i.rests i.heeded;
      confirm-carries = refl;
      driver-succeeds = λ s h same n enough. let g = start_asked s in let i = h.ready in
          alike s h n ∙ Theorems.succeeds g.part g.command g.address g.word g.p h.wp h.cells h.device s.accepted i.whole i.rests i.heeded same n s.read enough;
      driver-erases = λ s h e n enough. let g = start_asked s in let i = h.ready in
          alike s h n ∙ Theorems.erases g.part g.command g.address g.word g.p h.wp h.cells h.device s.accepted i.whole i.rests i.heeded e n s.read enough;
      driver-programs = λ s h z clears n enough. let g = start_asked s in let i = h.ready in
          alike s h n ∙ Theorems.programs g.part g.command g.address g.word g.p h.wp h.cells h.device s.accepted i.whole i.rests i.heeded z clears n s.read enough;
      driver-differs = λ s h z raises but n enough. let g = start_asked s in let i = h.ready in
          alike s h n ∙ Theorems.program-differs g.part g.command g.address g.word g.p h.wp h.cells h.device s.accepted i.whole i.rests i.heeded z raises but n s.read enough;
      driver-gives-up = λ s h z seven n enough. let g = start_asked s in let i = h.ready in
          alike s h n ∙ Theorems.program-gives-up g.part g.command g.address g.word g.p h.wp h.cells h.device s.accepted i.whole i.rests i.heeded z seven n s.read enough;
      driver-ends = λ s wp f words n enough. let g = start_asked s in
          rw (first-is s)
          (Theorems.always-ends g.part g.command g.address g.word g.p s.accepted wp s.steps (as_said s.steps s.promised) f words s.read s.word n enough);
      driver-means = λ s wp f words n enough. let g = start_asked s in
          rw (first-is s)
          (Theorems.means g.part g.command g.address g.word g.p s.accepted wp s.steps (as_said s.steps s.promised) f words s.read s.word n enough);
      definition-is-promised = as-defined;
      value-ignored = λ c e same none. let d = (to_step c).driver in let u = (to_step c).read in let v = (to_step e).read in
          same_step c e same (in-range d u v (λ _. ignores d u v d.phase none));
      low-bits-count = λ c e same alike. let d = (to_step c).driver in let u = (to_step c).read in let v = (to_step e).read in
          same_step c e same (in-range d u v (λ z. counts d u v d.phase (bits d u v alike z) alike));
      station-cycle-acts = λ c accepted. let g = on_station c in station-left c ∙ taken-numbers g.part g.cells g.device g.cycle accepted;
      station-starts = λ c accepted h wp level read n w enough. let g = to_start c.given in
          ap (λ (t : Looped). started_in g.part (chip h.cells h.device) t.cycles) (loops g c.back.driver (begun-numbers c) wp read n h.cells h.device)
          ∙ rw level (starts (from_C c accepted read w) h n enough);
      station-succeeds = λ c accepted h wp level same read n w enough. let g = to_start c.given in let i = h.ready in
          loops g c.back.driver (begun-numbers c) wp read n h.cells h.device
          ∙ rw level (ap told_numbers (Theorems.succeeds g.part g.command g.address g.word g.p h.wp h.cells h.device accepted i.whole i.rests i.heeded same n read enough));
      station-ends = λ c accepted wp f words read n w enough. let g = to_start c.given in let b = begun-numbers c in
          let m = as_said step_of as-defined in (
            rw (names-driver g c.back.driver b)
                (Theorems.always-ends g.part g.command g.address g.word g.p accepted (high wp) step_of m f words read w n enough),
            (
              rw (names-driver g c.back.driver b)
                  (Theorems.means g.part g.command g.address g.word g.p accepted (high wp) step_of m f words read w n enough),
              hears g c.back.driver b wp read n f,
            ),
          );
    }
