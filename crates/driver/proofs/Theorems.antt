-- What is proved of the driver, over all parts at once. Every hypothesis stands in the statement; a refusal of 0 says that what is asked is accepted.
use Rattle.std.specs.Prelude.{None}
use Prim.Native.Nat.{ℕ, ◌+◌, ◌-◌, ◌*◌, ◌^◌, ◌≤◌, ◌<◌}
use mathlib.Core.Path.{◌≡◌, refl, sym, ap, ◌∙◌}
use mathlib.Core.Bool.{Bool, true, false}
use mathlib.Core.List.{List, [], ◌∷◌, ◌++◌, append-nil}
use native.Mathlib.Omega.{arith}
use borrow.Author.Tests.{eq-eqb, ne_eqb}
use lib.Dec.{eqb}
use lib.ListN.{length, get_or, replicate}
use lib.Bits.{bit_and}
use Rattle.parts.specs.Pick.{pick}
use Rattle.parts.specs.Width.{value_of}
use Rattle.parts.specs.Table.{row_of, part_refusal}
use Rattle.parts.specs.Time.{is_interval, time_of, polls_of}
use Rattle.parts.specs.declared.table.Row.{Row}
use Rattle.parts.proofs.Sound.{width-least}
use Rattle.device.specs.declared.state.Device.{Device}
use Rattle.device.specs.declared.state.Operation.{Operation}
use Rattle.device.specs.declared.cycle.Action.TheVariants.{Read}
use Rattle.device.specs.declared.cycle.Cycle.{Cycle}
use Rattle.device.specs.Device.{busy_with, device, rested, core_idle, idle}
use Rattle.device.specs.Sequence.{ignored}
use Rattle.device.specs.Cycle.{cycle, Chip, chip, outputs_of}
use Rattle.device.specs.Trace.{play, started_in}
use Rattle.driver.specs.declared.machine.Phase.{Phase}
use Rattle.driver.specs.declared.machine.Phase.TheVariants.{Polling, Done, GaveUp, Differs}
use Rattle.driver.specs.declared.machine.Driver.{Driver}
use Rattle.driver.specs.declared.machine.Step.{Step}
use Rattle.driver.specs.Refusals.{command_refusal, start_refusal}
use Rattle.driver.specs.Writes.{writes_of, write_count}
use Rattle.driver.specs.Machine.{address_of, bit_seven, bit_wanted, value_wanted, begun, no_driver, start_of, most_polls, in_range, confirm_after, moved, step, final, ended, step_of}
use Rattle.driver.specs.Endings.{MustRaise, MustRaiseSeven, Ended, Meaning}
use Rattle.driver.specs.Talk.{Stepping, AsSaid, write_cycles, operation_cycles, operation_of, completed, shown_after, shows, Told, told, talk, heard}
use Rattle.driver.specs.Reads.{Scans, Polls, Confirms, ARead, NoRead, places_in}
use Rattle.driver.proofs.Asked as Asked
use Rattle.driver.proofs.Steps.{refuses, most, StepInRange, kept, few-polls, falls, asks-on, final-polls, final-writing}
use Rattle.driver.proofs.Named.{named_in, named_by, names, as_cycle, cycles-are, cycles-few}
use Rattle.driver.proofs.Within.{over, stands}
use Rattle.device.proofs.Idle.{idle-is, idle-rests, idle-free}
use Rattle.device.proofs.Outputs.{keeps-seven}
use Rattle.device.proofs.Started.{LastStarts, last-starts-all, Leads}
use Rattle.driver.proofs.Commands.{command-leads}
use Rattle.driver.proofs.Begins.{start_is, few-commands, kept-accepted, start-range, kept-address, kept-bit, kept-value, kept-last, kept-writes, kept-heeded}
use Rattle.driver.proofs.Talks as Talks
use Rattle.driver.proofs.Replies as Replies
use Rattle.driver.proofs.Alike as Alike
use Rattle.driver.proofs.Shown as Shown

-- ---- D1: a command's writes on the model
-- On the lent cells of a part, from any idle device, at a WP# level under which the command is not ignored, the writes of an accepted command leave the cells
-- as they were and the device running exactly that operation, with its whole table time left.
module _ (part command address word : ℕ) (wp : Bool) (cells : List ℕ) (d : Device)
    (accepted : command_refusal part command address word ≡ 0)
    (whole : length cells ≡ (row_of part).cells)
    (rest : idle d ≡ true)
    (heeded : ignored (row_of part) wp command address ≡ false) where
  -- the writes; the operation
  abbrev cs : List Cycle
  cs = write_cycles wp (writes_of (row_of part) command address word)

  abbrev o : Operation
  o = operation_of (row_of part) command address word

  leads : Leads part (chip cells d) cs (chip cells (device (busy_with d.core o) 0)) (o ∷ [])
  leads =
      let w = Asked.asked part command address word accepted in
      let i = idle-is d rest in
      rw i.0 (command-leads part w.known cells whole wp d.core (idle-rests d.core i.1) (idle-free d.core i.1) command address word w.target heeded)

  -- The last of them starts it, and those before start nothing.
  pub last-write-starts : LastStarts part (chip cells d) cs (o ∷ [])
  last-write-starts = leads.last

  -- So it is the one operation that they start.
  pub writes_start : (play part (chip cells d) cs ≡ chip cells (device (busy_with d.core o) 0)) × (started_in part (chip cells d) cs ≡ o ∷ [])
  writes_start = (leads.played, last-starts-all part (chip cells d) cs (o ∷ []) last-write-starts)

-- ---- D2: a started driver against the model
-- On the lent cells of a part, from any idle device, at a WP# level under which the command is not ignored.
module _ (part command address word p : ℕ) (wp : Bool) (cells : List ℕ) (d : Device)
    (accepted : start_refusal part command address word p ≡ 0)
    (whole : length cells ≡ (row_of part).cells)
    (rest : idle d ≡ true)
    (heeded : ignored (row_of part) wp command address ≡ false) where
  -- the row; the polled address; N; the value at the address, and what a read shows there once the operation has completed
  abbrev r : Row
  r = row_of part

  abbrev at : ℕ
  at = address_of command address

  abbrev N : ℕ
  N = polls_of r command p

  abbrev old : ℕ
  old = value_of r.width (get_or cells address 0)

  abbrev shown : ℕ
  shown = shown_after r command address word cells

  -- the talk that begins with the driver's first step, whatever was read before: at most n cycles
  abbrev talked : ℕ → ℕ → Told
  talked n read = talk step_of part wp n (step_of (start_of part command address word p).driver read) (chip cells d)

  -- the cycles of it: the writes, so many polls, and what follows
  abbrev sending : ℕ → List Cycle → List Cycle
  sending polls cs = write_cycles wp (writes_of r command address word) ++ (replicate polls (cycle p wp (Read at)) ++ cs)

  -- the chip that it leaves: the operation completed on the cells, and the device idle
  abbrev leaving : Chip
  leaving = chip (completed r command address word cells) (rested d)

  -- its end, after so many polls: the number of the ending, and the polls in the result
  abbrev ending_with : ℕ → Phase → Step
  ending_with polls f = ended (moved (begun part command address word p) Polling polls) f

  idles : (d ≡ device d.core 0) × (core_idle d.core ≡ true)
  idles = idle-is d rest

  -- Where bit 7 of the shown value is the wanted one, it sends the writes, N polls and one confirming read, and ends 0 where the shown value is the wanted
  -- one, and else 12; with N polls in the result.
  pub performs : bit_seven shown ≡ bit_wanted command word → (n read : ℕ) → write_count command + N + 1 ≤ n
      → talked n read ≡ told (sending N (cycle confirm_after wp (Read at) ∷ [])) leaving (ending_with N (pick (eqb shown (value_wanted r command word)) Done Differs))
  performs hit n read enough =
      let c = few-commands part command address word p accepted in
      let l = kept-last r command address word c in
      let a = kept-address command address in
      rw (start_is part command address word p accepted, idles.0)
      (rw (kept-writes r command address word c, l, a, kept-value r command word) at
      (Talks.performs (begun part command address word p) (kept-accepted part command address word p accepted) wp cells whole d.core idles.1 (kept-heeded r command address word c wp ∙ heeded)
      n read enough (rw (l, a, kept-bit command word) (eq-eqb (bit_seven shown) (bit_wanted command word) hit))))

  -- Where it is not (a program over a cell whose bit 7 would have to rise), it sends the writes and 2N polls, and ends 11 with 2N polls in the result.
  pub gives_up : (bit_seven shown ≡ bit_wanted command word → ⊥) → (n read : ℕ) → write_count command + N * 2 ≤ n
      → talked n read ≡ told (sending (N * 2) []) leaving (ending_with (N * 2) GaveUp)
  gives_up miss n read enough =
      let c = few-commands part command address word p accepted in
      let l = kept-last r command address word c in
      let a = kept-address command address in
      rw (start_is part command address word p accepted, idles.0, append-nil (replicate (N * 2) (cycle p wp (Read at))))
      (rw (kept-writes r command address word c, l, a) at
      (Talks.gives_up (begun part command address word p) (kept-accepted part command address word p accepted) wp cells whole d.core idles.1 (kept-heeded r command address word c wp ∙ heeded)
      n read enough (rw (l, a, kept-bit command word) (ne_eqb (bit_seven shown) (bit_wanted command word) miss))))

  -- the chip after the writes and so many polls
  abbrev polled : ℕ → Chip
  polled n = play part (play part (chip cells d) (write_cycles wp (writes_of r command address word))) (replicate n (cycle p wp (Read at)))

  -- The N-th poll shows the word as the outputs are then: all its bits but 7 inverted where N polls take just the table time. So its bit 7 is the word's,
  pub nth-poll-shows : shows part (polled (N - 1)) (cycle p wp (Read at)) ≡ outputs_of r.width (eqb (N * p) (time_of r command)) shown
  nth-poll-shows =
      let c = few-commands part command address word p accepted in
      rw idles.0
      (rw (kept-writes r command address word c, kept-last r command address word c, kept-address command address) at
      (Talks.nth-shows (begun part command address word p) (kept-accepted part command address word p accepted) wp cells whole d.core idles.1 (kept-heeded r command address word c wp ∙ heeded)))

  pub nth-poll-matches : bit_seven (shows part (polled (N - 1)) (cycle p wp (Read at))) ≡ bit_seven shown
  nth-poll-matches = ap bit_seven nth-poll-shows ∙ seven (eqb (N * p) (time_of r command))
    where
      seven : (now : Bool) → bit_seven (outputs_of r.width now shown) ≡ bit_seven shown
      seven true = keeps-seven r.width (width-least part (Asked.begun part command address word p accepted).asked.known) shown
      seven false = refl

  -- and the confirming read, a microsecond later, shows the word itself.
  pub confirm-shows : shows part (polled N) (cycle confirm_after wp (Read at)) ≡ shown
  confirm-shows =
      let c = few-commands part command address word p accepted in
      rw idles.0
      (rw (kept-writes r command address word c, kept-last r command address word c, kept-address command address) at
      (Talks.confirm-shows (begun part command address word p) (kept-accepted part command address word p accepted) wp cells whole d.core idles.1 (kept-heeded r command address word c wp ∙ heeded)))

  -- The writes, N polls and the confirming read told by their places, whatever follows.
  pub placed : (cs : List Cycle) → places_in part Scans (chip cells d) (sending N (cycle confirm_after wp (Read at) ∷ cs))
      ≡ replicate (write_count command) NoRead ++ (replicate N (ARead Polls) ++ (ARead Confirms ∷ places_in part Scans leaving cs))
  placed cs =
      let c = few-commands part command address word p accepted in
      rw idles.0
      (rw (kept-writes r command address word c, kept-last r command address word c, kept-address command address) at
      (Talks.placed (begun part command address word p) (kept-accepted part command address word p accepted) wp cells whole d.core idles.1 (kept-heeded r command address word c wp ∙ heeded) cs))

  -- So where the shown value is the wanted one, it ends 0 after N polls and the confirming read; where only its bit 7 is, 12.
  pub succeeds : shown ≡ value_wanted r command word → (n read : ℕ) → write_count command + N + 1 ≤ n
      → talked n read ≡ told (sending N (cycle confirm_after wp (Read at) ∷ [])) leaving (ending_with N Done)
  succeeds same n read enough =
      let k = (Asked.begun part command address word p accepted).asked.known in
      rw (eq-eqb shown (value_wanted r command word) same) at (performs (ap bit_seven same ∙ Shown.wanted-bit part command word k) n read enough)

  pub differs : bit_seven shown ≡ bit_wanted command word → (shown ≡ value_wanted r command word → ⊥) → (n read : ℕ) → write_count command + N + 1 ≤ n
      → talked n read ≡ told (sending N (cycle confirm_after wp (Read at) ∷ [])) leaving (ending_with N Differs)
  differs hit other n read enough = rw (ne_eqb shown (value_wanted r command word) other) at (performs hit n read enough)

  -- It is the wanted one after every erase,
  pub erase-shows : (command ≡ 0 → ⊥) → shown ≡ value_wanted r command word
  erase-shows e = let w = (Asked.begun part command address word p accepted).asked in Shown.erase-shows part command address word w.known w.target cells whole e

  pub erases : (command ≡ 0 → ⊥) → (n read : ℕ) → write_count command + N + 1 ≤ n → talked n read ≡ told (sending N (cycle confirm_after wp (Read at) ∷ [])) leaving (ending_with N Done)
  erases e = succeeds (erase-shows e)

  -- and after a program where no bit has to rise: there the shown value is the old one AND the data.
  pub program-shows : command ≡ 0 → shown ≡ bit_and old word
  program-shows z = let w = (Asked.begun part command address word p accepted).asked in Shown.program-shows part command address word w.known w.target cells whole z

  -- of a program the data is wanted, and its bit 7
  data-wanted : command ≡ 0 → value_wanted r command word ≡ word
  data-wanted z = simp (eq-eqb command 0 z)

  bit-wanted : command ≡ 0 → bit_wanted command word ≡ bit_seven word
  bit-wanted z = simp (eq-eqb command 0 z)

  pub programs : command ≡ 0 → bit_and old word ≡ word → (n read : ℕ) → write_count command + N + 1 ≤ n
      → talked n read ≡ told (sending N (cycle confirm_after wp (Read at) ∷ [])) leaving (ending_with N Done)
  programs z clears = succeeds (program-shows z ∙ (clears ∙ sym (data-wanted z)))

  -- A program that would have to raise bits, but not bit 7, ends 12;
  pub program-differs : command ≡ 0 → MustRaise old word → (MustRaiseSeven old word → ⊥) → (n read : ℕ) → write_count command + N + 1 ≤ n
      → talked n read ≡ told (sending N (cycle confirm_after wp (Read at) ∷ [])) leaving (ending_with N Differs)
  program-differs z raises but =
      let s = program-shows z in
      differs (ap bit_seven s ∙ (Shown.kept-seven old word but ∙ sym (bit-wanted z))) (λ e. raises (sym s ∙ (e ∙ data-wanted z)))

  -- and one that would have to raise bit 7, 11.
  pub program-gives-up : command ≡ 0 → MustRaiseSeven old word → (n read : ℕ) → write_count command + N * 2 ≤ n
      → talked n read ≡ told (sending (N * 2) []) leaving (ending_with (N * 2) GaveUp)
  program-gives-up z seven = gives_up (λ e. Shown.lost-seven old word seven (ap bit_seven (sym (program-shows z)) ∙ (e ∙ bit-wanted z)))

-- Stepped on by any function that gives what `step_of` says, a started driver talks the same, on any chip of its part.
pub talks-alike : (part command address word p : ℕ) → start_refusal part command address word p ≡ 0 → (steps : Stepping) → AsSaid steps → (wp : Bool) (n read : ℕ) (h : Chip) → read < 2 ^ 16
    → talk steps part wp n (steps (start_of part command address word p).driver read) h ≡ talk step_of part wp n (step_of (start_of part command address word p).driver read) h
talks-alike part command address word p accepted steps said wp n read h small =
    rw (start_is part command address word p accepted) (Alike.talks-alike part command address word p accepted steps said wp n read h small)

-- ---- D3: whatever is replied
-- Stepped on by any function that gives what `step_of` says, whatever words f replies, a dead chip's constant among them, and whatever was read before, a
-- started driver has ended after its writes + 2N + 1 cycles; and its ending means what it says.
module _ (part command address word p : ℕ) (accepted : start_refusal part command address word p ≡ 0) (wp : Bool) where
  -- what a started driver has named by an end
  named-at-end : (s : Step) → s.driver ≡ moved (begun part command address word p) s.driver.phase s.driver.count → StepInRange s → final s.driver.phase ≡ true
      → named_by Cycle (as_cycle wp) s.driver ≡ operation_cycles (row_of part) wp command address word p s.polls s.driver.phase
  named-at-end s e k z =
      let b = begun part command address word p in
      let f = s.driver.phase in
      let c = few-commands part command address word p accepted in
      ap (λ (d : Driver). named_in Cycle (as_cycle wp) d f s.driver.count) e
      ∙ (cycles-are wp b f s.driver.count (final-writing f z)
      ∙ rw (kept-writes (row_of part) command address word c, kept-address command address, sym (final-polls f z s.driver.count) ∙ k.carried))

  module _ (steps : Stepping) (said : AsSaid steps) (f : ℕ → ℕ) (words : (i : ℕ) → f i < 2 ^ 16) (read : ℕ) (small : read < 2 ^ 16)
      (n : ℕ) (enough : write_count command + polls_of (row_of part) command p * 2 + 1 ≤ n) where
    abbrev first : Step
    first = steps (start_of part command address word p).driver read

    heard-is : heard steps wp f n first ≡ heard step_of wp f n (step_of (begun part command address word p) read)
    heard-is = rw (start_is part command address word p accepted) (Alike.hears-alike part command address word p accepted steps said wp n read f small words)

    pub always-ends : Ended steps part command address word p wp (heard steps wp f n first)
    unfolding most_polls
    always-ends =
        rw heard-is
        (let b = begun part command address word p in
        let i = start-range part command address word p accepted in
        let s = step_of b read in
        let t = heard step_of wp f n s in
        let e = over wp n f s (omega (arith, falls b read)) in
        let w = stands wp n f [] s (kept b read i) in
        let k = w.kept in
        let z = k.finished e in
        let same : t.last.driver ≡ moved b t.last.driver.phase t.last.driver.count =
        w.asked ∙ ap (λ (d : Driver). moved d t.last.driver.phase t.last.driver.count) (asks-on b read) in
        let few : t.last.polls ≤ polls_of (row_of part) command p * 2 = omega (arith, few-polls _ k.range, k.carried, ap most same) in
        let shape : t.cycles ≡ operation_cycles (row_of part) wp command address word p t.last.polls t.last.driver.phase =
        sym (append-nil t.cycles) ∙ (sym (rw e at (w.adds (names Cycle (as_cycle wp) b read i))) ∙ named-at-end t.last same k z) in
        record {
          names-nothing = e;
          sent = shape;
          polls-few = few;
          cycles-few = omega (arith, ap length shape, cycles-few wp (row_of part) command address word p t.last.polls t.last.driver.phase);
          finished = z;
          numbered = k.number;
          repeated = λ v l. Alike.as_said part command address word p accepted steps said wp t.last.driver v (record { asked = same; range = k.range }) l ∙ k.again e v;
        })

    pub means : Meaning (row_of part) command word p f (heard steps wp f n first).last
    unfolding most_polls
    means =
        let b = begun part command address word p in
        rw heard-is
        (Replies.means b f word (kept-bit command word) (kept-value (row_of part) command word) _
        (Replies.ends b (kept-accepted part command address word p accepted) wp f read n enough))

-- ---- a refused start
-- It hands back the all-zero state, which a step answers with 5, whatever is read: it names nothing and hands the state back.
pub refused-steps : (part command address word p : ℕ) → (start_refusal part command address word p ≡ 0 → ⊥)
    → ((start_of part command address word p).driver ≡ no_driver) × ((read : ℕ) → step_of no_driver read ≡ step 5 no_driver None 0)
unfolding start_of in_range start_refusal part_refusal is_interval
refused-steps part command address word p n = (rw (ne_eqb (start_refusal part command address word p) 0 n), λ read. refuses no_driver read refl)
