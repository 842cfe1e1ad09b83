-- The operations that sent cycles start: none by reads, one by an operation's cycles; and each cycle is what it is counted and taken as.
use Prim.Native.Nat.{ℕ, zero, suc, ◌≤◌}
use mathlib.Core.Path.{◌≡◌, refl, sym, ap, ap₂, ◌∙◌}
use mathlib.Core.Bool.{Bool, true, false}
use mathlib.Core.List.{List, [], ◌∷◌, ◌++◌, map, append_assoc, map-append}
use native.Mathlib.Omega.{arith}
use borrow.Author.Tests.{eq-eqb, ne_eqb}
use lib.ListN.{length, get_or, replicate}
use Rattle.parts.specs.Width.{value_of}
use Rattle.parts.specs.Table.{row_of}
use Rattle.parts.specs.Time.{polls_of}
use Rattle.device.specs.declared.state.Operation.{Operation}
use Rattle.device.specs.declared.cycle.Action.TheVariants.{Read}
use Rattle.device.specs.declared.cycle.Cycle.{Cycle}
use Rattle.device.specs.Device.{rested, idle}
use Rattle.device.specs.Sequence.{ignored}
use Rattle.device.specs.Cycle.{cycle, Chip, chip}
use Rattle.device.specs.Trace.{after, play, started_in, uncut}
use Rattle.device.proofs.Started.{started-append, read-starts, reads-start, one-read-starts, uncut-append}
use Rattle.commands.specs.declared.write.Write.{Write}
use Rattle.driver.specs.Writes.{writes_of, write_count}
use Rattle.driver.specs.Machine.{address_of, confirm_after}
use Rattle.driver.specs.Talk.{write_cycle, write_cycles, operation_of, completed, shows}
use Rattle.driver.specs.Reads.{Scans, Polls, Confirms, Place, ARead, NoRead, places_in}
use Rattle.driver.specs.Refusals.{command_refusal, start_refusal}
use Rattle.driver.proofs.Asked.{asking, begun}
use Rattle.driver.proofs.Theorems.{writes_start, last-write-starts, confirm-shows, placed as operation-placed}
use Rattle.job.specs.declared.loader.Job.{Job}
use Rattle.job.specs.declared.loader.Purpose.TheVariants.{Scan, Poll, Confirm}
use Rattle.job.specs.Run.{Sent, sent, World, send_of, play_of}
use Rattle.job.specs.Sent.{writes_sent, operated, scan_read}
use Rattle.job.proofs.Rest.{chip_of}
use Rattle.invoice.specs.Started.{cycles_in, shows_cell}
use Rattle.invoice.proofs.Placed.{placed_as}
use Rattle.invoice.proofs.Apiece.{cell-shows, poll-shows, Apiece, read-piece, apiece-append, apiece-writes}

-- ---- no cut
writes-uncut : (wp : Bool) (ws : List Write) → uncut (write_cycles wp ws) ≡ true
writes-uncut wp [] = refl
writes-uncut wp (w ∷ ws) = writes-uncut wp ws

reads-uncut : (n e f : ℕ) (wp : Bool) (a : ℕ) → uncut (replicate n (cycle e wp (Read a)) ++ (cycle f wp (Read a) ∷ [])) ≡ true
reads-uncut zero e f wp a = refl
reads-uncut (suc n) e f wp a = reads-uncut n e f wp a

-- ---- the chip of a played list
pub world-plays : (part : ℕ) (w : World) (L : List Sent) → chip_of (play_of part w L) ≡ play part (chip_of w) (cycles_in L)
unfolding send_of after
world-plays part w [] = refl
world-plays part w (s ∷ L) = world-plays part (send_of part w s.purpose s.cycle) L

pub play-append : (part : ℕ) (w : World) (L M : List Sent) → play_of part w (L ++ M) ≡ play_of part (play_of part w L) M
play-append part w [] M = refl
play-append part w (s ∷ L) M = play-append part (send_of part w s.purpose s.cycle) L M

polls-cycles : (n : ℕ) (c d : Cycle) → cycles_in (replicate n (sent Poll c) ++ (sent Confirm d ∷ [])) ≡ replicate n c ++ (d ∷ [])
polls-cycles zero c d = refl
polls-cycles (suc n) c d = ap (λ (l : List Cycle). c ∷ l) (polls-cycles n c d)

pub operated-cycles : (j : Job) (command a x : ℕ) → command ≤ 1
    → cycles_in (operated j command a x)
    ≡ write_cycles j.wp (writes_of j.row command a x) ++ (replicate (polls_of j.row command j.p) (cycle j.p j.wp (Read a)) ++ (cycle confirm_after j.wp (Read a) ∷ []))
unfolding operated writes_of
operated-cycles j zero a x le = ap (λ (l : List Cycle). write_cycles j.wp (writes_of j.row 0 a x) ++ l) (polls-cycles (polls_of j.row 0 j.p) _ _)
operated-cycles j (suc zero) a x le = ap (λ (l : List Cycle). write_cycles j.wp (writes_of j.row 1 a x) ++ l) (polls-cycles (polls_of j.row 1 j.p) _ _)
operated-cycles j (suc (suc c)) a x le = absurd (omega arith)

replicate-cycles : (n : ℕ) (s : Sent) → cycles_in (replicate n s) ≡ replicate n s.cycle
replicate-cycles zero s = refl
replicate-cycles (suc n) s = ap (λ (l : List Cycle). s.cycle ∷ l) (replicate-cycles n s)

writes-cycles : (wp : Bool) (command : ℕ) (ws : List Write) → cycles_in (writes_sent wp command ws) ≡ write_cycles wp ws
writes-cycles wp command [] = refl
writes-cycles wp command (w ∷ []) = refl
writes-cycles wp command (w ∷ (v ∷ ws)) = ap (λ (l : List Cycle). write_cycle wp w ∷ l) (writes-cycles wp command (v ∷ ws))

cycles-append : (L M : List Sent) → cycles_in (L ++ M) ≡ cycles_in L ++ cycles_in M
cycles-append L M = map-append (λ (s : Sent). s.cycle) L M

-- ---- sent cycles
-- from the world w on, the cycles L start the operations os, each is what it is counted as, and there is no cut
pub record Starts (part : ℕ) (w : World) (L : List Sent) (os : List Operation) : Type 0 where
  pub begun : started_in part (chip_of w) (cycles_in L) ≡ os
  pub apiece : Apiece part w L
  pub whole : uncut (cycles_in L) ≡ true
  -- and in their places the cycles are what their purposes say, whatever follows
  pub placed : (cs : List Cycle) → places_in part Scans (chip_of w) (cycles_in L ++ cs) ≡ map placed_as L ++ places_in part Scans (chip_of (play_of part w L)) cs

module _ (part : ℕ) (w : World) where
  -- no cycle
  pub starts_none : Starts part w [] []
  starts_none = record { begun = refl; apiece = tt; whole = refl; placed = λ cs. refl }

  -- two lists in a row
  pub starts-append : (L M : List Sent) (os ps : List Operation) → Starts part w L os → Starts part (play_of part w L) M ps → Starts part w (L ++ M) (os ++ ps)
  starts-append L M os ps s t =
      record {
        begun = ap (started_in part (chip_of w)) (cycles-append L M)
            ∙ (started-append part (chip_of w) (cycles_in L) (cycles_in M)
            ∙ ap₂ {A = List Operation} {B = List Operation} {C = List Operation} (λ x y. x ++ y) s.begun
            (ap (λ (h : Chip). started_in part h (cycles_in M)) (sym (world-plays part w L)) ∙ t.begun));
        apiece = apiece-append part w L M s.apiece t.apiece;
        whole = ap uncut (cycles-append L M) ∙ uncut-append (cycles_in L) (cycles_in M) s.whole t.whole;
        placed = λ cs.
            ap (λ (l : List Cycle). places_in part Scans (chip_of w) (l ++ cs)) (cycles-append L M)
            ∙ (ap (places_in part Scans (chip_of w)) (append_assoc (cycles_in L) (cycles_in M) cs)
            ∙ (s.placed (cycles_in M ++ cs)
            ∙ (ap (λ (ps : List Place). map placed_as L ++ ps) (t.placed cs)
            ∙ (sym (append_assoc (map placed_as L) (map placed_as M) (places_in part Scans (chip_of (play_of part (play_of part w L) M)) cs))
            ∙ rw (map-append placed_as L M, play-append part w L M)))));
      }

  module _ (j : Job) (a : ℕ) where
    -- a scan that shows the value of its cell
    pub starts-read : shows_cell part (chip_of w) (scan_read j a).cycle (Read a) ≡ true → Starts part w (scan_read j a ∷ []) []
    unfolding send_of after
    starts-read t = record { begun = rw (read-starts part (chip_of w) 0 j.wp a); apiece = (read-piece part (chip_of w) Scan 0 j.wp a refl refl (cell-shows part (chip_of w) (scan_read j a) t), tt); whole = refl; placed = λ cs. refl }

-- an operation's cycles, from an idle chip, where it is accepted and not ignored
module _ (j : Job) (command a x : ℕ) (few : command ≤ 1) (row : j.row ≡ row_of j.part) (w : World)
    (accepted : start_refusal j.part command a x j.p ≡ 0) (whole : length w.cells ≡ (row_of j.part).cells)
    (rests : idle w.held.device ≡ true) (heeded : ignored (row_of j.part) j.wp command a ≡ false)
    (left : chip_of (play_of j.part w (operated j command a x)) ≡ chip (completed (row_of j.part) command a x w.cells) (rested w.held.device)) where
  abbrev o : Operation
  o = operation_of (row_of j.part) command a x

  abbrev n : ℕ
  n = polls_of (row_of j.part) command j.p

  asks : command_refusal j.part command a x ≡ 0
  asks = asking j.part command a x (begun j.part command a x j.p accepted).asked

  listed : cycles_in (operated j command a x)
      ≡ write_cycles j.wp (writes_of (row_of j.part) command a x)
      ++ (replicate (polls_of (row_of j.part) command j.p) (cycle j.p j.wp (Read a)) ++ (cycle confirm_after j.wp (Read a) ∷ []))
  listed = rw (← row) (operated-cycles j command a x few)

  operated-begun : started_in j.part (chip_of w) (cycles_in (operated j command a x)) ≡ o ∷ []
  operated-begun =
      let r = row_of j.part in
      let ws = write_cycles j.wp (writes_of r command a x) in
      let s = writes_start j.part command a x j.wp w.cells w.held.device asks whole rests heeded in
      ap (started_in j.part (chip_of w)) listed
      ∙ (started-append j.part (chip_of w) ws _
      ∙ ap₂ {A = List Operation} {B = List Operation} {C = List Operation} (λ x y. x ++ y) s.1
      (reads-start j.part n j.p j.wp a (cycle confirm_after j.wp (Read a) ∷ []) (one-read-starts j.part confirm_after j.wp a) (play j.part (chip_of w) ws)))

  polls-placed : (m : ℕ) (c d : Cycle) → map placed_as (replicate m (sent Poll c) ++ (sent Confirm d ∷ [])) ≡ replicate m (ARead Polls) ++ (ARead Confirms ∷ [])
  polls-placed zero c d = refl
  polls-placed (suc m) c d = ap (λ (ps : List Place). ARead Polls ∷ ps) (polls-placed m c d)

  -- their places
  places-are : (c : ℕ) → c ≤ 1 → map placed_as (operated j c a x) ≡ replicate (write_count c) NoRead ++ (replicate (polls_of j.row c j.p) (ARead Polls) ++ (ARead Confirms ∷ []))
  unfolding operated writes_of write_count
  places-are zero le = ap (λ (ps : List Place). replicate 4 NoRead ++ ps) (polls-placed (polls_of j.row 0 j.p) _ _)
  places-are (suc zero) le = ap (λ (ps : List Place). replicate 6 NoRead ++ ps) (polls-placed (polls_of j.row 1 j.p) _ _)
  places-are (suc (suc c)) le = absurd (omega arith)

  operated-placed : (cs : List Cycle) → places_in j.part Scans (chip_of w) (cycles_in (operated j command a x) ++ cs)
      ≡ map placed_as (operated j command a x) ++ places_in j.part Scans (chip_of (play_of j.part w (operated j command a x))) cs
  operated-placed cs =
      let r = row_of j.part in
      let plain : address_of command a ≡ a = rw (ne_eqb command 3 (λ e. omega arith)) in
      let c = cycle confirm_after j.wp (Read a) in
      let polls = replicate n (cycle j.p j.wp (Read a)) in
      rw (
        listed,
        append_assoc (write_cycles j.wp (writes_of r command a x)) (polls ++ (c ∷ [])) cs,
        append_assoc polls (c ∷ []) cs,
        left,
        places-are command few,
        row,
        append_assoc (replicate (write_count command) NoRead) (replicate n (ARead Polls) ++ (ARead Confirms ∷ [])) (places_in j.part Scans (chip (completed r command a x w.cells) (rested w.held.device)) cs),
        append_assoc (replicate n (ARead Polls)) (ARead Confirms ∷ []) (places_in j.part Scans (chip (completed r command a x w.cells) (rested w.held.device)) cs),
      )
      (rw plain at (operation-placed j.part command a x j.p j.wp w.cells w.held.device accepted whole rests heeded cs))

  -- the confirming read: what it meets after the writes and the polls, and that it shows the value of its cell
  abbrev poll : Sent
  poll = sent Poll (cycle j.p j.wp (Read a))

  abbrev confirm : Sent
  confirm = sent Confirm (cycle confirm_after j.wp (Read a))

  abbrev written : World
  written = play_of j.part w (writes_sent j.wp command (writes_of (row_of j.part) command a x))

  abbrev met : World
  met = play_of j.part written (replicate n poll)

  met-is : chip_of met ≡ play j.part (play j.part (chip_of w) (write_cycles j.wp (writes_of (row_of j.part) command a x))) (replicate n (cycle j.p j.wp (Read a)))
  met-is =
      let ws = writes_of (row_of j.part) command a x in
      world-plays j.part written (replicate n poll)
      ∙ (ap (play j.part (chip_of written)) (replicate-cycles n poll)
      ∙ ap (λ (h : Chip). play j.part h (replicate n (cycle j.p j.wp (Read a))))
      (world-plays j.part w (writes_sent j.wp command ws) ∙ ap (play j.part (chip_of w)) (writes-cycles j.wp command ws)))

  met-leads : after j.part (chip_of met) confirm.cycle ≡ chip (completed (row_of j.part) command a x w.cells) (rested w.held.device)
  unfolding operated send_of after
  met-leads =
      let ws = writes_sent j.wp command (writes_of (row_of j.part) command a x) in
      let e : play_of j.part w (operated j command a x) ≡ play_of j.part met (confirm ∷ [])
      = rw row (play-append j.part w ws (replicate n poll ++ (confirm ∷ [])) ∙ play-append j.part written (replicate n poll) (confirm ∷ [])) in
      sym (ap chip_of e) ∙ left

  confirm-true : shows_cell j.part (chip_of met) confirm.cycle (Read a) ≡ true
  confirm-true =
      let r = row_of j.part in
      let plain : address_of command a ≡ a = rw (ne_eqb command 3 (λ e. omega arith)) in
      let s = rw plain at (confirm-shows j.part command a x j.p j.wp w.cells w.held.device accepted whole rests heeded) in
      eq-eqb _ _ (ap (λ (h : Chip). shows j.part h confirm.cycle) met-is ∙ (s ∙ sym (ap (λ (h : Chip). value_of r.width (get_or h.cells a 0)) met-leads)))

  -- each of them is what it is counted and told as
  polls-apiece : (m : ℕ) (v : World) → shows_cell j.part (chip_of (play_of j.part v (replicate m poll))) confirm.cycle (Read a) ≡ true → Apiece j.part v (replicate m poll ++ (confirm ∷ []))
  polls-apiece zero v t = (read-piece j.part (chip_of v) Confirm confirm_after j.wp a refl refl (cell-shows j.part (chip_of v) confirm t), tt)
  polls-apiece (suc m) v t = (read-piece j.part (chip_of v) Poll j.p j.wp a refl refl (poll-shows j.part (chip_of v) poll.cycle), polls-apiece m _ t)

  operated-apiece : Apiece j.part w (operated j command a x)
  unfolding operated
  operated-apiece =
      rw row
      (apiece-append j.part w (writes_sent j.wp command (writes_of (row_of j.part) command a x)) _
      (apiece-writes j.part j.wp command (writes_of (row_of j.part) command a x) o few refl w
      (last-write-starts j.part command a x j.wp w.cells w.held.device asks whole rests heeded))
      (polls-apiece n _ confirm-true))

  pub starts-operated : Starts j.part w (operated j command a x) (o ∷ [])
  starts-operated =
      let ws = write_cycles j.wp (writes_of (row_of j.part) command a x) in
      let reads = replicate n (cycle j.p j.wp (Read a)) ++ (cycle confirm_after j.wp (Read a) ∷ []) in
      record {
        begun = operated-begun;
        apiece = operated-apiece;
        whole = ap uncut listed ∙ uncut-append ws reads (writes-uncut j.wp (writes_of (row_of j.part) command a x)) (reads-uncut n j.p confirm_after j.wp a);
        placed = operated-placed;
      }
