-- After a job's cycles the range holds the image, no other cell has changed, and the chip is at rest.
use Rattle.std.specs.Prelude.{Some, None}
use Prim.Native.Nat.{ℕ, zero, suc, ◌+◌, ◌-◌, ◌*◌, ◌/◌, ◌%◌, ◌≤◌, ◌<◌}
use mathlib.Core.Path.{◌≡◌, refl, sym, ap, ◌∙◌}
use mathlib.Core.Bool.{Bool, true, false}
use mathlib.Core.List.{List, [], ◌∷◌, ◌++◌, map}
use native.Mathlib.Nat.{le_refl, add-mod_right, zero-mul, suc-mul, div-add-mod'}
use native.Mathlib.Omega.{arith}
use borrow.Author.Tests.{eq-eqb}
use lib.Dec.{eqb}
use lib.ListN.{length, get_or, take, drop, replicate, length-set, length-drop}
use lib.Seq.{length-take-le, get_or-take, get_or-drop, get_or-set_other}
use lib.Bits.{bit_and}
use Rattle.parts.specs.Pick.{pick}
use Rattle.parts.specs.Width.{value_of, blank_of, fits_in, sector_size}
use Rattle.parts.proofs.Values.{value-blank, blank-and}
use Rattle.parts.specs.Table.{row_of}
use Rattle.parts.specs.Time.{polls_of}
use Rattle.parts.specs.declared.table.Row.{Row}
use Rattle.device.specs.Sequence.{ignored}
use Rattle.device.specs.declared.cycle.Action.TheVariants.{Read}
use Rattle.device.specs.declared.state.Operation.{Operation}
use Rattle.device.specs.Device.{rested}
use Rattle.device.specs.Cycle.{cycle, Chip, chip}
use Rattle.device.specs.Trace.{after, play}
use Rattle.device.proofs.Idle.{fresh-idle}
use Rattle.driver.specs.Machine.{Next}
use Rattle.driver.specs.declared.machine.Step.{Step}
use Rattle.driver.specs.Refusals.{start_refusal}
use Rattle.driver.specs.Writes.{writes_of, write_count}
use Rattle.driver.specs.Machine.{address_of, confirm_after, value_wanted, start_of, step_of}
use Rattle.driver.specs.Talk.{talk, write_cycles, operation_of, completed, shown_after, shows}
use Rattle.driver.proofs.Theorems.{succeeds, program-shows, erase-shows}
use Rattle.job.specs.declared.loader.Job.{Job}
use Rattle.values.specs.declared.search.Decision.{Decision}
use Rattle.values.specs.declared.search.Decision.TheVariants.{NoErase, SectorErase}
use Rattle.values.specs.Search.{decision_of}
use Rattle.job.specs.Run.{Sent, World, world, none_sent, send_of, play_of}
use Rattle.job.specs.Sent.{operated, scan_read, scans, fills, looks, carries, decided_on, sector_sent, sectors_sent, sent_of}
use Rattle.driver.proofs.Talks.{talk-stops, talk-goes}
use Rattle.job.proofs.Rest.{chip_of}
use Rattle.job.proofs.AcceptedJob.{AcceptedJob, program-starts, erase-starts}
use Rattle.values.proofs.Clears.{cleared}
use Rattle.values.proofs.Places.{fit_at}
use Rattle.job.proofs.Left.{program-leaves, erase-length, erase-drop, erase-at}
use Rattle.job.proofs.Sectors.{Ready, Read-on, reads_on}
use Rattle.invoice.specs.Started.{cycles_in, shows_cell}
use Rattle.invoice.proofs.Listed.{programming, filling, looking, carrying, sectoring, sectoring_all, operations_of}
use Rattle.invoice.proofs.Starts.{world-plays, play-append, operated-cycles, Starts, starts_none, starts-append, starts-read, starts-operated}

-- ---- a talk leaves what its cycles leave
abbrev Plays : ℕ → Bool → ℕ → Step → Chip → Type 0
Plays part wp m t h = play part h (talk step_of part wp m t h).cycles ≡ (talk step_of part wp m t h).chip

plays-on : (part : ℕ) (wp : Bool) (m : ℕ) → ((t : Step) (h : Chip) → Plays part wp m t h) → (t : Step) (h : Chip) (x : Next) → t.next ≡ x → Plays part wp (suc m) t h
plays-on part wp m ih t h None q = rw (talk-stops part wp m t h q)
plays-on part wp m ih t h (Some (e, a)) q = rw (talk-goes part wp m t h e a q) (ih (step_of t.driver (shows part h (cycle e wp a))) (after part h (cycle e wp a)))

talk-plays : (part : ℕ) (wp : Bool) (m : ℕ) (t : Step) (h : Chip) → Plays part wp m t h
unfolding talk
talk-plays part wp zero t h = refl
talk-plays part wp (suc m) t h = plays-on part wp m (talk-plays part wp m) t h t.next refl

module _ (j : Job) (image : List ℕ) (R : AcceptedJob j image) where
  abbrev r : Row
  r = row_of j.part

  abbrev value : ℕ → ℕ
  value x = value_of r.width x

  abbrev at : World → ℕ → ℕ
  at w i = get_or w.cells i 0

  -- ---- one operation, from a world at rest, where the value shown then is the wanted one
  operation-leaves : (command a x : ℕ) → command ≤ 1 → start_refusal j.part command a x j.p ≡ 0 → ignored r j.wp command a ≡ false → (w : World) → Ready j image R w
      → shown_after r command a x w.cells ≡ value_wanted r command x → chip_of (play_of j.part w (operated j command a x)) ≡ chip (completed r command a x w.cells) (rested w.held.device)
  operation-leaves command a x few accepted heeded w g same =
      let n = write_count command + polls_of r command j.p + 1 in
      let first = step_of (start_of j.part command a x j.p).driver 0 in
      let t = succeeds j.part command a x j.p j.wp w.cells w.held.device accepted g.whole (rw g.rest fresh-idle) heeded same n 0 (le_refl n) in
      world-plays j.part w (operated j command a x)
      ∙ (ap (play j.part (chip_of w)) (cycles-are command few) ∙ (rw t at (talk-plays j.part j.wp n first (chip_of w))))
    where
      cycles-are : (command : ℕ) → command ≤ 1 → cycles_in (operated j command a x)
          ≡ write_cycles j.wp (writes_of r command a x)
          ++ (replicate (polls_of r command j.p) (cycle j.p j.wp (Read (address_of command a))) ++ (cycle confirm_after j.wp (Read (address_of command a)) ∷ []))
      cycles-are zero le = rw (← R.row) (operated-cycles j 0 a x le)
      cycles-are (suc zero) le = rw (← R.row) (operated-cycles j 1 a x le)
      cycles-are (suc (suc c)) le = absurd (omega arith)

  -- the world after a list of cycles
  abbrev after_all : World → List Sent → World
  after_all w L = play_of j.part w L

  -- ---- one cell
  -- from w on, the cycles L change no cell but that at address a, start the operations os, and leave the chip at rest
  record Put (w : World) (a : ℕ) (L : List Sent) (os : List Operation) : Type 0 where
    ready : Ready j image R (after_all w L)
    others : (i : ℕ) → (i ≡ a → ⊥) → at (after_all w L) i ≡ at w i
    starts : Starts j.part w L os

  -- what may be asked for at address a: a program of x, and a sector erase
  record May (a x : ℕ) : Type 0 where
    room : a < r.cells
    program : start_refusal j.part 0 a x j.p ≡ 0
    erase : start_refusal j.part 1 a 0 j.p ≡ 0
    heeds-program : ignored r j.wp 0 a ≡ false
    heeds-erase : ignored r j.wp 1 a ≡ false

  programs-cell : (a x : ℕ) (w : World) → May a x → Ready j image R w → bit_and (value (at w a)) x ≡ x → Put w a (operated j 0 a x) (programming j a x)
  programs-cell a x w m g clears =
      let shown = program-shows j.part 0 a x j.p j.wp w.cells w.held.device m.program g.whole (rw g.rest fresh-idle) m.heeds-program refl in
      let c = operation-leaves 0 a x (omega arith) m.program m.heeds-program w g (shown ∙ clears) in
      let done : (play_of j.part w (operated j 0 a x)).cells ≡ completed r 0 a x w.cells = ap (λ (h : Chip). h.cells) c in
      let e = done ∙ program-leaves r a x w.cells (omega (arith, m.room, g.whole)) in
      record {
        ready = record { rest = ap (λ (h : Chip). h.device) c ∙ ap rested g.rest; whole = ap length e ∙ (length-set w.cells a (bit_and (at w a) x) ∙ g.whole) };
        others = λ i n. ap (λ (l : List ℕ). get_or l i 0) e ∙ get_or-set_other w.cells a i (bit_and (at w a) x) 0 n;
        starts = starts-operated j 0 a x (omega arith) R.row w m.program g.whole (rw g.rest fresh-idle) m.heeds-program c;
      }

  -- ---- a stretch of cells
  -- from w on, the cycles L change no cell from address a + n on, start the operations os, and leave the chip at rest
  pub record Stretch (w : World) (a n : ℕ) (L : List Sent) (os : List Operation) : Type 0 where
    pub ready : Ready j image R (after_all w L)
    pub above : (i : ℕ) → a + n ≤ i → at (after_all w L) i ≡ at w i
    pub starts : Starts j.part w L os

  stretch-none : (w : World) (a n : ℕ) → Ready j image R w → Stretch w a n [] []
  stretch-none w a n g = record { ready = g; above = λ i h. refl; starts = starts_none j.part w }

  -- two in a row
  stretch-both : (w : World) (a n b m : ℕ) (L M : List Sent) (os ps : List Operation) → a + n ≤ b → Stretch w a n L os → Stretch (after_all w L) b m M ps
      → (c k : ℕ) → b + m ≤ c + k → Stretch w c k (L ++ M) (os ++ ps)
  stretch-both w a n b m L M os ps le h k c l room =
      let e = play-append j.part w L M in
      record {
        ready = rw e k.ready;
        above = λ i q. rw e (k.above i (omega arith) ∙ h.above i (omega arith));
        starts = starts-append j.part w L M os ps h.starts k.starts;
      }

  stretch-put : (w : World) (a : ℕ) (L : List Sent) (os : List Operation) → Put w a L os → Stretch w a 1 L os
  stretch-put w a L os p = record { ready = p.ready; above = λ i q. p.others i (λ e. omega arith); starts = p.starts }

  stretch-more : (w : World) (a x : ℕ) (v : List ℕ) (L M : List Sent) (os ps : List Operation)
      → Put w a L os → Stretch (after_all w L) (a + 1) (length v) M ps → Stretch w a (length (x ∷ v)) (L ++ M) (os ++ ps)
  stretch-more w a x v L M os ps p h = stretch-both w a 1 (a + 1) (length v) L M os ps (le_refl (a + 1)) (stretch-put w a L os p) h a (suc (length v)) (omega arith)

  -- what may be asked for along v
  abbrev Along : ℕ → List ℕ → Type 0
  Along a v = (i : ℕ) → i < length v → May (a + i) (get_or v i 0)

  along-here : (a x : ℕ) (v : List ℕ) → Along a (x ∷ v) → May a x
  along-here a x v m = let z : a + 0 ≡ a = omega arith in rw z at (m 0 (omega arith))

  along-more : (a x : ℕ) (v : List ℕ) → Along a (x ∷ v) → Along (a + 1) v
  along-more a x v m = λ i h. let z : a + suc i ≡ a + 1 + i = omega arith in rw z at (m (suc i) (omega arith))

  -- a test of each cell of a stretch: the cell's content against the value that it is to hold
  abbrev Each : (ℕ → ℕ → Type 0) → World → ℕ → List ℕ → Type 0
  Each P w a v = (i : ℕ) → i < length v → P (at w (a + i)) (get_or v i 0)

  each-here : (P : ℕ → ℕ → Type 0) (w : World) (a x : ℕ) (v : List ℕ) → Each P w a (x ∷ v) → P (at w a) x
  each-here P w a x v e = let z : a + 0 ≡ a = omega arith in rw z at (e 0 (omega arith))

  each_more : (P : ℕ → ℕ → Type 0) (w : World) (a x : ℕ) (v : List ℕ) (L : List Sent) (os : List Operation)
      → Put w a L os → Each P w a (x ∷ v) → Each P (after_all w L) (a + 1) v
  each_more P w a x v L os p e = λ i h.
      let z : a + suc i ≡ a + 1 + i = omega arith in
      let o = p.others (a + 1 + i) (λ q. omega arith) in
      rw o (rw z at (e (suc i) (omega arith)))

  -- ---- an erased sector: every value that is not blank is programmed
  abbrev Blank : ℕ → ℕ → Type 0
  Blank o x = (value o ≡ blank_of r.width) × (bit_and (blank_of r.width) x ≡ x)

  filled : (a : ℕ) (v : List ℕ) (w : World) → Ready j image R w → Along a v → Each Blank w a v → Stretch w a (length v) (fills j a v) (filling j a v)
  unfolding fills filling
  filled a [] w g m b = stretch-none w a 0 g
  filled a (x ∷ v) w g m b =
      by (eqb x (blank_of j.row.width)) refl
      (λ L os p. stretch-more w a x v L (fills j (a + 1) v) os (filling j (a + 1) v) p
      (filled (a + 1) v (after_all w L) p.ready (along-more a x v m) (each_more Blank w a x v L os p b)))
    where
      f : (value (at w a) ≡ blank_of r.width) × (bit_and (blank_of r.width) x ≡ x)
      f = each-here Blank w a x v b

      by : (t : Bool) → eqb x (blank_of j.row.width) ≡ t
          → ((L : List Sent) (os : List Operation) → Put w a L os → Stretch w a (suc (length v)) (L ++ fills j (a + 1) v) (os ++ filling j (a + 1) v))
          → Stretch w a (suc (length v)) (pick t [] (operated j 0 a x) ++ fills j (a + 1) v) (pick t [] (programming j a x) ++ filling j (a + 1) v)
      by true t more = more [] [] (record { ready = g; others = λ i n. refl; starts = starts_none j.part w })
      by false t more = more (operated j 0 a x) (programming j a x) (programs-cell a x w (along-here a x v m) g (rw f.0 f.1))

  -- ---- an unerased sector: every cell is read again, and programmed where it differs
  abbrev Clear : ℕ → ℕ → Type 0
  Clear o x = bit_and (value o) x ≡ x

  -- a scan shows the value of its cell
  scan-true : (a : ℕ) (w : World) → Read-on j image R w a (after_all w (scan_read j a ∷ [])) → shows_cell j.part (chip_of w) (scan_read j a).cycle (Read a) ≡ true
  unfolding send_of after
  scan-true a w o = eq-eqb _ _ (o.reply ∙ (ap (λ (r : Row). value_of r.width (at w a)) R.row ∙ sym (ap (λ (l : List ℕ). value (get_or l a 0)) o.cells)))

  -- a read changes nothing
  read-put : (a : ℕ) (w : World) → a < r.cells → Ready j image R w → Put w a (scan_read j a ∷ []) []
  read-put a w t g =
      let o = reads_on j image R w a g t in
      record {
        ready = o.ready;
        others = λ i n. ap (λ (l : List ℕ). get_or l i 0) o.cells;
        starts = starts-read j.part w j a (scan-true a w o);
      }

  -- nor does one in front
  put-after : (a : ℕ) (w : World) (L : List Sent) (os : List Operation) → Read-on j image R w a (after_all w (scan_read j a ∷ []))
      → Put (after_all w (scan_read j a ∷ [])) a L os → Put w a (scan_read j a ∷ L) os
  put-after a w L os o p =
      record {
        ready = p.ready;
        others = λ i n. p.others i n ∙ ap (λ (l : List ℕ). get_or l i 0) o.cells;
        starts = starts-append j.part w (scan_read j a ∷ []) L [] os (starts-read j.part w j a (scan-true a w o)) p.starts;
      }

  abbrev SameAs : List ℕ → World → ℕ → ℕ → Type 0
  SameAs l w a n = (i : ℕ) → i < n → get_or l i 0 ≡ at w (a + i)

  looked : (a : ℕ) (l v : List ℕ) (w : World) → length l ≡ length v → SameAs l w a (length l) → Ready j image R w → Along a v → Each Clear w a v
      → Stretch w a (length v) (looks j a l v) (looking j a l v)
  unfolding looks looking
  looked a [] [] w n s g m b = stretch-none w a 0 g
  looked a [] (x ∷ v) w n s g m b = absurd (omega arith)
  looked a (o ∷ l) [] w n s g m b = absurd (omega arith)
  looked a (o ∷ l) (x ∷ v) w n s g m b =
      by (eqb (value_of j.row.width o) x) refl
      (λ L os p. stretch-more w a x v L (looks j (a + 1) l v) os (looking j (a + 1) l v) p
      (looked (a + 1) l v (after_all w L) (omega arith) (same_more L os p) p.ready (along-more a x v m) (each_more Clear w a x v L os p b)))
    where
      room : a < r.cells
      room = (along-here a x v m).room

      onward : Read-on j image R w a (after_all w (scan_read j a ∷ []))
      onward = reads_on j image R w a g room

      same_more : (L : List Sent) (os : List Operation) → Put w a L os → SameAs l (after_all w L) (a + 1) (length l)
      same_more L os p = λ i h.
          let z : a + suc i ≡ a + 1 + i = omega arith in
          (rw z at (s (suc i) (omega arith))) ∙ sym (p.others (a + 1 + i) (λ q. omega arith))

      by : (t : Bool) → eqb (value_of j.row.width o) x ≡ t
          → ((L : List Sent) (os : List Operation) → Put w a L os → Stretch w a (suc (length v)) (L ++ looks j (a + 1) l v) (os ++ looking j (a + 1) l v))
          → Stretch w a (suc (length v)) (scan_read j a ∷ (pick t [] (operated j 0 a x) ++ looks j (a + 1) l v)) (pick t [] (programming j a x) ++ looking j (a + 1) l v)
      by true t more = more (scan_read j a ∷ []) [] (read-put a w room g)
      by false t more =
          let c : bit_and (value (at (after_all w (scan_read j a ∷ [])) a)) x ≡ x = rw onward.cells (each-here Clear w a x v b) in
          more (scan_read j a ∷ operated j 0 a x) (programming j a x)
          (put-after a w (operated j 0 a x) (programming j a x) onward (programs-cell a x (after_all w (scan_read j a ∷ [])) (along-here a x v m) onward.ready c))

  -- ---- the scan changes nothing
  record Scanned (w : World) (L : List Sent) : Type 0 where
    ready : Ready j image R (after_all w L)
    cells : (after_all w L).cells ≡ w.cells
    starts : Starts j.part w L []

  scanned : (n a : ℕ) (w : World) → a + n ≤ r.cells → Ready j image R w → Scanned w (scans j a n)
  unfolding scans
  scanned zero a w t g = record { ready = g; cells = refl; starts = starts_none j.part w }
  scanned (suc n) a w t g =
      let o = reads_on j image R w a g (omega arith) in
      let k = scanned n (a + 1) (after_all w (scan_read j a ∷ [])) (omega arith) o.ready in
      record {
        ready = k.ready;
        cells = k.cells ∙ o.cells;
        starts = starts-append j.part w (scan_read j a ∷ []) (scans j (a + 1) n) [] [] (starts-read j.part w j a (scan-true a w o)) k.starts;
      }

  -- ---- the erase of a sector
  record Erased (w : World) (a : ℕ) (L : List Sent) (os : List Operation) : Type 0 where
    ready : Ready j image R (after_all w L)
    above : (i : ℕ) → a + j.size ≤ i → at (after_all w L) i ≡ at w i
    blank : (i : ℕ) → i < j.size → value (at (after_all w L) (a + i)) ≡ blank_of r.width
    starts : Starts j.part w L os

  erased : (a x : ℕ) (w : World) → May a x → a % j.size ≡ 0 → a + j.size ≤ r.cells → Ready j image R w → Erased w a (operated j 1 a 0) (operation_of r 1 a 0 ∷ [])
  erased a x w m aligned t g =
      let shown = erase-shows j.part 1 a 0 j.p j.wp w.cells w.held.device m.erase g.whole (rw g.rest fresh-idle) m.heeds-erase (λ e. absurd (omega arith)) in
      let c = operation-leaves 1 a 0 (omega arith) m.erase m.heeds-erase w g shown in
      let e : (play_of j.part w (operated j 1 a 0)).cells ≡ completed r 1 a 0 w.cells = ap (λ (h : Chip). h.cells) c in
      let z : a % sector_size r.width ≡ 0 = rw R.size at aligned in
      let s : a + sector_size r.width ≤ length w.cells = omega (arith, R.size, g.whole) in
      record {
        ready = record { rest = ap (λ (h : Chip). h.device) c ∙ ap rested g.rest; whole = ap length e ∙ (erase-length r a z w.cells s ∙ g.whole) };
        above = λ i h. ap (λ (l : List ℕ). get_or l i 0) e ∙ beyond (completed r 1 a 0 w.cells) w.cells (a + sector_size r.width) i (omega (arith, R.size)) (erase-drop r a z w.cells s);
        blank = λ i h. ap (λ (l : List ℕ). value (get_or l (a + i) 0)) e ∙ (ap value (erase-at r a z w.cells s i (omega (arith, R.size))) ∙ value-blank r.width);
        starts = starts-operated j 1 a 0 (omega arith) R.row w m.erase g.whole (rw g.rest fresh-idle) m.heeds-erase c;
      }
    where
      beyond : (l k : List ℕ) (n i : ℕ) → n ≤ i → drop n l ≡ drop n k → get_or l i 0 ≡ get_or k i 0
      beyond l k n i h q =
          let z : n + (i - n) ≡ i = omega arith in
          rw z at (sym (get_or-drop n l (i - n) 0) ∙ (ap (λ (m : List ℕ). get_or m (i - n) 0) q ∙ get_or-drop n k (i - n) 0))

  -- ---- one sector, that holds l and is to hold v
  module _ (a : ℕ) (l v : List ℕ) (aligned : a % j.size ≡ 0) (ln : length l ≡ j.size) (lv : length v ≡ j.size) (some : 0 < j.size)
      (fit : (i : ℕ) → i < length v → fits_in r.width (get_or v i 0) ≡ true) (m : Along a v) (room : a + j.size ≤ r.cells) where
    clear-cells : (w : World) → SameAs l w a j.size → decision_of r.width (map value l) v ≡ NoErase → Each Clear w a v
    clear-cells w s e = λ i h. rw (s i (omega arith)) at (cleared r.width l v i e (omega arith) h (fit i h))

    -- what is done after the scan
    decided : (t : Decision) (w : World) → decision_of r.width (map value l) v ≡ t → SameAs l w a j.size → Ready j image R w → Stretch w a (length v) (carries j a l v t) (carrying j a l v t)
    decided NoErase w e s g = looked a l v w (ln ∙ sym lv) (λ i h. s i (omega arith)) g m (clear-cells w s e)
    decided SectorErase w e s g =
        let L = operated j 1 a 0 in
        let o = operation_of r 1 a 0 ∷ [] in
        let q = erased a (get_or v 0 0) w (let z : a + 0 ≡ a = omega arith in rw z at (m 0 (omega arith))) aligned room g in
        let h = filled a v (after_all w L) q.ready m (λ i n. (q.blank i (omega arith), blank-and r.width (get_or v i 0) (fit i n))) in
        let e = play-append j.part w L (fills j a v) in
        record { ready = rw e h.ready; above = λ i n. rw e (h.above i n ∙ q.above i (omega arith)); starts = starts-append j.part w L (fills j a v) o (filling j a v) q.starts h.starts }

    sector-starts : (w : World) → SameAs l w a j.size → Ready j image R w → Stretch w a (length v) (sector_sent j a l v) (sectoring j a l v)
    unfolding sector_sent sectoring
    sector-starts w s g =
        let t = decided_on j l v in
        let L = scans j a j.size in
        let k = scanned j.size a w room g in
        let h = decided t (after_all w L) (rw R.row) (λ i n. s i n ∙ sym (ap (λ (l : List ℕ). get_or l (a + i) 0) k.cells)) k.ready in
        let e = play-append j.part w L (carries j a l v t) in
        record {
          ready = rw e h.ready;
          above = λ i n. rw e (h.above i n ∙ ap (λ (l : List ℕ). get_or l i 0) k.cells);
          starts = starts-append j.part w L (carries j a l v t) [] (carrying j a l v t) k.starts h.starts;
        }

  -- ---- n sectors
  abbrev Fit : List ℕ → Type 0
  Fit v = (i : ℕ) → i < length v → fits_in r.width (get_or v i 0) ≡ true

  sectors-start : (n a : ℕ) (l v : List ℕ) (w : World) → 0 < j.size → a % j.size ≡ 0 → n * j.size ≤ length l → length v ≡ n * j.size → a + length v ≤ r.cells
      → Fit v → Along a v → SameAs l w a (n * j.size) → Ready j image R w → Stretch w a (length v) (sectors_sent j a n l v) (sectoring_all j a n l v)
  unfolding sectors_sent sectoring_all
  sectors-start zero a l [] w some z ln lv room f m s g = stretch-none w a 0 g
  sectors-start zero a l (x ∷ v) w some z ln lv room f m s g = absurd (omega (arith, zero-mul j.size))
  sectors-start (suc n) a l v w some z ln lv room f m s g =
      let S = j.size in
      let q = suc-mul n S in
      let le : S ≤ length v = omega arith in
      let lt : length (take S v) ≡ S = length-take-le S v le in
      let ld : length (drop S v) ≡ length v - S = length-drop S v in
      let lk : length (take S l) ≡ S = length-take-le S l (omega arith) in
      let le' : length (drop S l) ≡ length l - S = length-drop S l in
      let L = sector_sent j a (take S l) (take S v) in
      let first = sector-starts a (take S l) (take S v) z lk lt some
      (λ i h. rw (get_or-take S v i 0 (omega arith)) (f i (omega arith)))
      (λ i h. rw (get_or-take S v i 0 (omega arith)) (m i (omega arith))) (omega arith) w
      (λ i h. get_or-take S l i 0 h ∙ s i (omega arith)) g in
      let next = sectors-start n (a + S) (drop S l) (drop S v) (after_all w L) some (add-mod_right a S ∙ z) (omega arith) (omega arith) (omega arith)
      (λ i h. rw (get_or-drop S v i 0) (f (S + i) (omega arith)))
      (λ i h. let y : a + S + i ≡ a + (S + i) = omega arith in rw (y, get_or-drop S v i 0) (m (S + i) (omega arith)))
      (λ i h. let y : a + S + i ≡ a + (S + i) = omega arith in get_or-drop S l i 0 ∙ (s (S + i) (omega arith) ∙ rw y (sym (first.above (a + (S + i)) (omega arith)))))
      first.ready in
      stretch-both w a (length (take S v)) (a + S) (length (drop S v)) L (sectors_sent j (a + S) n (drop S l) (drop S v))
      (sectoring j a (take S l) (take S v)) (sectoring_all j (a + S) n (drop S l) (drop S v)) (omega arith) first next a (length v) (omega arith)

  -- ---- the job: its cycles start its operations, and leave the chip at rest
  pub job-started : (cells : List ℕ) → length cells ≡ r.cells → 0 < j.size → Stretch (world cells none_sent) j.first (length image) (sent_of j image cells) (operations_of j image cells)
  job-started cells whole some =
      let e : j.count / j.size * j.size ≡ j.count = omega (arith, div-add-mod' j.count j.size, R.whole) in
      let c = R.count in
      sectors-start (j.count / j.size) j.first (drop j.first cells) image (world cells none_sent) some R.aligned
      (rw (length-drop j.first cells) (omega (arith, R.range))) (omega arith) (omega (arith, R.range))
      (λ i h. fit_at r.width image R.fits i h) may (λ i h. get_or-drop j.first cells i 0) (record { rest = refl; whole = whole })
    where
      may : Along j.first image
      may i h =
          let t : j.first + i < r.cells = omega (arith, R.range, R.count) in
          let u : j.first + i < j.first + j.count = omega (arith, R.count) in
          let l : j.first ≤ j.first + i = omega arith in
          record {
            room = t;
            program = program-starts j image R (j.first + i) i t h;
            erase = erase-starts j image R (j.first + i) t;
            heeds-program = R.heeded 0 (j.first + i) (omega arith) l u;
            heeds-erase = R.heeded 1 (j.first + i) (omega arith) l u;
          }
