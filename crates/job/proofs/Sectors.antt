-- The loader's cycles, sector by sector, are those of the one list.
use Prim.Native.Nat.{ℕ, zero, suc, ◌+◌, ◌-◌, ◌*◌, ◌%◌, ◌≤◌, ◌<◌}
use mathlib.Core.Path.{◌≡◌, refl, sym, ap, ◌∙◌}
use mathlib.Core.Bool.{Bool, true, false}
use mathlib.Core.List.{List, [], ◌∷◌, ◌++◌, map, append_assoc}
use native.Mathlib.Nat.{le_refl, add-mod, add-mod_right, zero-mod, zero-mul, suc-mul}
use native.Mathlib.Numerals.{add-one}
use native.Mathlib.Omega.{arith}
use borrow.Author.Tests.{lt-ltb, le-ltb, eq-eqb, ne_eqb, eqb-true, eqb-false}
use lib.Dec.{eqb}
use lib.ListN.{length, get_or, set, take, drop, length-set, length-drop}
use lib.Seq.{take-suc, take-suc-set, get_or-take, get_or-drop, get_or-set_other, drop-set-lt, drop-cons, drop-drop}
use lib.Bits.{bit_and}
use Rattle.parts.specs.Pick.{pick}
use Rattle.parts.specs.Width.{value_of, blank_of, fits_in, sector_size}
use Rattle.parts.proofs.Values.{value-value, value-blank, blank-and}
use Rattle.parts.specs.Table.{row_of}
use Rattle.parts.specs.declared.table.Row.{Row}
use Rattle.device.specs.declared.cycle.Action.TheVariants.{Read}
use Rattle.device.specs.declared.cycle.Cycle.{Cycle}
use Rattle.device.specs.Device.{fresh_core, fresh_device}
use Rattle.device.specs.Cycle.{cycle, Outcome, outcome, cycle_of}
use Rattle.device.proofs.Cases.{read-idle}
use Rattle.device.proofs.Idle.{fresh-core-idle, fresh-idle}
use Rattle.driver.specs.Talk.{completed}
use Rattle.driver.proofs.Theorems.{program-shows, erase-shows}
use Rattle.job.specs.declared.loader.Job.{Job}
use Rattle.job.specs.declared.loader.Stage.{Stage}
use Rattle.job.specs.declared.loader.Stage.TheVariants.{Scanning, Looking}
use Rattle.job.specs.declared.loader.Task.{Task}
use Rattle.job.specs.declared.loader.Task.TheVariants.{Erasing, Filling, Burning}
use Rattle.job.specs.declared.loader.Purpose.TheVariants.{Scan}
use Rattle.values.specs.declared.search.Decision.{Decision}
use Rattle.values.specs.declared.search.Decision.TheVariants.{NoErase, SectorErase}
use Rattle.values.specs.Search.{leading_of}
use Rattle.job.specs.Loader.{turned, loader, place_of, reads_cell, next_sector, look_of, begin_of, next_mark, fill_of, burn_of, scanned_of, carry_out, decide_of, afterwards, turn_of}
use Rattle.job.specs.Run.{Sent, World, send_of}
use Rattle.job.specs.Sent.{operated, scan_read, scans, fills, looks, carries, decided_on, sector_sent, sectors_sent}
use Rattle.job.proofs.InJob.{sector-in}
use Rattle.job.proofs.AcceptedJob.{AcceptedJob, program-starts, erase-starts}
use Rattle.job.proofs.Marks.{part_length}
use Rattle.values.proofs.Clears.{cleared}
use Rattle.values.proofs.Places.{fit_at}
use Rattle.job.proofs.Left.{program-leaves, erase-length, erase-drop, erase-at}
use Rattle.job.proofs.Operates.{operates}
use Rattle.job.proofs.Rest.{Rest, rest-none, rest-is, rest_more}

-- one more of a list, mapped
map-suc : (f : ℕ → ℕ) (l : List ℕ) (i : ℕ) → i < length l → map f (take (suc i) l) ≡ map f (take i l) ++ (f (get_or l i 0) ∷ [])
map-suc f l i h = ap (map f) (take-suc l i 0 h) ∙ maps (take i l)
  where
    maps : (k : List ℕ) → map f (k ++ (get_or l i 0 ∷ [])) ≡ map f k ++ (f (get_or l i 0) ∷ [])
    maps [] = refl
    maps (x ∷ k) = ap (λ (m : List ℕ). f x ∷ m) (maps k)

module _ (j : Job) (image : List ℕ) (R : AcceptedJob j image) where
  abbrev r : Row
  r = row_of j.part

  abbrev value : ℕ → ℕ
  value x = value_of j.row.width x

  -- a world at rest, its cells the part's
  pub record Ready (w : World) : Type 0 where
    pub rest : w.held.device ≡ fresh_device
    pub whole : length w.cells ≡ (row_of j.part).cells

  -- ---- a scan's read at rest
  abbrev reading : ℕ → Cycle
  reading a = cycle 0 j.wp (Read a)

  pub record Read-on (w : World) (a : ℕ) (w' : World) : Type 0 where
    pub ready : Ready w'
    pub cells : w'.cells ≡ w.cells
    pub reply : w'.held.reply ≡ value (get_or w.cells a 0)

  pub reads_on : (w : World) (a : ℕ) → Ready w → a < r.cells → Read-on w a (send_of j.part w Scan (reading a))
  unfolding send_of
  reads_on w a g t =
      let o : cycle_of j.part w.cells w.held.device (reading a) ≡ outcome w.cells (value_of r.width (get_or w.cells a 0)) fresh_device =
      rw g.rest (read-idle j.part w.cells R.known g.whole a t fresh_core 0 j.wp fresh-core-idle) in
      record {
        ready = record { rest = ap (λ (o : Outcome). o.reply.device) o; whole = ap (λ (o : Outcome). length o.cells) o ∙ g.whole };
        cells = ap (λ (o : Outcome). o.cells) o;
        reply = ap (λ (o : Outcome). o.reply.value) o ∙ ap (λ (r : Row). value_of r.width (get_or w.cells a 0)) (sym R.row);
      }

  -- ---- one sector, from the image's index base on
  module _ (base : ℕ) (inside : base + j.size ≤ j.count) where
    abbrev a : ℕ
    a = j.first + base

    there : (i : ℕ) → i < j.size → a + i < r.cells
    there i h = omega (arith, R.range)

    -- the values of the first i cells are seen
    abbrev Seen : ℕ → List ℕ → List ℕ → Type 0
    Seen i seen cells = (length seen ≡ 4096) × (take i seen ≡ map value (take i (drop a cells)))

    seen_more : (i : ℕ) (seen cells : List ℕ) (v : ℕ) → i < j.size → length cells ≡ r.cells → v ≡ value (get_or cells (a + i) 0) → j.size ≤ 4096
        → Seen i seen cells → Seen (i + 1) (set seen i v) cells
    seen_more i seen cells v h whole e most s =
        let k : i < length (drop a cells) = simp length-drop (omega (arith, there i h)) in
        let n : i < length seen = omega (arith, s.0) in
        (length-set seen i v ∙ s.0, rw (add-one i) (take-suc-set seen i v n ∙ rw (s.1, e, ← get_or-drop a cells i 0) (sym (map-suc value (drop a cells) i k))))

    scans-turn : (i : ℕ) (seen : List ℕ) (v : ℕ) → i < j.size → turn_of j image seen (loader Scanning base i) v ≡ turned (set seen i v) (scanned_of j image (set seen i v) base i)
    unfolding turn_of
    scans-turn i seen v h = rw (sector-in j (loader Scanning base i) inside h)

    -- a cell is read, and the stage's turn follows
    cell-step : (s : Stage) (i : ℕ) (seen : List ℕ) (w : World) (L : List Sent) → i < j.size → Ready w
        → ((w' : World) → Read-on w (a + i) w' → Rest j image (turn_of j image seen (loader s base i) w'.held.reply) w' L)
        → Rest j image (turned seen (reads_cell j s base i)) w (scan_read j (a + i) ∷ L)
    cell-step s i seen w L h g k =
        let q : place_of j base i ≡ a + i = omega arith in
        rw q (rest_more j image seen (loader s base i) Scan (reading (a + i)) w L (k (send_of j.part w Scan (reading (a + i))) (reads_on w (a + i) g (there i h))))

    -- the scan, then the decision
    abbrev Decides : List ℕ → List Sent → Type 0
    Decides cells L = (seen : List ℕ) (w : World) → Ready w → w.cells ≡ cells → Seen j.size seen cells → Rest j image (turned seen (decide_of j image seen base)) w L

    scanning : (m i : ℕ) (seen : List ℕ) (w : World) (L : List Sent) → i + suc m ≡ j.size → j.size ≤ 4096 → Ready w → Seen i seen w.cells → Decides w.cells L
        → Rest j image (turned seen (reads_cell j Scanning base i)) w (scans j (a + i) (suc m) ++ L)
    unfolding scans scanned_of
    scanning zero i seen w L e most g s h =
        let n : i + 1 ≡ j.size = omega arith in
        cell-step Scanning i seen w L (omega arith) g
        (λ w' o. let v = w'.held.reply in
        rw (scans-turn i seen v (omega arith), le-ltb (i + 1) j.size (omega arith))
        (h (set seen i v) w' o.ready o.cells (rw n at (seen_more i seen w.cells v (omega arith) g.whole o.reply most s))))
    scanning (suc m) i seen w L e most g s h =
        let n : a + i + 1 ≡ a + (i + 1) = omega arith in
        cell-step Scanning i seen w (scans j (a + i + 1) (suc m) ++ L) (omega arith) g
        (λ w' o. let v = w'.held.reply in
        rw (scans-turn i seen v (omega arith), lt-ltb (i + 1) j.size (omega arith), n)
        (scanning m (i + 1) (set seen i v) w' L (omega arith) most o.ready (rw o.cells (seen_more i seen w.cells v (omega arith) g.whole o.reply most s)) (rw o.cells h)))

    -- ---- what follows the sector
    abbrev Next : List ℕ → List Sent → Type 0
    Next D L = (seen : List ℕ) (w : World) → length seen ≡ 4096 → Ready w → drop (a + j.size) w.cells ≡ D → Rest j image (turned seen (next_sector j (base + j.size))) w L

    -- ---- a program of the image's value at i, where no bit has to rise
    abbrev image_at : ℕ → ℕ
    image_at i = get_or image (base + i) 0

    programs : (t : Task) (i : ℕ) (seen : List ℕ) (w : World) (L : List Sent) → i < j.size → Ready w → bit_and (value (get_or w.cells (a + i) 0)) (image_at i) ≡ image_at i
        → ((w' : World) → Ready w' → w'.cells ≡ set w.cells (a + i) (bit_and (get_or w.cells (a + i) 0) (image_at i)) → Rest j image (turned seen (afterwards j image t base i)) w' L)
        → Rest j image (turned seen (begin_of j t base i 0 (image_at i))) w (operated j 0 (a + i) (image_at i) ++ L)
    programs task i seen w L h g clears k =
        let q : a + i ≡ place_of j base i = omega arith in
        let at = place_of j base i in
        let t : at < r.cells = omega (arith, there i h) in
        let t' : at < length w.cells = omega (arith, there i h, g.whole) in
        let accepted = program-starts j image R at (base + i) t (omega (arith, R.count)) in
        let heeded = R.heeded 0 at (omega arith) (omega arith) (omega (arith, inside)) in
        let shown = program-shows j.part 0 at (image_at i) j.p j.wp w.cells w.held.device accepted g.whole (rw g.rest fresh-idle) heeded refl in
        let same : bit_and (value_of r.width (get_or w.cells at 0)) (image_at i) ≡ image_at i = rw (R.row, q) at clears in
        rw q
        (operates j image R.row task base i inside h seen 0 (image_at i) (omega arith) accepted heeded w g.rest g.whole (shown ∙ same) L
        (λ w' ec ed. let e = ec ∙ program-leaves r at (image_at i) w.cells t' in
        k w' (record { rest = ed; whole = ap length e ∙ (length-set w.cells at (bit_and (get_or w.cells at 0) (image_at i)) ∙ g.whole) })
        (e ∙ ap (λ (n : ℕ). set w.cells n (bit_and (get_or w.cells n 0) (image_at i))) (sym q))))

    -- what a program at i leaves of later cells, and beyond the sector
    later-cells : (i k : ℕ) (cells : List ℕ) (v : ℕ) → i < k → get_or (set cells (a + i) v) (a + k) 0 ≡ get_or cells (a + k) 0
    later-cells i k cells v h = get_or-set_other cells (a + i) (a + k) v 0 (λ e. omega arith)

    beyond : (i : ℕ) (cells : List ℕ) (v : ℕ) → i < j.size → drop (a + j.size) (set cells (a + i) v) ≡ drop (a + j.size) cells
    beyond i cells v h = drop-set-lt (a + j.size) cells (a + i) v (omega arith)

    -- the image's values from i on
    image-more : (m i : ℕ) → i + suc m ≡ j.size → take (suc m) (drop (base + i) image) ≡ image_at i ∷ take m (drop (base + (i + 1)) image)
    image-more m i e =
        let n : suc (base + i) ≡ base + (i + 1) = omega arith in
        rw (drop-cons image (base + i) 0 (omega (arith, R.count, inside))) (ap (λ (k : ℕ). image_at i ∷ take m (drop k image)) n)

    -- ---- an erased sector
    abbrev Blanked : ℕ → List ℕ → Type 0
    Blanked i cells = (k : ℕ) → i ≤ k → k < j.size → value (get_or cells (a + k) 0) ≡ blank_of j.row.width

    fits-at : (i : ℕ) → i < j.size → fits_in j.row.width (image_at i) ≡ true
    fits-at i h = rw R.row (fit_at r.width image R.fits (base + i) (omega (arith, R.count, inside)))

    blank-clears : (i : ℕ) → i < j.size → bit_and (blank_of j.row.width) (image_at i) ≡ image_at i
    blank-clears i h = blank-and j.row.width (image_at i) (fits-at i h)

    -- the next mark: past the end, past a blank value, or here
    mark-end : (i : ℕ) → i ≡ j.size → next_mark j image base i ≡ i
    unfolding leading_of
    mark-end i e = let z : j.size - i ≡ 0 = omega arith in rw z (omega arith)

    module _ (m i : ℕ) (e : i + suc m ≡ j.size) where
      left_is : take (j.size - i) (drop (base + i) image) ≡ image_at i ∷ take m (drop (base + (i + 1)) image)
      left_is = let z : j.size - i ≡ suc m = omega arith in rw z (image-more m i e)

      mark-blank : image_at i ≡ blank_of j.row.width → next_mark j image base i ≡ next_mark j image base (i + 1)
      unfolding leading_of
      mark-blank b =
          let z : j.size - (i + 1) ≡ m = omega arith in
          ap (λ (l : List ℕ). i + leading_of (blank_of j.row.width) l) left_is ∙ rw (eq-eqb (image_at i) (blank_of j.row.width) b, z) (omega arith)

      mark-here : (image_at i ≡ blank_of j.row.width → ⊥) → next_mark j image base i ≡ i
      unfolding leading_of
      mark-here b = ap (λ (l : List ℕ). i + leading_of (blank_of j.row.width) l) left_is ∙ rw (ne_eqb (image_at i) (blank_of j.row.width) b) (omega arith)

      fill-blank : image_at i ≡ blank_of j.row.width → fill_of j image base i ≡ fill_of j image base (i + 1)
      unfolding fill_of
      fill-blank b = rw (mark-blank b)

      fill_here : (image_at i ≡ blank_of j.row.width → ⊥) → fill_of j image base i ≡ begin_of j Filling base i 0 (image_at i)
      unfolding fill_of
      fill_here b = rw (mark-here b, lt-ltb i j.size (omega arith))

    fill_end : (i : ℕ) → i ≡ j.size → fill_of j image base i ≡ next_sector j (base + j.size)
    unfolding fill_of
    fill_end i e = rw (mark-end i e, le-ltb i j.size (omega arith))

    abbrev Fills : ℕ → ℕ → Type 0
    Fills m i = (seen : List ℕ) (w : World) (D : List ℕ) (L : List Sent) → i + m ≡ j.size → length seen ≡ 4096 → Ready w → Blanked i w.cells → drop (a + j.size) w.cells ≡ D → Next D L
        → Rest j image (turned seen (fill_of j image base i)) w (fills j (a + i) (take m (drop (base + i) image)) ++ L)

    fill_more : (m i : ℕ) → Fills m (i + 1) → Fills (suc m) i
    unfolding fills
    fill_more m i ih seen w D L e n g b d h = by (eqb (image_at i) (blank_of j.row.width)) refl
      where
        k : i < j.size
        k = omega arith

        rest : List Sent
        rest = fills j (a + (i + 1)) (take m (drop (base + (i + 1)) image))

        listed : fills j (a + i) (take (suc m) (drop (base + i) image)) ≡ pick (eqb (image_at i) (blank_of j.row.width)) [] (operated j 0 (a + i) (image_at i)) ++ rest
        listed = let z : a + i + 1 ≡ a + (i + 1) = omega arith in rw (image-more m i e, z)

        by : (t : Bool) → eqb (image_at i) (blank_of j.row.width) ≡ t → Rest j image (turned seen (fill_of j image base i)) w (fills j (a + i) (take (suc m) (drop (base + i) image)) ++ L)
        by true t = rw (fill-blank m i e (eqb-true _ _ t), listed, t) (ih seen w D L (omega arith) n g (λ q le lt. b q (omega arith) lt) d h)
        by false t =
            rw (fill_here m i e (eqb-false _ _ t), listed, t, append_assoc (operated j 0 (a + i) (image_at i)) rest L)
            (programs Filling i seen w (rest ++ L) k g (rw (b i (le_refl i) k) (blank-clears i k))
            (λ w' g' ec. ih seen w' D L (omega arith) n g'
            (λ q le lt. ap (λ (l : List ℕ). value (get_or l (a + q) 0)) ec ∙ (ap value (later-cells i q w.cells _ (omega arith)) ∙ b q (omega arith) lt))
            (ap (drop (a + j.size)) ec ∙ (beyond i w.cells _ k ∙ d)) h))

    filling : (m i : ℕ) → Fills m i
    unfolding fills
    filling zero i = λ seen w D L e n g b d h. rw (fill_end i (omega arith)) (h seen w n g d)
    filling (suc m) i = fill_more m i (filling m (i + 1))

    -- ---- an unerased sector
    abbrev Clears : ℕ → List ℕ → Type 0
    Clears i cells = (k : ℕ) → i ≤ k → k < j.size → bit_and (value (get_or cells (a + k) 0)) (image_at k) ≡ image_at k

    looks-turn : (i : ℕ) (seen : List ℕ) (v y : ℕ) → v ≡ y → i < j.size → turn_of j image seen (loader Looking base i) v ≡ turned seen (burn_of j image base i y)
    unfolding turn_of
    looks-turn i seen v y q h = rw (q, sector-in j (loader Looking base i) inside h)

    cells-more : (m i : ℕ) (cells : List ℕ) → i + suc m ≡ j.size → length cells ≡ r.cells → take (suc m) (drop (a + i) cells) ≡ get_or cells (a + i) 0 ∷ take m (drop (a + (i + 1)) cells)
    cells-more m i cells e whole =
        let n : suc (a + i) ≡ a + (i + 1) = omega arith in
        rw (drop-cons cells (a + i) 0 (omega (arith, there i (omega arith)))) (ap (λ (k : ℕ). get_or cells (a + i) 0 ∷ take m (drop k cells)) n)

    abbrev Looks : ℕ → ℕ → Type 0
    Looks m i = (seen : List ℕ) (w : World) (D : List ℕ) (L : List Sent) → i + m ≡ j.size → length seen ≡ 4096 → Ready w → Clears i w.cells → drop (a + j.size) w.cells ≡ D → Next D L
        → Rest j image (turned seen (look_of j base i)) w (looks j (a + i) (take m (drop (a + i) w.cells)) (take m (drop (base + i) image)) ++ L)

    look-more : (m i : ℕ) → Looks m (i + 1) → Looks (suc m) i
    unfolding looks look_of burn_of
    look-more m i ih seen w D L e n g b d h =
        rw (lt-ltb i j.size k, listed)
        (cell-step Looking i seen w _ k g (λ w' z. rw (looks-turn i seen w'.held.reply (value o) z.reply k) (by w' z (eqb (value o) x) refl)))
      where
        k : i < j.size
        k = omega arith

        o : ℕ
        o = get_or w.cells (a + i) 0

        x : ℕ
        x = image_at i

        rest : List Sent
        rest = looks j (a + (i + 1)) (take m (drop (a + (i + 1)) w.cells)) (take m (drop (base + (i + 1)) image))

        listed : looks j (a + i) (take (suc m) (drop (a + i) w.cells)) (take (suc m) (drop (base + i) image)) ≡ scan_read j (a + i) ∷ (pick (eqb (value o) x) [] (operated j 0 (a + i) x) ++ rest)
        listed = let z : a + i + 1 ≡ a + (i + 1) = omega arith in rw (image-more m i e, cells-more m i w.cells e g.whole, z)

        -- the cells from the next on, in a world that has the same
        ahead : (w' : World) → drop (a + (i + 1)) w'.cells ≡ drop (a + (i + 1)) w.cells
            → rest ++ L ≡ looks j (a + (i + 1)) (take m (drop (a + (i + 1)) w'.cells)) (take m (drop (base + (i + 1)) image)) ++ L
        ahead w' q = ap (λ (l : List ℕ). looks j (a + (i + 1)) (take m l) (take m (drop (base + (i + 1)) image)) ++ L) (sym q)

        by : (w' : World) → Read-on w (a + i) w' → (t : Bool) → eqb (value o) x ≡ t
            → Rest j image (turned seen (burn_of j image base i (value o))) w' ((pick (eqb (value o) x) [] (operated j 0 (a + i) x) ++ rest) ++ L)
        by w' z true t =
            rw (value-value j.row.width o, t, ahead w' (ap (drop (a + (i + 1))) z.cells))
            (ih seen w' D L (omega arith) n z.ready (λ q le lt. rw z.cells (b q (omega arith) lt)) (ap (drop (a + j.size)) z.cells ∙ d) h)
        by w' z false t =
            rw (value-value j.row.width o, t, append_assoc (operated j 0 (a + i) x) rest L)
            (programs Burning i seen w' (rest ++ L) k z.ready (rw z.cells (b i (le_refl i) k))
            (λ w'' g'' ec. let v = bit_and (get_or w'.cells (a + i) 0) x in
            let cs : w''.cells ≡ set w.cells (a + i) v = ec ∙ ap (λ (l : List ℕ). set l (a + i) v) z.cells in
            rest-is j image _ _ w'' _ _ refl (ahead w'' (ap (drop (a + (i + 1))) cs ∙ drop-set-lt (a + (i + 1)) w.cells (a + i) v (omega arith)))
            (ih seen w'' D L (omega arith) n g''
            (λ q le lt. rw (cs, later-cells i q w.cells v (omega arith)) (b q (omega arith) lt))
            (ap (drop (a + j.size)) cs ∙ (beyond i w.cells v k ∙ d)) h)))

    looking : (m i : ℕ) → Looks m i
    unfolding looks look_of
    looking zero i = λ seen w D L e n g b d h. rw (le-ltb i j.size (omega arith)) (h seen w n g d)
    looking (suc m) i = look-more m i (looking m (i + 1))

    -- ---- the decision
    -- the sector's image
    abbrev v : List ℕ
    v = take j.size (drop base image)

    -- the cells of the sector
    abbrev held : List ℕ → List ℕ
    held cells = take j.size (drop a cells)

    -- unerased, every cell only has to lose bits
    clear-all : (cells : List ℕ) → length cells ≡ r.cells → decided_on j (held cells) v ≡ NoErase → Clears 0 cells
    clear-all cells whole e = λ k le lt.
        let ln : length (held cells) ≡ j.size = part_length cells a j.size (omega (arith, R.range)) in
        let lm : length v ≡ j.size = part_length image base j.size (omega (arith, R.count)) in
        let o : get_or (held cells) k 0 ≡ get_or cells (a + k) 0 = get_or-take j.size (drop a cells) k 0 lt ∙ get_or-drop a cells k 0 in
        let x : get_or v k 0 ≡ image_at k = get_or-take j.size (drop base image) k 0 lt ∙ get_or-drop base image k 0 in
        rw (o, x) at (cleared j.row.width (held cells) v k e (rw ln lt) (rw lm lt) (rw x (fits-at k lt)))

    module _ (multiple : base % j.size ≡ 0) where
      aligned : a % sector_size r.width ≡ 0
      aligned = rw (← R.size) (add-mod j.first base j.size ∙ rw (R.aligned, multiple) (zero-mod j.size))

      -- an erase, then the sector is filled
      erases : (seen : List ℕ) (w : World) (D : List ℕ) (L : List Sent) → length seen ≡ 4096 → 0 < j.size → Ready w → drop (a + j.size) w.cells ≡ D → Next D L
          → Rest j image (turned seen (begin_of j Erasing base 0 1 0)) w (operated j 1 a 0 ++ (fills j a v ++ L))
      erases seen w D L n some g d h =
          let q : a ≡ place_of j base 0 = omega arith in
          let at = place_of j base 0 in
          let t : at < r.cells = omega (arith, there 0 some) in
          let accepted = erase-starts j image R at t in
          let heeded = R.heeded 1 at (omega arith) (omega arith) (omega (arith, inside)) in
          let shown = erase-shows j.part 1 at 0 j.p j.wp w.cells w.held.device accepted g.whole (rw g.rest fresh-idle) heeded (λ e. absurd (omega arith)) in
          let room : a + sector_size r.width ≤ length w.cells = omega (arith, R.size, R.range, g.whole) in
          let z : a + 0 ≡ a = omega arith in
          let y : base + 0 ≡ base = omega arith in
          rest-is j image _ _ w _ (operated j 1 at 0 ++ (fills j (a + 0) (take j.size (drop (base + 0) image)) ++ L)) refl (rw (z, y))
          (operates j image R.row Erasing base 0 inside some seen 1 0 (omega arith) accepted heeded w g.rest g.whole shown _
          (λ w' ec ed. let c : w'.cells ≡ completed r 1 a 0 w.cells = ec ∙ ap (λ (n : ℕ). completed r 1 n 0 w.cells) (sym q) in
          filling j.size 0 seen w' D L (omega arith) n
          (record { rest = ed; whole = ap length c ∙ (erase-length r a aligned w.cells room ∙ g.whole) })
          (λ k le lt. ap (λ (l : List ℕ). value (get_or l (a + k) 0)) c ∙ (ap value (erase-at r a aligned w.cells room k (omega (arith, R.size))) ∙ rw R.row (value-blank r.width)))
          (ap (drop (a + j.size)) c ∙ (rw R.size (erase-drop r a aligned w.cells room) ∙ d)) h))

      -- the decision, from the values seen: erase and fill, or look again
      deciding : (cells D : List ℕ) (L : List Sent) → 0 < j.size → drop (a + j.size) cells ≡ D → Next D L → Decides cells (carries j a (held cells) v (decided_on j (held cells) v) ++ L)
      unfolding decide_of
      deciding cells D L some d h seen w g c s = rw s.1 (by (decided_on j (held cells) v) refl)
        where
          d' : drop (a + j.size) w.cells ≡ D
          d' = ap (drop (a + j.size)) c ∙ d

          by : (t : Decision) → decided_on j (held cells) v ≡ t → Rest j image (turned seen (carry_out j base t)) w (carries j a (held cells) v t ++ L)
          by NoErase t =
              let z : a + 0 ≡ a = omega arith in
              let y : base + 0 ≡ base = omega arith in
              rest-is j image _ _ w _ _ refl (rw (← c) (sym (rw (z, y))))
              (looking j.size 0 seen w D L (omega arith) s.0 g (clear-all w.cells g.whole (rw (← c) at t)) d' h)
          by SectorErase t =
              rest-is j image _ _ w _ (operated j 1 a 0 ++ (fills j a v ++ L)) refl (append_assoc (operated j 1 a 0) (fills j a v) L) (erases seen w D L s.0 some g d' h)

      -- the sector
      pub sector : (seen : List ℕ) (w : World) (D : List ℕ) (L : List Sent) → length seen ≡ 4096 → 0 < j.size → j.size ≤ 4096 → Ready w → drop (a + j.size) w.cells ≡ D → Next D L
          → Rest j image (turned seen (next_sector j base)) w (sector_sent j a (held w.cells) v ++ L)
      unfolding next_sector sector_sent
      sector seen w D L n some most g d h =
          let l = held w.cells in
          let X = carries j a l v (decided_on j l v) in
          let z : a + 0 ≡ a = omega arith in
          let m : suc (j.size - 1) ≡ j.size = omega arith in
          rw (lt-ltb base j.count (omega arith))
          (rest-is j image _ _ w _ (scans j (a + 0) (suc (j.size - 1)) ++ (X ++ L)) refl (append_assoc (scans j a j.size) X L ∙ sym (rw (z, m)))
          (scanning (j.size - 1) 0 seen w (X ++ L) (omega arith) most g (n, refl) (deciding w.cells D L some d h)))

  -- ---- all sectors
  module _ (some : 0 < j.size) (most : j.size ≤ 4096) where
    pub sectors : (n base : ℕ) (seen : List ℕ) (w : World) → base + n * j.size ≡ j.count → base % j.size ≡ 0 → length seen ≡ 4096 → Ready w
        → Rest j image (turned seen (next_sector j base)) w (sectors_sent j (j.first + base) n (drop (j.first + base) w.cells) (drop base image))
    unfolding next_sector sectors_sent
    sectors zero base seen w e m l g = rw (le-ltb base j.count (omega (arith, zero-mul j.size))) (rest-none j image seen w)
    sectors (suc n) base seen w e m l g =
        let i : base + j.size ≤ j.count = omega (arith, suc-mul n j.size) in
        let x : base + j.size + n * j.size ≡ j.count = omega (arith, suc-mul n j.size) in
        let q : j.first + (base + j.size) ≡ j.first + base + j.size = omega arith in
        sector base i m seen w (drop (j.first + base + j.size) w.cells) _ l some most g refl
        (λ seen' w' l' g' d. rest-is j image _ _ w' _ _ refl
        (rw (drop-drop j.size (j.first + base) w.cells, drop-drop j.size base image, q, d))
        (sectors n (base + j.size) seen' w' x (add-mod_right base j.size ∙ m) l' g'))
