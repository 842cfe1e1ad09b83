-- No list of bus cycles loads the image in less table time than the job: the trace law, and the least time of operations.
use Prim.Native.Nat.{ℕ, zero, suc, ◌+◌, ◌*◌, ◌/◌, ◌^◌, ◌≤◌, ◌<◌}
use mathlib.Core.Path.{◌≡◌, refl, sym, ap, ap₂, ◌∙◌}
use mathlib.Core.Bool.{Bool, true, false, not}
use mathlib.Core.Logic.{◌⊎◌}
use mathlib.Core.List.{List, [], ◌∷◌, ◌++◌, map, map-append}
use native.Mathlib.Nat.{div-add-mod', mul-div_cancel}
use native.Mathlib.Numerals.{add-one}
use native.Mathlib.Omega.{arith}
use borrow.Author.Tests.{eq-eqb, ne_eqb, eqb-true, eqb-false, ltb-false}
use lib.Dec.{eqb, ltb}
use lib.ListN.{length, get_or, set, take, drop}
use lib.Seq.{drop-drop}
use lib.Bits.{bit_and, and_le_r}
use Rattle.parts.specs.Pick.{pick}
use Rattle.parts.specs.Width.{value_of, blank_of, fits_in, sector_size}
use Rattle.parts.specs.Table.{row_of}
use Rattle.parts.specs.Time.{has_command, time_of}
use Rattle.parts.specs.Span.{sector_of}
use Rattle.parts.specs.declared.table.Row.{Row}
use Rattle.parts.proofs.Values.{value_same, value-blank, fits_lt}
use Rattle.parts.proofs.Every.{both, unless}
use Rattle.parts.proofs.Ranges.{sector-some}
use Rattle.device.specs.declared.state.Device.{Device}
use Rattle.device.specs.declared.state.Operation.{Operation}
use Rattle.device.specs.declared.cycle.Cycle.{Cycle}
use Rattle.device.specs.Device.{fresh_device, idle}
use Rattle.device.specs.Operation.{cells_of, finished, complete_on}
use Rattle.device.specs.Cycle.{Chip, chip}
use Rattle.device.specs.Trace.{play, started_in, uncut, complete_all, All}
use Rattle.device.specs.Recent.{later}
use Rattle.device.proofs.Leaves.{stored}
use Rattle.device.proofs.Idle.{fresh-idle}
use Rattle.device.proofs.Trace.{trace}
use Rattle.device.proofs.Started.{Startable, started-all}
use Rattle.driver.specs.Writes.{last_write}
use Rattle.job.specs.declared.loader.Job.{Job}
use Rattle.values.specs.Fit.{fit_all}
use Rattle.values.proofs.Places.{fit_at}
use Rattle.job.specs.Run.{world, none_sent, play_of}
use Rattle.job.specs.Sent.{sent_of}
use Rattle.job.specs.Formulas.{tally_of}
use Rattle.job.proofs.AcceptedJob.{AcceptedJob}
use Rattle.least.specs.Operations.{Op, Program, Erase, programmed, blanks, erased, operate, operate_all, Holds, cost_all}
use Rattle.least.specs.LeastTime.{differs, rising}
use Rattle.least.specs.Job.{programs, sector_ops, sectors_ops, job_ops, after_job}
use Rattle.least.proofs.Bound.{operate_all-length}
use Rattle.least.proofs.Theorem.{job-best, job-holds, job-elsewhere}
use Rattle.invoice.specs.Started.{cycles_in, many, table_time}
use Rattle.invoice.proofs.Listed.{programming, filling, looking, carrying, sectoring, sectoring_all, operations_of}
use Rattle.invoice.proofs.Apiece.{Counts, apiece-counts}
use Rattle.invoice.proofs.Starts.{Starts, world-plays}
use Rattle.invoice.proofs.Bits.{erases_if, decision-is}
use Rattle.invoice.proofs.Image.{job-started}

-- ---- the chip's programs and sector erases are operations of the least time
-- S is the sector's size
abbrev op_of : ℕ → Operation → Op
op_of S o = pick (eqb o.kind 0) (Program o.address o.«data») (Erase (o.address / S))

module _ (r : Row) where
  abbrev w : ℕ
  w = r.width

  abbrev S : ℕ
  S = sector_size r.width

  -- a program
  program-is : (o : Operation) (cells : List ℕ) → Startable r o → o.kind ≡ 0 → length cells ≡ r.cells
      → complete_on r o cells ≡ set cells o.address (programmed w (get_or cells o.address 0) o.«data»)
  unfolding complete_on cells_of
  program-is o cells s k whole =
      let old = get_or cells o.address 0 in
      let d = o.«data» in
      let fit = fits_lt w d s.fits in
      let low : bit_and old d < 2 ^ w = omega (arith, and_le_r old d) in
      let f : finished r o old ≡ programmed w old d = rw k (sym (value_same w (bit_and old d) low)) in
      sym (stored (finished r o) r o cells k (rw k (omega (arith, s.there)))) ∙ ap (set cells o.address) f

  -- a sector erase
  erase-is : (o : Operation) (cells : List ℕ) → o.kind ≡ 1 → complete_on r o cells ≡ erased w (o.address / S * S) S cells
  unfolding complete_on cells_of sector_of erased
  erase-is o cells k = rw (k, drop-drop S (o.address / S * S) cells)

  op-program : (o : Operation) → o.kind ≡ 0 → op_of S o ≡ Program o.address o.«data»
  op-program o e = rw e

  op-erase : (o : Operation) → o.kind ≡ 1 → op_of S o ≡ Erase (o.address / S)
  op-erase o e = rw e

  one-is : (o : Operation) (cells : List ℕ) → Startable r o → (k : ℕ) → o.kind ≡ k → k ≤ 1 → length cells ≡ r.cells
      → complete_on r o cells ≡ operate w S (op_of S o) cells
  one-is o cells s zero e le whole = program-is o cells s e whole ∙ ap (λ (p : Op). operate w S p cells) (sym (op-program o e))
  one-is o cells s (suc zero) e le whole = erase-is o cells e ∙ ap (λ (p : Op). operate w S p cells) (sym (op-erase o e))
  one-is o cells s (suc (suc k)) e le whole = absurd (omega arith)

  cost-is : (o : Operation) (k : ℕ) → o.kind ≡ k → k ≤ 1 → cost_all (time_of r 0) (time_of r 1) (op_of S o ∷ []) ≡ time_of r o.kind + 0
  cost-is o zero e le = rw e
  cost-is o (suc zero) e le = rw e
  cost-is o (suc (suc k)) e le = absurd (omega arith)

  -- neither a block nor a chip erase
  few-kinds : (o : Operation) (os : List Operation) → Startable r o → many 2 (o ∷ os) ≡ 0 → many 3 (o ∷ os) ≡ 0 → o.kind ≤ 1
  unfolding has_command
  few-kinds o os s b c =
      let m = ltb-false 3 o.kind (unless (ltb 3 o.kind) _ s.command).0 in
      omega (arith, m, other 2 (omega arith), other 3 (omega arith))
    where
      other : (k : ℕ) → ◌≡◌ {A = ℕ} (pick (eqb o.kind k) 1 0) 0 → o.kind ≡ k → ⊥
      other k z e = absurd (omega (arith, rw (eq-eqb o.kind k e) at z))

  -- one after the other, and their times
  all-is : (os : List Operation) → All (Startable r) os → many 2 os ≡ 0 → many 3 os ≡ 0 → (cells : List ℕ) → length cells ≡ r.cells
      → (complete_all r os cells ≡ operate_all w S (map (op_of S) os) cells) × (cost_all (time_of r 0) (time_of r 1) (map (op_of S) os) ≡ table_time r os)
  all-is [] a b c cells whole = (refl, refl)
  all-is (o ∷ os) a b c cells whole =
      let k = few-kinds o os a.0 b c in
      let e = one-is o cells a.0 o.kind refl k whole in
      let l : length (complete_on r o cells) ≡ r.cells = ap length e ∙ (operate_all-length w S (op_of S o ∷ []) cells ∙ whole) in
      let i = all-is os a.1 (omega arith) (omega arith) (complete_on r o cells) l in
      (i.0 ∙ ap (operate_all w S (map (op_of S) os)) e, omega (arith, cost-is o o.kind refl k, i.1))

-- how many of each kind make up the table times
times-are : (r : Row) (os : List Operation) → All (Startable r) os → many 2 os ≡ 0 → many 3 os ≡ 0 → table_time r os ≡ many 1 os * time_of r 1 + many 0 os * time_of r 0
times-are r [] a b c = omega arith
times-are r (o ∷ os) a b c =
    by o.kind (few-kinds r o os a.0 b c) (times-are r os a.1 (omega arith) (omega arith))
  where
    by : (k : ℕ) → k ≤ 1 → table_time r os ≡ many 1 os * time_of r 1 + many 0 os * time_of r 0
        → time_of r k + table_time r os ≡ (pick (eqb k 1) 1 0 + many 1 os) * time_of r 1 + (pick (eqb k 0) 1 0 + many 0 os) * time_of r 0
    by zero le i = omega (arith, i)
    by (suc zero) le i = omega (arith, i)
    by (suc (suc k)) le i = absurd (omega arith)

-- ---- the job's operations are the job's of the least time
-- values that fit, in part
pub fit-take : (w n : ℕ) (v : List ℕ) → fit_all w v ≡ true → fit_all w (take n v) ≡ true
unfolding fit_all
fit-take w zero v f = refl
fit-take w (suc n) [] f = refl
fit-take w (suc n) (x ∷ v) f = let b = both (fits_in w x) (fit_all w v) f in rw b.0 (fit-take w n v b.1)

pub fit-drop : (w n : ℕ) (v : List ℕ) → fit_all w v ≡ true → fit_all w (drop n v) ≡ true
unfolding fit_all
fit-drop w zero v f = f
fit-drop w (suc n) [] f = refl
fit-drop w (suc n) (x ∷ v) f = fit-drop w n v (both (fits_in w x) (fit_all w v) f).1

module _ (j : Job) where
  abbrev W : ℕ
  W = j.row.width

  abbrev Z : ℕ
  Z = j.size

  -- a program, or none
  picks : (b c : Bool) (a x : ℕ) → c ≡ not b → map (op_of Z) (pick b [] (programming j a x)) ≡ pick c (Program a x ∷ []) []
  unfolding last_write
  picks true c a x e = rw e
  picks false c a x e = rw e

  unlike : (o x : ℕ) → fits_in W x ≡ true → differs W o x ≡ not (eqb (value_of W o) x)
  unlike o x f = ap (λ (y : ℕ). not (eqb (value_of W o) y)) (value_same W x (fits_lt W x f))

  blank-test : (x : ℕ) → fits_in W x ≡ true → differs W (blank_of W) x ≡ not (eqb x (blank_of W))
  blank-test x f = unlike (blank_of W) x f ∙ (ap (λ (y : ℕ). not (eqb y x)) (value-blank W) ∙ ap not (swap x (blank_of W)))
    where
      swap : (x y : ℕ) → eqb y x ≡ eqb x y
      swap x y = by (eqb x y) refl
        where
          by : (b : Bool) → eqb x y ≡ b → eqb y x ≡ b
          by true e = eq-eqb y x (sym (eqb-true x y e))
          by false e = ne_eqb y x (λ q. eqb-false x y e (sym q))

  fills-are : (a : ℕ) (v : List ℕ) → fit_all W v ≡ true → map (op_of Z) (filling j a v) ≡ programs W a (blanks W v) v
  unfolding filling fit_all
  fills-are a [] f = refl
  fills-are a (x ∷ v) f =
      let b = both (fits_in W x) (fit_all W v) f in
      map-append (op_of Z) (pick (eqb x (blank_of W)) [] (programming j a x)) (filling j (a + 1) v)
      ∙ ap₂ {A = List Op} {B = List Op} {C = List Op} (λ p q. p ++ q) (picks (eqb x (blank_of W)) (differs W (blank_of W) x) a x (blank-test x b.0))
      (fills-are (a + 1) v b.1 ∙ ap (λ (n : ℕ). programs W n (blanks W v) v) (add-one a))

  looks-are : (a : ℕ) (l v : List ℕ) → fit_all W v ≡ true → map (op_of Z) (looking j a l v) ≡ programs W a l v
  unfolding looking fit_all
  looks-are a [] v f = refl
  looks-are a (o ∷ l) [] f = refl
  looks-are a (o ∷ l) (x ∷ v) f =
      let b = both (fits_in W x) (fit_all W v) f in
      map-append (op_of Z) (pick (eqb (value_of W o) x) [] (programming j a x)) (looking j (a + 1) l v)
      ∙ ap₂ {A = List Op} {B = List Op} {C = List Op} (λ p q. p ++ q) (picks (eqb (value_of W o) x) (differs W o x) a x (unlike o x b.0))
      (looks-are (a + 1) l v b.1 ∙ ap (λ (n : ℕ). programs W n l v) (add-one a))

  module _ (some : 0 < j.size) where
    sector-is : (s : ℕ) (l v : List ℕ) → fit_all W v ≡ true → map (op_of Z) (sectoring j (s * Z) l v) ≡ sector_ops W Z s l v
    unfolding sectoring sector_ops last_write
    sector-is s l v f = rw (decision-is W l v f) (by (ltb 0 (rising W l v)))
      where
        by : (b : Bool) → map (op_of Z) (carrying j (s * Z) l v (erases_if b))
            ≡ pick b (Erase s ∷ programs W (s * Z) (blanks W v) v) (programs W (s * Z) l v)
        by true = ap₂ {A = ℕ} {B = List Op} {C = List Op} (λ n ops. Erase n ∷ ops) (mul-div_cancel s some) (fills-are (s * Z) v f)
        by false = looks-are (s * Z) l v f

    sectors-are : (n s : ℕ) (l v : List ℕ) → fit_all W v ≡ true → map (op_of Z) (sectoring_all j (s * Z) n l v) ≡ sectors_ops W Z s n l v
    unfolding sectoring_all
    sectors-are zero s l v f = refl
    sectors-are (suc n) s l v f =
        let e : s * Z + Z ≡ suc s * Z = omega arith in
        map-append (op_of Z) (sectoring j (s * Z) (take Z l) (take Z v)) (sectoring_all j (s * Z + Z) n (drop Z l) (drop Z v))
        ∙ ap₂ {A = List Op} {B = List Op} {C = List Op} (λ p q. p ++ q) (sector-is s (take Z l) (take Z v) (fit-take W Z v f))
        (ap (λ (a : ℕ). map (op_of Z) (sectoring_all j a n (drop Z l) (drop Z v))) e ∙ sectors-are n (suc s) (drop Z l) (drop Z v) (fit-drop W Z v f))

-- ---- the theorem
module _ (j : Job) (image : List ℕ) (R : AcceptedJob j image) (cells : List ℕ) (full : length cells ≡ (row_of j.part).cells) where
  abbrev r : Row
  r = row_of j.part

  abbrev size : ℕ
  size = sector_size r.width

  -- the range in sectors
  sectors-first : j.first / size * size ≡ j.first
  sectors-first = omega (arith, div-add-mod' j.first size, rw R.size at R.aligned)

  sectors-count : j.count / size * size ≡ length image
  sectors-count = omega (arith, div-add-mod' j.count size, rw R.size at R.whole, R.count)

  listed : map (op_of size) (operations_of j image cells) ≡ job_ops r.width size (j.first / size) (j.count / size) cells image
  listed = by r.width size j.first (j.count / j.size) (j.count / size) (ap (λ (r : Row). r.width) (sym R.row)) (sym R.size) sectors-first (rw R.size)
    where
      by : (w z a n m : ℕ) → w ≡ j.row.width → z ≡ j.size → j.first / size * z ≡ a → n ≡ m
          → map (op_of z) (sectoring_all j a n (drop a cells) image) ≡ sectors_ops w z (j.first / size) m (drop (j.first / size * z) cells) image
      by w z a n m ew ez ea en =
          rw (← ea, ew, ez, en)
          (sectors-are j (rw R.size (sector-some r.width)) m (j.first / size) (drop (j.first / size * j.size) cells) image (rw R.row R.fits))

  -- the job's operations, as the one list of cycles starts them
  pub held : Starts j.part (world cells none_sent) (sent_of j image cells) (operations_of j image cells)
  held = (job-started j image R cells full (rw R.size (sector-some r.width))).starts

  -- its erases and programs are these
  pub held-counts : Counts (tally_of (sent_of j image cells)) (operations_of j image cells)
  held-counts = rw held.begun at (apiece-counts j.part (world cells none_sent) (sent_of j image cells) held.apiece)

  startable : All (Startable r) (operations_of j image cells)
  startable = rw held.begun at (started-all j.part (cycles_in (sent_of j image cells)) (chip cells fresh_device))

  -- the cells that they leave are least's
  pub cells_left : (play_of j.part (world cells none_sent) (sent_of j image cells)).cells ≡ complete_all r (operations_of j image cells) cells
  cells_left =
      let h = job-started j image R cells full (rw R.size (sector-some r.width)) in
      let e = world-plays j.part (world cells none_sent) (sent_of j image cells) in
      let rest : idle (later (play j.part (chip cells fresh_device) (cycles_in (sent_of j image cells))).device) ≡ true
      = ap (λ (h : Chip). idle (later h.device)) (sym e) ∙ (ap (λ (d : Device). idle (later d)) h.ready.rest ∙ fresh-idle) in
      ap (λ (h : Chip). h.cells) e ∙ (trace j.part (cycles_in (sent_of j image cells)) (chip cells fresh_device) held.whole fresh-idle rest
      ∙ ap (λ (os : List Operation). complete_all r os cells) held.begun)

  room : (j.first / size + j.count / size) * size ≤ length cells
  room = omega (arith, sectors-first, sectors-count, R.range, R.count)

  whole : length image ≡ j.count / size * size
  whole = sym sectors-count

  after_is : complete_all r (operations_of j image cells) cells ≡ after_job r.width size (j.first / size) (j.count / size) cells image
  after_is = (all-is r (operations_of j image cells) startable held-counts.blocks held-counts.chips cells full).0 ∙ ap (λ (ops : List Op). operate_all r.width size ops cells) listed

  -- the range holds the image
  pub image-left : (i : ℕ) → i < length image → value_of r.width (get_or (complete_all r (operations_of j image cells) cells) (j.first + i) 0) ≡ get_or image i 0
  image-left i h =
      (rw (← after_is, sectors-first) at (job-holds r.width size (j.first / size) (j.count / size) cells image room whole i (omega (arith, sectors-count))))
      ∙ value_same r.width (get_or image i 0) (fits_lt r.width (get_or image i 0) (fit_at r.width image R.fits i h))

  -- every other cell is the word that it was
  pub others-left : (i : ℕ) → (i < j.first) ⊎ (j.first + length image ≤ i) → get_or (complete_all r (operations_of j image cells) cells) i 0 ≡ get_or cells i 0
  others-left i h =
      let e : (j.first / size + j.count / size) * size ≡ j.first + length image = omega (arith, sectors-first, sectors-count) in
      (rw (← after_is, sectors-first, e) at ((job-elsewhere r.width size (j.first / size) (j.count / size) cells image room whole).1 i)) h

  -- the table times of the operations that the job starts are those of its erases and programs
  pub job-times : table_time r (operations_of j image cells) ≡ (tally_of (sent_of j image cells)).erases * time_of r 1 + (tally_of (sent_of j image cells)).programs * time_of r 0
  job-times = rw (held-counts.erases, held-counts.programs) (times-are r (operations_of j image cells) startable held-counts.blocks held-counts.chips)

  -- From the same cells and any idle device, a list of cycles without cut, that starts no block and no chip erase, ends idle or is so some time later, and
  -- leaves the image in the range, starts operations whose table times add up to at least those of the job's.
  pub no_less : (d : Device) (cs : List Cycle)
      → idle d ≡ true → uncut cs ≡ true
      → many 2 (started_in j.part (chip cells d) cs) ≡ 0 → many 3 (started_in j.part (chip cells d) cs) ≡ 0
      → idle (later (play j.part (chip cells d) cs).device) ≡ true
      → ((i : ℕ) → i < length image → value_of r.width (get_or (play j.part (chip cells d) cs).cells (j.first + i) 0) ≡ get_or image i 0)
      → table_time r (operations_of j image cells) ≤ table_time r (started_in j.part (chip cells d) cs)
  no_less d cs rests whole blocks chips ends holds =
      let os = started_in j.part (chip cells d) cs in
      let t = all-is r os (started-all j.part cs (chip cells d)) blocks chips cells full in
      let k = all-is r (operations_of j image cells) startable held-counts.blocks held-counts.chips cells full in
      let p = trace j.part cs (chip cells d) whole rests ends in
      let same = there (play j.part (chip cells d) cs).cells (operate_all r.width size (map (op_of size) os) cells) (p ∙ t.0) holds in
      let best = job-best r.width size (time_of r 0) (time_of r 1) (j.first / size) (j.count / size) cells image (map (op_of size) os) room same in
      omega (arith, best, t.1, k.1, ap (cost_all (time_of r 0) (time_of r 1)) listed)
    where
      there : (c k : List ℕ) → c ≡ k
          → ((i : ℕ) → i < length image → value_of r.width (get_or c (j.first + i) 0) ≡ get_or image i 0) → Holds r.width size (j.first / size) (j.count / size) k image
      there c k e h = λ i l.
          let n : i < length image = omega (arith, sectors-count) in
          rw (sectors-first, ← e) (h i n ∙ sym (value_same r.width (get_or image i 0) (fits_lt r.width (get_or image i 0) (fit_at r.width image R.fits i n))))
