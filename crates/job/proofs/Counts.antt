-- The bill's formulas: what a list of cycles counts, by its parts, and what the job's one list counts. No chip in them.
use Prim.Native.Nat.{ℕ, zero, suc, zero-le, ◌+◌, ◌*◌, ◌/◌, ◌≤◌}
use mathlib.Core.Path.{◌≡◌, refl, sym, ap, ◌∙◌}
use mathlib.Core.Bool.{Bool, true, false}
use mathlib.Core.List.{List, [], ◌∷◌, ◌++◌}
use native.Mathlib.Nat.{add-zero, zero-add, add_assoc, zero-mul, mul-add, le_refl, mul_assoc}
use native.Mathlib.Nat.{mul-le-mul, mul-le-mul_left, mul-le-mul_right, le-mul_of_pos_right, div-add-mod', div-mul-le_self}
use native.Mathlib.Omega.{arith}
use borrow.Author.Tests.{leb-true}
use lib.Dec.{eqb, leb}
use lib.ListN.{length, take, drop, replicate, length-append, length-take, length-drop, length-replicate}
use Rattle.parts.specs.Pick.{pick}
use Rattle.parts.specs.Width.{value_of, blank_of, sector_size}
use Rattle.parts.specs.Table.{lines, no_line, row_from, row_of, part_refusal}
use Rattle.parts.specs.Time.{time_of}
use Rattle.parts.specs.declared.table.Line.{Line}
use Rattle.parts.proofs.Every.{split, both, at}
use Rattle.parts.proofs.Sound.{known, cells-most}
use Rattle.parts.proofs.Rounding.{least}
use Rattle.device.specs.declared.cycle.Action.{Action}
use Rattle.device.specs.Cycle.{cycle}
use Rattle.driver.specs.Writes.{writes_of}
use Rattle.job.specs.declared.loader.Job.{Job}
use Rattle.job.specs.declared.loader.Purpose.{Purpose}
use Rattle.job.specs.declared.loader.Purpose.TheVariants.{Scan, Lead, Begin, Poll, Confirm}
use Rattle.job.specs.declared.run.Tally.{Tally}
use Rattle.values.specs.declared.search.Decision.{Decision}
use Rattle.values.specs.declared.search.Decision.TheVariants.{NoErase, SectorErase}
use Rattle.job.specs.Run.{Sent, World, sent, tally, counted_of, begun_of, send_of, play_of}
use Rattle.job.specs.Sent.{operated, scan_read, scans, fills, looks, sector_sent, sectors_sent, sent_of, carries, decided_on}
use Rattle.job.specs.Formulas.{plus, no_tally, tally_of, N, operation_time, FollowsFormulas}
use Rattle.job.proofs.AcceptedJob.{AcceptedJob}

-- ---- sums of counts
-- nothing and t
none-plus : (t : Tally) → plus no_tally t ≡ t
none-plus t = simp zero-add

-- t and nothing
plus_none : (t : Tally) → plus t no_tally ≡ t
plus_none t = simp add-zero

-- three, however grouped
plus-plus : (t u v : Tally) → plus (plus t u) v ≡ plus t (plus u v)
plus-plus t u v = simp add_assoc

-- one cycle more is a sum
counted-plus : (t : Tally) (p : Purpose) (e : ℕ) → counted_of t p e ≡ plus t (counted_of no_tally p e)
counted-plus t Scan e = simp (add-zero, zero-add)
counted-plus t Lead e = simp (add-zero, zero-add)
counted-plus t (Begin c) e = begun (eqb c 0) refl
  where
    begun : (b : Bool) → eqb c 0 ≡ b → begun_of t c e ≡ plus t (begun_of no_tally c e)
    begun true q = rw q (simp (add-zero, zero-add))
    begun false q = rw q (simp (add-zero, zero-add))
counted-plus t Poll e = simp (add-zero, zero-add)
counted-plus t Confirm e = simp (add-zero, zero-add)

-- ---- a list sent
-- the counts after a list are those before, and the list's
pub play-tally : (part : ℕ) (w : World) (L : List Sent) → (play_of part w L).held.tally ≡ plus w.held.tally (tally_of L)
unfolding tally_of send_of
play-tally part w [] = sym (plus_none w.held.tally)
play-tally part w (s ∷ L) =
    play-tally part (send_of part w s.purpose s.cycle) L
    ∙ (ap (λ (t : Tally). plus t (tally_of L)) (counted-plus w.held.tally s.purpose s.cycle.elapsed)
    ∙ plus-plus w.held.tally (counted_of no_tally s.purpose s.cycle.elapsed) (tally_of L))

-- and as many cycles more are sent
pub play-sent : (part : ℕ) (w : World) (L : List Sent) → (play_of part w L).held.sent ≡ w.held.sent + length L
unfolding send_of
play-sent part w [] = sym (add-zero w.held.sent)
play-sent part w (s ∷ L) = omega (arith, play-sent part (send_of part w s.purpose s.cycle) L)

-- ---- parts of a list
-- two lists together
tally-append : (L M : List Sent) → tally_of (L ++ M) ≡ plus (tally_of L) (tally_of M)
unfolding tally_of
tally-append [] M = sym (none-plus (tally_of M))
tally-append (s ∷ L) M =
    let t = counted_of no_tally s.purpose s.cycle.elapsed in
    ap (plus t) (tally-append L M) ∙ sym (plus-plus t (tally_of L) (tally_of M))

-- ---- an operation, and reads
-- n polls, e µs each
polls-tally : (n e : ℕ) (wp : Bool) (a : Action) → tally_of (replicate n (sent Poll (cycle e wp a))) ≡ tally 0 0 n 0 0 (n * e)
unfolding tally_of
polls-tally zero e wp a = simp zero-mul
polls-tally (suc n) e wp a =
    let s : e + n * e ≡ suc n * e = omega arith in
    let i : 1 + n ≡ suc n = omega arith in
    simp (polls-tally n e wp a, zero-add, s, i)

module _ (j : Job) where
  -- one program: N polls p apart, one confirming read
  program-tally : (a x : ℕ) → tally_of (operated j 0 a x) ≡ tally 0 1 (N j 0) 0 1 (operation_time j 0)
  unfolding operated writes_of tally_of
  program-tally a x = simp (tally-append, polls-tally, zero-add, add-zero)

  -- one sector erase
  erase-tally : (a x : ℕ) → tally_of (operated j 1 a x) ≡ tally 1 0 (N j 1) 0 1 (operation_time j 1)
  unfolding operated writes_of tally_of
  erase-tally a x = simp (tally-append, polls-tally, zero-add, add-zero)

  -- ---- the formulas
  -- they hold of a list
  abbrev pub Fairly : List Sent → ℕ → ℕ → ℕ → Type 0
  Fairly L s e c = FollowsFormulas j (tally_of L) (length L) s e c

  -- of two lists together, if of each
  joined : (L M : List Sent) (s e c s' e' c' : ℕ) {s'' e'' c'' : ℕ} → Fairly L s e c → Fairly M s' e' c'
      → s + s' ≡ s'' → e + e' ≤ e'' → c + c' ≤ c'' → Fairly (L ++ M) s'' e'' c''
  joined L M s e c s' e' c' {s''} {e''} {c''} f g hs he hc =
      rw (tally-append L M, length-append L M)
      record {
        polls = omega (arith, f.polls, g.polls);
        spent = omega (arith, f.spent, g.spent);
        confirms = omega (arith, f.confirms, g.confirms);
        scans = omega (arith, f.scans, g.scans);
        erases = omega (arith, f.erases, g.erases);
        programs = omega (arith, f.programs, g.programs);
        cycles = omega (arith, f.cycles, g.cycles);
      }

  -- no cycle
  none-fair : (e c : ℕ) → Fairly [] 0 e c
  unfolding tally_of
  none-fair e c = record { polls = omega arith; spent = omega arith; confirms = refl; scans = omega arith; erases = zero-le; programs = zero-le; cycles = refl }

  -- a program
  program-fair : (a x : ℕ) → Fairly (operated j 0 a x) 0 0 1
  unfolding operated writes_of
  program-fair a x =
      rw (program-tally a x)
      record {
        polls = omega arith;
        spent = omega arith;
        confirms = refl;
        scans = omega arith;
        erases = zero-le;
        programs = le_refl _;
        cycles = simp (length-append, length-replicate) (omega arith);
      }

  -- a sector erase: its sector's cells are read once less
  erase-fair : (a x : ℕ) → Fairly (operated j 1 a x) j.size 1 0
  unfolding operated writes_of
  erase-fair a x =
      rw (erase-tally a x)
      record {
        polls = omega arith;
        spent = omega arith;
        confirms = refl;
        scans = omega arith;
        erases = le_refl _;
        programs = zero-le;
        cycles = simp (length-append, length-replicate) (omega arith);
      }

  -- a read
  scan-fair : (a : ℕ) → Fairly (scan_read j a ∷ []) 1 0 0
  unfolding tally_of
  scan-fair a = record { polls = omega arith; spent = omega arith; confirms = refl; scans = omega arith; erases = zero-le; programs = zero-le; cycles = refl }

  -- a program, or none
  burn-fair : (b : Bool) (a x : ℕ) → Fairly (pick b [] (operated j 0 a x)) 0 0 1
  burn-fair b a x = split (λ (L : List Sent). Fairly L 0 0 1) b [] (operated j 0 a x) (λ _. none-fair 0 1) (λ _. program-fair a x)

  -- n reads
  scans-fair : (a n : ℕ) → Fairly (scans j a n) n 0 0
  unfolding scans
  scans-fair a zero = none-fair 0 0
  scans-fair a (suc n) = joined (scan_read j a ∷ []) (scans j (a + 1) n) 1 0 0 n 0 0 (scan-fair a) (scans-fair (a + 1) n) (omega arith) zero-le zero-le

  -- after an erase
  fills-fair : (a : ℕ) (v : List ℕ) → Fairly (fills j a v) 0 0 (length v)
  unfolding fills
  fills-fair a [] = none-fair 0 0
  fills-fair a (x ∷ v) =
      joined (pick (eqb x (blank_of j.row.width)) [] (operated j 0 a x)) (fills j (a + 1) v) 0 0 1 0 0 (length v)
      (burn-fair (eqb x (blank_of j.row.width)) a x) (fills-fair (a + 1) v) refl zero-le (omega arith)

  -- unerased
  looks-fair : (a : ℕ) (l v : List ℕ) → length l ≡ length v → Fairly (looks j a l v) (length l) 0 (length l)
  unfolding looks
  looks-fair a [] v h = none-fair 0 0
  looks-fair a (o ∷ l) [] h = absurd (omega arith)
  looks-fair a (o ∷ l) (x ∷ v) h =
      let b = eqb (value_of j.row.width o) x in
      let m : length l ≡ length v = omega arith in
      joined (scan_read j a ∷ []) (pick b [] (operated j 0 a x) ++ looks j (a + 1) l v) 1 0 0 (length l) 0 (1 + length l) (scan-fair a)
      (joined (pick b [] (operated j 0 a x)) (looks j (a + 1) l v) 0 0 1 (length l) 0 (length l)
      (burn-fair b a x) (looks-fair (a + 1) l v m) (omega arith) zero-le (le_refl _))
      (omega arith) zero-le (omega arith)

  -- more erases and programs allowed
  wider : (L : List Sent) (s e c s' e' c' : ℕ) → Fairly L s e c → s ≡ s' → e ≤ e' → c ≤ c' → Fairly L s' e' c'
  wider L s e c s' e' c' f hs he hc = joined [] L 0 0 0 s e c (none-fair 0 0) f (omega arith) (omega arith) (omega arith)

  -- a sector: all of its cells are read, and again unless it is erased
  sector-fair : (a : ℕ) (l v : List ℕ) → length l ≡ j.size → length v ≡ j.size → Fairly (sector_sent j a l v) (j.size + j.size) 1 j.size
  unfolding sector_sent
  sector-fair a l v hl hv =
      joined (scans j a j.size) (carries j a l v (decided_on j l v)) j.size 0 0 j.size 1 j.size (scans-fair a j.size) (by (decided_on j l v)) refl (le_refl _) (omega arith)
    where
      by : (t : Decision) → Fairly (carries j a l v t) j.size 1 j.size
      by NoErase = wider (looks j a l v) (length l) 0 (length l) j.size 1 j.size (looks-fair a l v (hl ∙ sym hv)) hl zero-le (omega arith)
      by SectorErase = joined (operated j 1 a 0) (fills j a v) j.size 1 0 0 0 (length v) (erase-fair a 0) (fills-fair a v) (omega arith) (le_refl _) (omega arith)

  -- n sectors
  sectors-fair : (n a : ℕ) (l v : List ℕ) → n * j.size ≤ length l → n * j.size ≤ length v
      → Fairly (sectors_sent j a n l v) (n * (j.size + j.size)) n (n * j.size)
  unfolding sectors_sent
  sectors-fair zero a l v hl hv = wider [] 0 0 0 _ 0 _ (none-fair 0 0) (omega arith) zero-le zero-le
  sectors-fair (suc n) a l v hl hv =
      let S = j.size in
      joined (sector_sent j a (take S l) (take S v)) (sectors_sent j (a + S) n (drop S l) (drop S v)) (S + S) 1 S (n * (S + S)) n (n * S)
      (sector-fair a (take S l) (take S v) (simp length-take (omega arith)) (simp length-take (omega arith)))
      (sectors-fair n (a + S) (drop S l) (drop S v) (simp length-drop (omega arith)) (simp length-drop (omega arith)))
      (omega arith) (omega arith) (omega arith)

  -- ---- bounds
  module _ (t : Tally) (n s e c : ℕ) (f : FollowsFormulas j t n s e c) where
    -- the polls of e erases and c programs
    polls-most : t.polls ≤ e * N j 1 + c * N j 0
    polls-most = omega (arith, f.polls, mul-le-mul_right (N j 1) f.erases, mul-le-mul_right (N j 0) f.programs)

    -- the time by operations, and that of so many
    by-operation : t.time ≡ t.erases * operation_time j 1 + t.programs * operation_time j 0
    by-operation = rw (f.spent, f.polls, f.confirms) (omega (arith, mul_assoc t.erases (N j 1) j.p, mul_assoc t.programs (N j 0) j.p))

    pub spent-most : t.time ≤ e * operation_time j 1 + c * operation_time j 0
    spent-most = rw by-operation (omega (arith, mul-le-mul_right (operation_time j 1) f.erases, mul-le-mul_right (operation_time j 0) f.programs))

    -- and the cycles
    pub cycles-most : n ≤ s + e * (N j 1 + 7) + c * (N j 0 + 5)
    cycles-most = omega (arith, f.scans, f.erases, f.programs, f.confirms, f.cycles, polls-most)

-- ---- the table
-- no known part takes more than 28 µs for a program and 36,000 for a sector erase
quick : (n : ℕ) → part_refusal n ≡ 0 → (time_of (row_of n) 0 ≤ 28) × (time_of (row_of n) 1 ≤ 36000)
unfolding row_of time_of
quick n k =
    let r = row_of n in
    let b = both (leb r.program 28) (leb r.erase 36000) (at test lines no_line refl n (omega (arith, known n k))) in
    (leb-true r.program 28 b.0, leb-true r.erase 36000 b.1)
  where
    test : Line → Bool
    test l = pick (leb (row_from l).program 28) (leb (row_from l).erase 36000) false

-- a sector has 2,048 cells or more
large : (w : ℕ) → 2048 ≤ sector_size w
unfolding sector_size
large w = split (λ (n : ℕ). 2048 ≤ n) (eqb w 8) 4096 2048 (λ _. omega arith) (λ _. omega arith)

-- ---- the whole job
module _ (j : Job) (image : List ℕ) (R : AcceptedJob j image) (cells : List ℕ) (full : length cells ≡ (row_of j.part).cells) where
  -- the formulas: the range's cells are read twice less those of erased sectors; not more erases than sectors, nor programs than cells
  pub job-fair : Fairly j (sent_of j image cells) (j.count + j.count) (j.count / j.size) j.count
  job-fair =
      let n = j.count / j.size in
      let e : n * j.size ≡ j.count = omega (arith, div-add-mod' j.count j.size, R.whole) in
      let l : n * j.size ≤ length (drop j.first cells) = simp length-drop (omega (arith, R.range)) in
      wider j (sent_of j image cells) (n * (j.size + j.size)) n (n * j.size) (j.count + j.count) n j.count
      (sectors-fair j n j.first (drop j.first cells) image l (omega (arith, R.count)))
      (omega (arith, mul-add n j.size j.size)) (le_refl _) (omega arith)

  -- no more is spent than if every sector were erased and every cell programmed
  pub time-most : (tally_of (sent_of j image cells)).time ≤ j.count / j.size * operation_time j 1 + j.count * operation_time j 0
  time-most = spent-most j _ _ _ _ _ job-fair

  -- a poll is at least 1 µs: no more polls than µs
  N-most : (command : ℕ) → N j command ≤ time_of (row_of j.part) command
  N-most command =
      let T = time_of (row_of j.part) command in
      rw R.row (least T j.p R.some T (le-mul_of_pos_right T R.some))

  -- the job's cycles can be counted
  pub length_most : length (sent_of j image cells) ≤ 2147483648
  length_most =
      let n = j.count / j.size in
      let q = quick j.part R.known in
      let c : j.count ≤ 4194304 = omega (arith, R.range, cells-most j.part R.known) in
      let l : 2048 ≤ j.size = rw R.size (large (row_of j.part).width) in
      let m : n ≤ 2048 = omega (arith, div-mul-le_self j.count j.size, mul-le-mul_left n l) in
      let e : n * (N j 1 + 7) ≤ 2048 * 36007 = mul-le-mul {m₂ = 36007} m (omega (arith, N-most 1)) in
      let p : j.count * (N j 0 + 5) ≤ 4194304 * 33 = mul-le-mul {m₂ = 33} c (omega (arith, N-most 0)) in
      omega (arith, cycles-most j _ _ _ _ _ job-fair)
