-- Whatever is replied, a turn of a loader in range names a cycle that leaves it in range and nearer to its end, or it ends with 0, 11 or 12.
use Rattle.std.specs.Prelude.{Some, None}
use Prim.Native.Nat.{ℕ, suc, ◌+◌, ◌-◌, ◌*◌, ◌/◌, ◌%◌, ◌≤◌, ◌<◌}
use mathlib.Core.Path.{◌≡◌, refl, sym, ap, ◌∙◌}
use mathlib.Core.Bool.{Bool, true, false}
use mathlib.Core.List.{List}
use native.Mathlib.Nat.{le_trans, suc-mul, mul-add, add-mod_right, mul-le-mul_right, div-add-mod', add-div_right}
use native.Mathlib.Omega.{arith}
use borrow.Author.Tests.{leb-true, leb-false, ltb-true, eqb-true, eq-eqb}
use lib.Dec.{eqb, ltb, leb}
use lib.ListN.{get_or, take, drop}
use Rattle.parts.specs.Width.{value_of}
use Rattle.parts.specs.Table.{row_of}
use Rattle.parts.proofs.Every.{both, split}
use Rattle.parts.proofs.Ranges.{sector-some}
use Rattle.device.specs.declared.cycle.Action.{Action}
use Rattle.device.specs.declared.cycle.Action.TheVariants.{Read}
use Rattle.device.specs.declared.cycle.Cycle.{Cycle}
use Rattle.driver.specs.declared.machine.Phase.{Phase}
use Rattle.driver.specs.declared.machine.Phase.TheVariants.{Writing, Polling, Confirming, Done, GaveUp, Differs}
use Rattle.driver.specs.declared.machine.Driver.{Driver}
use Rattle.driver.specs.Machine.{Next}
use Rattle.driver.specs.declared.machine.Step.{Step}
use Rattle.driver.specs.Refusals.{start_refusal}
use Rattle.driver.specs.Writes.{write_count}
use Rattle.driver.specs.Machine.{address_of, begun, most_polls, in_range, confirm_after, moved, ending, step_of, start_writing}
use Rattle.driver.proofs.Begins.{start_is, start-range}
use Rattle.driver.proofs.Steps.{Way, refused, writes, wrote, waits, matched, ends, way, write_next, left, left_from, falls, keeps, asks-on, answers}
use Rattle.job.specs.declared.loader.Job.{Job}
use Rattle.job.specs.declared.loader.Stage.{Stage}
use Rattle.job.specs.declared.loader.Stage.TheVariants.{Scanning, Looking, Driving}
use Rattle.job.specs.declared.loader.Task.{Task}
use Rattle.job.specs.declared.loader.Task.TheVariants.{Erasing, Filling, Burning}
use Rattle.job.specs.declared.loader.Loader.{Loader}
use Rattle.job.specs.declared.loader.Turn.{Turn}
use Rattle.job.specs.declared.loader.Turn.TheVariants.{Play, Stop}
use Rattle.values.specs.declared.search.Decision.{Decision}
use Rattle.values.specs.declared.search.Decision.TheVariants.{NoErase, SectorErase}
use Rattle.values.specs.Search.{decision_of}
use Rattle.job.specs.Loader.{loader, place_of, reads_cell, next_sector, look_of, goes_on, first_step, begin_of, next_mark, fill_of, burn_of, carry_out, decide_of, afterwards, driven_of, seen_of}
use Rattle.job.specs.Loader.{scanned_of, stage_of, turn_of}
use Rattle.job.specs.Socket.{Allowed, reads, programs, erases}
use Rattle.job.specs.Loading.{is_ending, asked_for, same_asked, stage_in_range, loader_in_range}
use Rattle.job.proofs.InJob.{in-sector, sector-in}
use Rattle.job.proofs.AcceptedJob.{AcceptedJob, program-starts, erase-starts}
use Rattle.job.proofs.InRange.{asked-same, Alike, alike}

-- ---- numbers
times_more : (q k : ℕ) → (q + 1) * k ≡ k + q * k
times_more q k = omega arith

-- of two multiples the next one after the lesser is not past the greater
next_multiple : (s b c : ℕ) → b % s ≡ 0 → c % s ≡ 0 → b < c → b + s ≤ c
next_multiple s b c eb ec h = by (leb (suc (b / s)) (c / s)) refl
  where
    by : (t : Bool) → leb (suc (b / s)) (c / s) ≡ t → b + s ≤ c
    by true t = omega (arith, div-add-mod' b s, div-add-mod' c s, suc-mul (b / s) s, mul-le-mul_right s (leb-true (suc (b / s)) (c / s) t))
    by false t =
        let l : c / s ≤ b / s = omega (arith, leb-false (suc (b / s)) (c / s) t) in
        absurd (omega (arith, div-add-mod' b s, div-add-mod' c s, mul-le-mul_right s l))

-- an ending's number is one that a job ends with
ending-is : (f : Phase) → is_ending (ending f) ≡ true
unfolding is_ending
ending-is Writing = refl
ending-is Polling = refl
ending-is Confirming = refl
ending-is Done = refl
ending-is GaveUp = refl
ending-is Differs = refl

-- further on, a driver asks for the same
moved-asks : (d : Driver) (f : Phase) (n : ℕ) (e : Driver) → same_asked (moved d f n) e ≡ same_asked d e
unfolding same_asked
moved-asks d f n e = refl

module _ (j : Job) (image : List ℕ) (R : AcceptedJob j image) where
  some : 0 < j.size
  some = rw R.size (sector-some (row_of j.part).width)

  -- ---- how many cycles are still to come at most
  -- of an operation of a command, whole
  abbrev pub operation_left : ℕ → ℕ
  operation_left command = write_count command + (most_polls (row_of j.part) command j.p + 1)

  abbrev P : ℕ
  P = operation_left 0

  -- of a sector, whole: once all its cells are read, and before
  abbrev decided_left : ℕ
  decided_left = j.size + (operation_left 1 + j.size * P)

  abbrev pub sector_left : ℕ
  sector_left = j.size + decided_left

  -- of the sectors from a multiple of their size on
  abbrev pub sectors_left : ℕ → ℕ
  sectors_left b = (j.count - b) / j.size * sector_left

  -- of a sector once an operation has ended
  abbrev task_left : Task → ℕ → ℕ
  task_left Erasing i = j.size * P
  task_left Filling i = (j.size - (i + 1)) * P
  task_left Burning i = (j.size - (i + 1)) * (1 + P)

  abbrev stage_left : Stage → ℕ → ℕ
  stage_left Scanning i = j.size - (i + 1) + decided_left
  stage_left Looking i = j.size - (i + 1) + (j.size - i) * P
  stage_left (Driving t d) i = left d + task_left t i

  abbrev pub loader_left : Loader → ℕ
  loader_left l = stage_left l.stage l.at + sectors_left (l.base + j.size)

  -- ---- a turn that keeps the loader in range, within m cycles of its end
  abbrev Drives : Stage → Type 0
  Drives Scanning = Unit {0}
  Drives Looking = Unit {0}
  Drives (Driving t d) = in_range d ≡ true

  -- a loader in range, its driver too
  pub record InOrder (l : Loader) : Type 0 where
    pub range : loader_in_range j image l ≡ true
    pub drives : Drives l.stage

  abbrev MaySend : Cycle → Type 0
  MaySend c = (c.wp ≡ j.wp) × Allowed j image c.action

  abbrev pub Fine : ℕ → Turn → Type 0
  Fine m (Play l p c) = InOrder l × ((suc (loader_left l) ≤ m) × MaySend c)
  Fine m (Stop n) = is_ending n ≡ true

  pub fine_more : (m n : ℕ) (t : Turn) → m ≤ n → Fine m t → Fine n t
  fine_more m n (Play l p c) h f = (f.0, (le_trans f.1.0 h, f.1.1))
  fine_more m n (Stop k) h f = f

  in_order : (s : Stage) (base i : ℕ) → base + j.size ≤ j.count → base % j.size ≡ 0 → i < j.size → stage_in_range j image s base i ≡ true → Drives s → InOrder (loader s base i)
  unfolding loader_in_range
  in_order s base i h a l t d = record { range = rw (sector-in j (loader s base i) h l, eq-eqb (base % j.size) 0 a) t; drives = d }

  -- ---- the next sector
  one_less : (b : ℕ) → b + j.size ≤ j.count → sectors_left b ≡ sector_left + sectors_left (b + j.size)
  one_less b h =
      let e : j.count - b ≡ j.count - (b + j.size) + j.size = omega arith in
      ap (λ (n : ℕ). n / j.size * sector_left) e
      ∙ (ap (λ (q : ℕ). q * sector_left) (add-div_right (j.count - (b + j.size)) some) ∙ times_more ((j.count - (b + j.size)) / j.size) sector_left)

  pub next-fine : (b : ℕ) → b % j.size ≡ 0 → Fine (sectors_left b) (next_sector j b)
  unfolding next_sector is_ending
  next-fine b a =
      split (Fine (sectors_left b)) (ltb b j.count) (reads_cell j Scanning b 0) (Stop 0)
      (λ t. let h = next_multiple j.size b j.count a R.whole (ltb-true b j.count t) in
      (in_order Scanning b 0 h a some refl tt, (omega (arith, one_less b h, some), (refl, reads (b + 0) (omega (arith, some))))))
      (λ _. refl)

  -- ---- one sector
  module _ (base : ℕ) (inside : base + j.size ≤ j.count) (aligned : base % j.size ≡ 0) where
    abbrev beyond : ℕ
    beyond = sectors_left (base + j.size)

    then_next : Fine beyond (next_sector j (base + j.size))
    then_next = next-fine (base + j.size) (add-mod_right base j.size ∙ aligned)

    look-fine : (i : ℕ) → Fine ((j.size - i) * (1 + P) + beyond) (look_of j base i)
    unfolding look_of
    look-fine i =
        split (Fine ((j.size - i) * (1 + P) + beyond)) (ltb i j.size) (reads_cell j Looking base i) (next_sector j (base + j.size))
        (λ t. let h = ltb-true i j.size t in
        let e : j.size - i ≡ suc (j.size - (i + 1)) = omega arith in
        (in_order Looking base i inside aligned h refl tt, (looks (j.size - i) (j.size - (i + 1)) e, (refl, reads (base + i) (omega arith)))))
        (λ _. fine_more beyond _ (next_sector j (base + j.size)) (omega arith) then_next)
      where
        looks : (u v : ℕ) → u ≡ suc v → suc (v + u * P + beyond) ≤ u * (1 + P) + beyond
        looks u v e = omega arith

    -- ---- an operation at a cell
    module _ (task : Task) (i : ℕ) (there : i < j.size) where
      abbrev onward : ℕ
      onward = task_left task i + beyond

      -- what its driver writes next, and reads
      writes-allowed : (d : Driver) → Alike d (asked_for j image task base i) → d.count < write_count d.command → Allowed j image (write_next d)
      writes-allowed d s h = by task s.part s.command s.address s.word
        where
          by : (t : Task) → d.part ≡ (asked_for j image t base i).part → d.command ≡ (asked_for j image t base i).command → d.address ≡ (asked_for j image t base i).address
              → d.«data» ≡ (asked_for j image t base i).«data» → Allowed j image (write_next d)
          by Erasing a b c e = rw (a, b, c, e) (erases base d.count (omega (arith, some)) aligned (rw b at h))
          by Filling a b c e = rw (a, b, c, e) (programs (base + i) d.count (omega arith) (rw b at h))
          by Burning a b c e = rw (a, b, c, e) (programs (base + i) d.count (omega arith) (rw b at h))

      reads-allowed : (d : Driver) → Alike d (asked_for j image task base i) → Allowed j image (Read (address_of d.command d.address))
      reads-allowed d s = by task s.command s.address
        where
          by : (t : Task) → d.command ≡ (asked_for j image t base i).command → d.address ≡ (asked_for j image t base i).address → Allowed j image (Read (address_of d.command d.address))
          by Erasing b c = rw (b, c) (reads base (omega (arith, some)))
          by Filling b c = rw (b, c) (reads (base + i) (omega arith))
          by Burning b c = rw (b, c) (reads (base + i) (omega arith))

      names-allowed : (d : Driver) (read e : ℕ) (a : Action) → same_asked d (asked_for j image task base i) ≡ true → (step_of d read).next ≡ Some (e, a) → Allowed j image a
      names-allowed d read e a h q = go (step_of d read) (way d read) q
        where
          s : Alike d (asked_for j image task base i)
          s = alike d (asked_for j image task base i) h

          none : ◌≡◌ {A = Next} None (Some (e, a)) → Allowed j image a
          none f = let z : ◌≡◌ {A = ℕ} 0 1 = cc in absurd (omega arith)

          is : (m : ℕ) (b : Action) → ◌≡◌ {A = Next} (Some (m, b)) (Some (e, a)) → Allowed j image b → Allowed j image a
          is m b f k = let g : b ≡ a = ap (λ (x : Next). elim x [ None ↦ b | Some p ↦ p.1 ]) f in rw (sym g) k

          go : (t : Step) → Way d t → t.next ≡ Some (e, a) → Allowed j image a
          go t (refused f) n = none n
          go t (writes f l) n = is 0 (write_next d) n (writes-allowed d s (omega arith))
          go t (wrote f l) n = is 0 (write_next d) n (writes-allowed d s (omega arith))
          go t (waits f l) n = is d.p (Read (address_of d.command d.address)) n (reads-allowed d s)
          go t (matched f l m) n = is confirm_after (Read (address_of d.command d.address)) n (reads-allowed d s)
          go t (ends f i z c m) n = none n

      -- the cycle that its driver names
      goes-fine : (d : Driver) (read e : ℕ) (a : Action) → in_range d ≡ true → same_asked d (asked_for j image task base i) ≡ true → (step_of d read).next ≡ Some (e, a)
          → Fine (left d + onward) (goes_on j task base i (step_of d read).driver e a)
      goes-fine d read e a v s q =
          let u = (step_of d read).driver in
          let o = asked_for j image task base i in
          let w : same_asked u o ≡ true = ap (λ (u : Driver). same_asked u o) (asks-on d read) ∙ (moved-asks d _ _ o ∙ s) in
          let f : left_from (Some (e, a)) u ≤ left d = rw q at (falls d read) in
          (in_order (Driving task u) base i inside aligned there w (keeps d read v), (omega (arith, f), (refl, names-allowed d read e a s q)))

      -- its first step
      first_fine : (d : Driver) (x : Next) → (step_of d 0).next ≡ x → in_range d ≡ true → same_asked d (asked_for j image task base i) ≡ true
          → Fine (left d + onward) (first_step j task base i (step_of d 0))
      first_fine d None q v s = rw (q, answers d 0 v) (ending-is (step_of d 0).driver.phase)
      first_fine d (Some (e, a)) q v s = rw q (goes-fine d 0 e a v s q)

      begin-fine : (command x : ℕ) → start_refusal j.part command (place_of j base i) x j.p ≡ 0
          → same_asked (begun j.part command (place_of j base i) x j.p) (asked_for j image task base i) ≡ true
          → Fine (operation_left command + onward) (begin_of j task base i command x)
      unfolding begin_of start_writing
      begin-fine command x z s =
          let b = begun j.part command (place_of j base i) x j.p in
          let f = first_fine b (step_of b 0).next refl (start-range j.part command (place_of j base i) x j.p z) s in
          rw (start_is j.part command (place_of j base i) x j.p z) (fine_more _ _ (first_step j task base i (step_of b 0)) (omega arith) f)

    -- ---- an erased sector
    abbrev image_at : ℕ → ℕ
    image_at i = get_or image (base + i) 0

    place-there : (i : ℕ) → i < j.size → place_of j base i < (row_of j.part).cells
    place-there i h = omega (arith, R.range)

    program-fine : (task : Task) (i : ℕ) → i < j.size → same_asked (begun j.part 0 (place_of j base i) (image_at i) j.p) (asked_for j image task base i) ≡ true
        → Fine (P + (task_left task i + beyond)) (begin_of j task base i 0 (image_at i))
    program-fine task i h s = begin-fine task i h 0 (image_at i) (program-starts j image R (place_of j base i) (base + i) (place-there i h) (omega (arith, R.count))) s

    -- the first of u + 1 cells is programmed, v of them are left
    fewer : (u v q : ℕ) → suc v ≤ u → q + v * q ≤ u * q
    fewer u v q h = omega (arith, suc-mul v q, mul-le-mul_right q h)

    fill-fine : (i : ℕ) → Fine ((j.size - i) * P + beyond) (fill_of j image base i)
    unfolding fill_of
    fill-fine i =
        let k = next_mark j image base i in
        split (Fine ((j.size - i) * P + beyond)) (ltb k j.size) (begin_of j Filling base k 0 (image_at k)) (next_sector j (base + j.size))
        (λ t. marks k (ltb-true k j.size t) (omega arith))
        (λ _. fine_more beyond _ (next_sector j (base + j.size)) (omega arith) then_next)
      where
        marks : (k : ℕ) → k < j.size → i ≤ k → Fine ((j.size - i) * P + beyond) (begin_of j Filling base k 0 (image_at k))
        marks k h le =
            fine_more _ _ (begin_of j Filling base k 0 (image_at k)) (omega (arith, fewer (j.size - i) (j.size - (k + 1)) P (omega arith)))
            (program-fine Filling k h (rw (asked-same (begun j.part 0 (place_of j base k) (image_at k) j.p) (asked_for j image Filling base k) refl refl refl refl) (eq-eqb j.p j.p refl)))

    -- ---- an unerased one
    burn-fine : (i reply : ℕ) → i < j.size → Fine (j.size - (i + 1) + (j.size - i) * P + beyond) (burn_of j image base i reply)
    unfolding burn_of
    burn-fine i reply h =
        let e : j.size - i ≡ suc (j.size - (i + 1)) = omega arith in
        split (Fine (j.size - (i + 1) + (j.size - i) * P + beyond)) (eqb (value_of j.row.width reply) (image_at i)) (look_of j base (i + 1)) (begin_of j Burning base i 0 (image_at i))
        (λ _. fine_more _ _ (look_of j base (i + 1)) (looks (j.size - i) (j.size - (i + 1)) e) (look-fine (i + 1)))
        (λ _. fine_more _ _ (begin_of j Burning base i 0 (image_at i)) (burns (j.size - i) (j.size - (i + 1)) e)
        (program-fine Burning i h (rw (asked-same (begun j.part 0 (place_of j base i) (image_at i) j.p) (asked_for j image Burning base i) refl refl refl refl) (eq-eqb j.p j.p refl))))
      where
        looks : (u v : ℕ) → u ≡ suc v → v * (1 + P) + beyond ≤ v + u * P + beyond
        looks u v e = rw e (omega (arith, mul-add v 1 P))

        burns : (u v : ℕ) → u ≡ suc v → P + (v * (1 + P) + beyond) ≤ v + u * P + beyond
        burns u v e = rw e (omega (arith, mul-add v 1 P))

    -- ---- the decision
    erase-fine : Fine (operation_left 1 + (j.size * P + beyond)) (begin_of j Erasing base 0 1 0)
    erase-fine =
        let e : j.first + (base + 0) ≡ j.first + base = omega arith in
        begin-fine Erasing 0 some 1 0 (erase-starts j image R (place_of j base 0) (place-there 0 some))
        (rw (asked-same (begun j.part 1 (place_of j base 0) 0 j.p) (asked_for j image Erasing base 0) refl refl e refl) (eq-eqb j.p j.p refl))

    decide-fine : (seen : List ℕ) → Fine (decided_left + beyond) (decide_of j image seen base)
    unfolding decide_of
    decide-fine seen = by (decision_of j.row.width (take j.size seen) (take j.size (drop base image)))
      where
        all : j.size - 0 ≡ j.size
        all = omega arith

        by : (d : Decision) → Fine (decided_left + beyond) (carry_out j base d)
        by NoErase = fine_more _ _ (look_of j base 0) (rw all (omega arith)) (look-fine 0)
        by SectorErase = fine_more _ _ (begin_of j Erasing base 0 1 0) (omega arith) erase-fine

    -- ---- a turn
    after-fine : (task : Task) (i : ℕ) → i < j.size → Fine (task_left task i + beyond) (afterwards j image task base i)
    after-fine Erasing i h = let e : j.size - 0 ≡ j.size = omega arith in rw e at (fill-fine 0)
    after-fine Filling i h = fill-fine (i + 1)
    after-fine Burning i h = look-fine (i + 1)

    driven-fine : (task : Task) (i : ℕ) (d : Driver) (read : ℕ) (x : Next) → (step_of d read).next ≡ x → i < j.size → in_range d ≡ true → same_asked d (asked_for j image task base i) ≡ true
        → Fine (left d + task_left task i + beyond) (driven_of j image task base i (step_of d read))
    unfolding driven_of
    driven-fine task i d read None q h v s =
        rw q
        (split (Fine (left d + task_left task i + beyond)) (eqb (step_of d read).answer 0) (afterwards j image task base i) (Stop (step_of d read).answer)
        (λ _. fine_more _ _ (afterwards j image task base i) (omega arith) (after-fine task i h)) (λ _. rw (answers d read v) (ending-is (step_of d read).driver.phase)))
    driven-fine task i d read (Some (e, a)) q h v s =
        rw q (fine_more _ _ (goes_on j task base i (step_of d read).driver e a) (omega arith) (goes-fine task i h d read e a v s q))

    stage-fine : (s : Stage) (i : ℕ) (seen : List ℕ) (read : ℕ) → i < j.size → stage_in_range j image s base i ≡ true → Drives s
        → Fine (stage_left s i + beyond) (stage_of j image seen s base i read)
    unfolding scanned_of
    stage-fine Scanning i seen read h t d =
        split (Fine (stage_left Scanning i + beyond)) (ltb (i + 1) j.size) (reads_cell j Scanning base (i + 1)) (decide_of j image seen base)
        (λ l. let n : i + 1 < j.size = ltb-true (i + 1) j.size l in (in_order Scanning base (i + 1) inside aligned n refl tt, (omega arith, (refl, reads (base + (i + 1)) (omega arith)))))
        (λ _. fine_more _ _ (decide_of j image seen base) (omega arith) (decide-fine seen))
    stage-fine Looking i seen read h t d = burn-fine i read h
    stage-fine (Driving task d) i seen read h t v = driven-fine task i d read (step_of d read).next refl h v t

  pub turn-fine : (l : Loader) (seen : List ℕ) (read : ℕ) → InOrder l → Fine (loader_left l) (turn_of j image seen l read).turn
  unfolding turn_of loader_in_range
  turn-fine l seen read s =
      let a = both _ _ s.range in
      let b = both _ _ a.1 in
      let w = in-sector j l a.0 in
      rw a.0 (stage-fine l.base w.0 (eqb-true (l.base % j.size) 0 b.0) l.stage l.at (seen_of l.stage seen l.at read) read w.1 b.1 s.drives)
