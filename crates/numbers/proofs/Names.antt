-- A turn sends nothing but reads and writes, so that its numbers tell which cycle is named.
use Rattle.std.specs.Prelude.{Some, None}
use Prim.Native.Nat.{ℕ, ◌+◌}
use mathlib.Core.Path.{◌≡◌, refl}
use mathlib.Core.List.{List}
use lib.Dec.{eqb, ltb}
use lib.ListN.{get_or, take, drop}
use Rattle.parts.specs.Width.{value_of}
use Rattle.parts.proofs.Every.{split}
use Rattle.driver.specs.declared.machine.Driver.{Driver}
use Rattle.driver.specs.Machine.{Next}
use Rattle.driver.specs.declared.machine.Step.{Step}
use Rattle.driver.specs.Machine.{step, start_of, step_of, start_writing}
use Rattle.job.specs.declared.loader.Job.{Job}
use Rattle.job.specs.declared.loader.Stage.{Stage}
use Rattle.job.specs.declared.loader.Stage.TheVariants.{Scanning, Looking, Driving}
use Rattle.job.specs.declared.loader.Task.{Task}
use Rattle.job.specs.declared.loader.Task.TheVariants.{Erasing, Filling, Burning}
use Rattle.job.specs.declared.loader.Loader.{Loader}
use Rattle.job.specs.declared.loader.Turn.{Turn}
use Rattle.job.specs.declared.loader.Turn.TheVariants.{Play, Stop}
use Rattle.values.specs.declared.search.Decision.{Decision}
use Rattle.values.specs.declared.search.Decision.TheVariants.{NoErase, SectorErase}
use Rattle.job.specs.declared.loading.Progress.{Progress}
use Rattle.job.specs.declared.loading.Progress.TheVariants.{Waiting, Within, Over}
use Rattle.job.specs.declared.loading.Loading.{Loading}
use Rattle.job.specs.declared.loading.LoadTurn.{LoadTurn}
use Rattle.values.specs.Search.{decision_of}
use Rattle.job.specs.Loader.{Turned, turned, reads_cell, next_sector, look_of, first_step, begin_of, next_mark, fill_of, burn_of, carry_out, decide_of, afterwards, driven_of, seen_of, scanned_of, stage_of, in_job, turn_of, place_of}
use Rattle.job.specs.Loading.{is_ending, load_turn, LoadTurned, load_turned, moved_to, job_in, first_turn, loading_in_range, stops_with, taken, progress_of, load_turn_of}
use Rattle.numbers.specs.Machine.{sent_numbers, next_numbers, next_of}
use Rattle.numbers.specs.Loading.{sending_numbers}
use Rattle.numbers.specs.JobLoop.{next_sent}
use Rattle.numbers.proofs.Back.{next-back}

-- the numbers of what a turn names tell it
abbrev pub SendingBack : LoadTurn → Type 0
SendingBack t = next_of (sending_numbers t.next) ≡ next_sent t.next

-- so of the loader's turn
abbrev Plain : Turn → Type 0
Plain (Play l p c) = next_of (sent_numbers c.elapsed c.action) ≡ Some (c.elapsed, c.action)
Plain (Stop n) = Unit {0}

module _ (j : Job) (image : List ℕ) where
  reads_plain : (s : Stage) (base i : ℕ) → Plain (reads_cell j s base i)
  unfolding next_of
  reads_plain s base i = refl

  sector-plain : (base : ℕ) → Plain (next_sector j base)
  unfolding next_sector
  sector-plain base = split Plain (ltb base j.count) (reads_cell j Scanning base 0) (Stop 0) (λ _. reads_plain Scanning base 0) (λ _. tt)

  look-plain : (base i : ℕ) → Plain (look_of j base i)
  unfolding look_of
  look-plain base i =
      split Plain (ltb i j.size) (reads_cell j Looking base i) (next_sector j (base + j.size)) (λ _. reads_plain Looking base i) (λ _. sector-plain (base + j.size))

  -- a driver's first step, and any other
  first_plain : (t : Task) (base i n : ℕ) (d : Driver) (x : Next) (k : ℕ) → next_of (next_numbers x) ≡ x → Plain (first_step j t base i (step n d x k))
  first_plain t base i n d None k b = tt
  first_plain t base i n d (Some (e, a)) k b = b

  begin-plain : (t : Task) (base i command x : ℕ) → Plain (begin_of j t base i command x)
  unfolding begin_of start_writing next_of
  begin-plain t base i command x =
      let o = start_of j.part command (place_of j base i) x j.p in
      let s = step_of o.driver 0 in
      split (λ (s : Step). Plain (first_step j t base i s)) (eqb o.answer 0) s (step o.answer o.driver None 0)
      (λ _. first_plain t base i s.answer s.driver s.next s.polls (next-back o.driver 0))
      (λ _. tt)

  fill-plain : (base i : ℕ) → Plain (fill_of j image base i)
  unfolding fill_of
  fill-plain base i =
      let m = next_mark j image base i in
      let x = get_or image (base + m) 0 in
      split Plain (ltb m j.size) (begin_of j Filling base m 0 x) (next_sector j (base + j.size)) (λ _. begin-plain Filling base m 0 x) (λ _. sector-plain (base + j.size))

  burn-plain : (base i reply : ℕ) → Plain (burn_of j image base i reply)
  unfolding burn_of
  burn-plain base i reply =
      let x = get_or image (base + i) 0 in
      split Plain (eqb (value_of j.row.width reply) x) (look_of j base (i + 1)) (begin_of j Burning base i 0 x) (λ _. look-plain base (i + 1)) (λ _. begin-plain Burning base i 0 x)

  carry_plain : (base : ℕ) (d : Decision) → Plain (carry_out j base d)
  carry_plain base NoErase = look-plain base 0
  carry_plain base SectorErase = begin-plain Erasing base 0 1 0

  scan-plain : (seen : List ℕ) (base i : ℕ) → Plain (scanned_of j image seen base i)
  unfolding scanned_of decide_of
  scan-plain seen base i =
      split Plain (ltb (i + 1) j.size) (reads_cell j Scanning base (i + 1)) (decide_of j image seen base) (λ _. reads_plain Scanning base (i + 1))
      (λ _. carry_plain base (decision_of j.row.width (take j.size seen) (take j.size (drop base image))))

  afterwards-plain : (t : Task) (base i : ℕ) → Plain (afterwards j image t base i)
  afterwards-plain Erasing base i = fill-plain base 0
  afterwards-plain Filling base i = fill-plain base (i + 1)
  afterwards-plain Burning base i = look-plain base (i + 1)

  driven-plain : (t : Task) (base i n : ℕ) (d : Driver) (x : Next) (k : ℕ) → next_of (next_numbers x) ≡ x → Plain (driven_of j image t base i (step n d x k))
  unfolding driven_of
  driven-plain t base i n d None k b = split Plain (eqb n 0) (afterwards j image t base i) (Stop n) (λ _. afterwards-plain t base i) (λ _. tt)
  driven-plain t base i n d (Some (e, a)) k b = b

  stage-plain : (seen : List ℕ) (s : Stage) (base i reply : ℕ) → Plain (stage_of j image seen s base i reply)
  stage-plain seen Scanning base i reply = scan-plain seen base i
  stage-plain seen Looking base i reply = burn-plain base i reply
  stage-plain seen (Driving t d) base i reply =
      let s = step_of d reply in
      driven-plain t base i s.answer s.driver s.next s.polls (next-back d reply)

  turn-plain : (seen : List ℕ) (l : Loader) (reply : ℕ) → Plain (turn_of j image seen l reply).turn
  unfolding turn_of
  turn-plain seen l reply =
      let s = seen_of l.stage seen l.at reply in
      split (λ (t : Turned). Plain t.turn) (in_job j l) (turned s (stage_of j image s l.stage l.base l.at reply)) (turned seen (Stop 5))
      (λ _. stage-plain s l.stage l.base l.at reply) (λ _. tt)

module _ (g : Loading) (image seen : List ℕ) (read : ℕ) where
  stop-back : (n : ℕ) → SendingBack (stops_with g n)
  unfolding stops_with next_of
  stop-back n = split SendingBack (is_ending n) (load_turn n (moved_to g (Over n)) None) (load_turn n g None) (λ _. refl) (λ _. refl)

  taken_back : (t : Turn) → Plain t → SendingBack (taken g t)
  taken_back (Play l p c) b = b
  taken_back (Stop n) b = stop-back n

  progress-names : (x : Progress) → SendingBack (progress_of g (job_in g) image seen x read).turn
  progress-names Waiting = taken_back (first_turn (job_in g)) (sector-plain (job_in g) image 0)
  progress-names (Within l) = taken_back (turn_of (job_in g) image seen l read).turn (turn-plain (job_in g) image seen l read)
  progress-names (Over n) = stop-back n

  pub sending-back : SendingBack (load_turn_of g image seen read).turn
  unfolding load_turn_of next_of
  sending-back =
      split (λ (t : LoadTurned). SendingBack t.turn) (loading_in_range g image) (progress_of g (job_in g) image seen g.progress read)
      (load_turned seen (load_turn 5 g None)) (λ _. progress-names g.progress) (λ _. refl)
