-- A refused turn changes nothing: the state and the values seen are handed back as they came, and no cycle is named.
use Rattle.std.specs.Prelude.{None}
use Prim.Native.Nat.{ℕ, ◌+◌, ◌≤◌, ◌<◌}
use mathlib.Core.Path.{◌≡◌, refl, sym, ◌∙◌}
use mathlib.Core.Bool.{Bool, true, false}
use mathlib.Core.List.{List}
use native.Mathlib.Omega.{arith}
use borrow.Author.Tests.{eqb-true, lt-ltb}
use lib.Dec.{eqb, ltb}
use lib.ListN.{length, take, drop}
use Rattle.parts.specs.Pick.{pick}
use Rattle.parts.specs.Table.{row_of, part_refusal}
use Rattle.parts.specs.Time.{is_interval}
use Rattle.parts.proofs.Every.{apart, both, split}
use Rattle.parts.proofs.Ranges.{sector-some}
use Rattle.driver.specs.Machine.{begun, writing_of, step_of, start_writing}
use Rattle.driver.proofs.Begins.{start_is, start-range}
use Rattle.driver.proofs.Steps.{goes}
use Rattle.job.specs.declared.loader.Job.{Job}
use Rattle.job.specs.declared.loader.Stage.{Stage}
use Rattle.job.specs.declared.loader.Stage.TheVariants.{Scanning, Looking, Driving}
use Rattle.job.specs.declared.loader.Task.TheVariants.{Erasing}
use Rattle.job.specs.declared.loader.Loader.{Loader}
use Rattle.job.specs.declared.loader.Turn.{Turn}
use Rattle.job.specs.declared.loader.Turn.TheVariants.{Play, Stop}
use Rattle.job.specs.declared.loading.Progress.{Progress}
use Rattle.job.specs.declared.loading.Progress.TheVariants.{Waiting, Within, Over}
use Rattle.job.specs.declared.loading.Loading.{Loading}
use Rattle.values.specs.declared.search.Decision.{Decision}
use Rattle.values.specs.declared.search.Decision.TheVariants.{NoErase, SectorErase}
use Rattle.values.specs.Search.{decision_of}
use Rattle.request.specs.Refusal.{standing_refusal}
use Rattle.request.proofs.Accepts.{Standing, standing}
use Rattle.job.specs.Loader.{turned, place_of, reads_cell, look_of, begin_of, carry_out, burn_of, decide_of, driven_of, seen_of, scanned_of, stage_of, in_job, turn_of}
use Rattle.job.specs.Loading.{loading, is_ending, loader_in_range, progress_in_range, job_in, loading_in_range}
use Rattle.job.specs.Loading.{load_turn, stops_with, taken, LoadTurned, load_turned, takes, first_turn, progress_of, load_turn_of}
use Rattle.job.proofs.InJob.{in-sector}
use Rattle.job.proofs.AcceptedJob.{erase-begins}
use Rattle.job.proofs.InRange.{out_of_range}

-- the state that a refused begin hands back is refused with 5, whatever image it is given
abbrev pub no_loading : Loading
no_loading = loading 0 0 0 false 0 Waiting

pub none-begun : (image seen : List ℕ) (read : ℕ) → load_turn_of no_loading image seen read ≡ load_turned seen (load_turn 5 no_loading None)
unfolding standing_refusal part_refusal is_interval
none-begun image seen read = out_of_range no_loading image seen read (λ e. omega (arith, e))

-- ---- turns that name a cycle
abbrev Goes : Turn → Type 0
Goes (Play l p c) = Unit {0}
Goes (Stop n) = ⊥

module _ (g : Loading) (S : Standing g.part g.first g.count g.wp g.p) (image : List ℕ) where
  abbrev j : Job
  j = job_in g

  some : 0 < j.size
  some = sector-some (row_of g.part).width

  erase-goes : (base : ℕ) → base + j.size ≤ j.count → Goes (begin_of j Erasing base 0 1 0)
  unfolding begin_of start_writing writing_of
  erase-goes base h =
      let a = place_of j base 0 in
      let z = erase-begins g.part a g.p S.known (omega (arith, S.range, some)) S.some S.most in
      let b = begun g.part 1 a 0 g.p in
      rw (start_is g.part 1 a 0 g.p z, goes b 0 (start-range g.part 1 a 0 g.p z)) tt

  decide-goes : (seen : List ℕ) (base : ℕ) → base + j.size ≤ j.count → Goes (decide_of j image seen base)
  unfolding decide_of look_of
  decide-goes seen base h = by (decision_of j.row.width (take j.size seen) (take j.size (drop base image)))
    where
      by : (d : Decision) → Goes (carry_out j base d)
      by NoErase = rw (lt-ltb 0 j.size some) tt
      by SectorErase = erase-goes base h

  -- a scan's reply is always followed by a cycle
  scan-goes : (seen : List ℕ) (base i : ℕ) → base + j.size ≤ j.count → Goes (scanned_of j image seen base i)
  unfolding scanned_of
  scan-goes seen base i h = split Goes (ltb (i + 1) j.size) (reads_cell j Scanning base (i + 1)) (decide_of j image seen base) (λ _. tt) (λ _. decide-goes seen base h)

  -- ---- as it came, unless it goes on or ends
  abbrev Same : List ℕ → LoadTurned → Type 0
  Same seen t = is_ending t.turn.answer ≡ false → t ≡ load_turned seen (load_turn t.turn.answer g None)

  goes_same : (seen seen' : List ℕ) (t : Turn) → Goes t → Same seen (load_turned seen' (taken g t))
  unfolding is_ending
  goes_same seen seen' (Play l p c) w f = apart (sym f)
  goes_same seen seen' (Stop n) w f = absurd w

  stop-same : (seen : List ℕ) (n : ℕ) → Same seen (load_turned seen (stops_with g n))
  unfolding stops_with
  stop-same seen n = by (is_ending n) refl
    where
      by : (b : Bool) → is_ending n ≡ b → Same seen (load_turned seen (pick b (load_turn n (loading g.part g.first g.count g.wp g.p (Over n)) None) (load_turn n g None)))
      by true e f = apart (sym f ∙ e)
      by false e f = refl

  taken-same : (seen : List ℕ) (t : Turn) → Same seen (load_turned seen (taken g t))
  taken-same seen (Play l p c) = goes_same seen seen (Play l p c) tt
  taken-same seen (Stop n) = stop-same seen n

  stage-same : (seen : List ℕ) (s : Stage) (base i read : ℕ) → base + j.size ≤ j.count
      → Same seen (takes g (turned (seen_of s seen i read) (stage_of j image (seen_of s seen i read) s base i read)))
  stage-same seen Scanning base i read h =
      let kept = seen_of Scanning seen i read in goes_same seen kept (scanned_of j image kept base i) (scan-goes kept base i h)
  stage-same seen Looking base i read h = taken-same seen (burn_of j image base i read)
  stage-same seen (Driving t d) base i read h = taken-same seen (driven_of j image t base i (step_of d read))

  within_same : (seen : List ℕ) (l : Loader) (read : ℕ) → loader_in_range j image l ≡ true → Same seen (takes g (turn_of j image seen l read))
  unfolding turn_of loader_in_range
  within_same seen l read r = let a = (both (in_job j l) _ r).0 in rw a (stage-same seen l.stage l.base l.at read (in-sector j l a).0)

  progress-same : (seen : List ℕ) (x : Progress) (read : ℕ) → progress_in_range j image x ≡ true → Same seen (progress_of g j image seen x read)
  progress-same seen Waiting read r = taken-same seen (first_turn j)
  progress-same seen (Within l) read r = within_same seen l read r
  progress-same seen (Over n) read r = stop-same seen n

-- A refusal, that is a number other than 0, 11 and 12, is given by a turn that hands back everything as it came.
pub as-it-came : (g : Loading) (image seen : List ℕ) (read : ℕ) → is_ending (load_turn_of g image seen read).turn.answer ≡ false
    → load_turn_of g image seen read ≡ load_turned seen (load_turn (load_turn_of g image seen read).turn.answer g None)
unfolding load_turn_of loading_in_range
as-it-came g image seen read = by (loading_in_range g image) refl
  where
    by : (b : Bool) → loading_in_range g image ≡ b
        → let t = pick b (progress_of g (job_in g) image seen g.progress read) (load_turned seen (load_turn 5 g None)) in
        is_ending t.turn.answer ≡ false → t ≡ load_turned seen (load_turn t.turn.answer g None)
    by true e =
        let a = both (eqb (standing_refusal g.part g.first g.count g.wp g.p) 0) _ e in
        let s = standing g.part g.first g.count g.wp g.p (eqb-true _ 0 a.0) in
        progress-same g s image seen g.progress read (both (eqb g.count (length image)) _ a.1).1
    by false e = λ f. refl
