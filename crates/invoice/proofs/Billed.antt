-- What `load` hands back of a job that is not refused: the range holds the image, no other cell has changed, and the bill follows document 01's formulas.
use Prim.Native.Nat.{ℕ, ◌+◌, ◌*◌, ◌≤◌}
use mathlib.Core.Path.{◌≡◌, refl, sym, ap, ◌∙◌}
use mathlib.Core.Bool.{Bool}
use mathlib.Core.Logic.{inl, inr}
use mathlib.Core.List.{List, [], map, append-nil}
use native.Mathlib.Nat.{zero-add}
use native.Mathlib.Omega.{arith}
use borrow.Author.Tests.{eq-eqb}
use lib.ListN.{length, take, length-map}
use Rattle.parts.specs.Table.{row_of}
use Rattle.parts.specs.Time.{time_of}
use Rattle.parts.proofs.Ranges.{sector-some}
use Rattle.device.specs.declared.state.Device.{Device}
use Rattle.device.specs.declared.cycle.Cycle.{Cycle}
use Rattle.device.specs.Device.{fresh_device}
use Rattle.device.specs.Cycle.{Chip, chip}
use Rattle.device.specs.Trace.{play, started_in}
use Rattle.driver.specs.Machine.{confirm_after}
use Rattle.driver.specs.Reads.{Scans, Polls, Confirms, Place, places_in, how_many}
use Rattle.device.proofs.Idle.{fresh-idle}
use Rattle.job.specs.declared.loader.Job.{Job}
use Rattle.job.specs.declared.run.Tally.{Tally}
use Rattle.request.specs.Refusal.{job_refusal}
use Rattle.job.specs.Run.{Sent, world, none_sent, play_of}
use Rattle.job.specs.Sent.{sent_of}
use Rattle.job.specs.Bill.{job_from, full_of, played, played_all, load_of, report_of}
use Rattle.job.specs.Formulas.{tally_of}
use Rattle.job.proofs.Accepts.{Passed, passed}
use Rattle.job.proofs.Counts.{play-tally, play-sent, job-fair, time-most}
use Rattle.invoice.specs.Started.{cycles_in, time_in, last_in, last_shown, table_time}
use Rattle.invoice.specs.Invoice.{started, places_sent, Invoice, Partly, Rival}
use Rattle.device.proofs.Started.{started-all}
use Rattle.invoice.proofs.ByKind.{only-those}
use Rattle.invoice.proofs.Placed.{placed_as, contents, map-take, places-take}
use Rattle.invoice.proofs.Apiece.{Counts, Apiece, apiece-take, apiece-counts, apiece-shows, told-last, no-last, shown-last}
use Rattle.invoice.proofs.Starts.{world-plays}
use Rattle.invoice.proofs.Image.{job-started}
use Rattle.invoice.proofs.Least.{held, cells_left, image-left, others-left, job-times, no_less}

module _ (part : ℕ) (cells : List ℕ) (first : ℕ) (image : List ℕ) (wp : Bool) (p : ℕ) (accepted : job_refusal part (length cells) first image wp p ≡ 0) where
  abbrev j : Job
  j = job_from part first (length image) wp p

  pub ok : Passed part (length cells) first image wp p
  ok = passed part (length cells) first image wp p accepted

  -- what is counted of cycles played from a fresh device on
  tally-of : (L : List Sent) → (play_of part (world cells none_sent) L).held.tally ≡ tally_of L
  tally-of L = play-tally part (world cells none_sent) L ∙ simp zero-add

  pub tally-is : (played_all part cells first image wp p).held.tally ≡ tally_of (sent_of j image cells)
  tally-is = tally-of (sent_of j image cells)

  -- the job's cycles are each what they are counted and told as
  each : Apiece part (world cells none_sent) (sent_of j image cells)
  each = (held j image ok.right cells ok.whole).apiece

  -- in their places the job's cycles are what their purposes say
  places : places_sent part cells first image wp p ≡ map placed_as (sent_of j image cells)
  places =
      let L = sent_of j image cells in
      ap (places_in part Scans (chip cells fresh_device)) (sym (append-nil (cycles_in L))) ∙ ((held j image ok.right cells ok.whole).placed [] ∙ append-nil (map placed_as L))

  pub invoice : Invoice part cells first image wp p (load_of part cells first image wp p)
  unfolding load_of full_of confirm_after
  invoice =
      let h = job-started j image ok.right cells ok.whole (sector-some (row_of part).width) in
      let f = job-fair j image ok.right cells ok.whole in
      let t = tally-is in
      let c = contents (sent_of j image cells) in
      let e = places in
      let q = cells_left j image ok.right cells ok.whole in
      let n = apiece-counts part (world cells none_sent) (sent_of j image cells) each in
      let v = apiece-shows part Scans (world cells none_sent) (sent_of j image cells) e each in
      rw (eq-eqb (job_refusal part (length cells) first image wp p) 0 accepted)
      (record {
        holds = rw q (image-left j image ok.right cells ok.whole);
        below = λ i l. rw q (others-left j image ok.right cells ok.whole i (inl l));
        above = λ i l. rw q (others-left j image ok.right cells ok.whole i (inr l));
        rests = h.ready.rest;
        played = ap (λ (h : Chip). h.cells) (world-plays part (world cells none_sent) (sent_of j image cells));
        only = rw t (only-those (row_of part) _ _ (started-all part (cycles_in (sent_of j image cells)) (chip cells fresh_device)) n);
        answer = refl;
        polls = rw t f.polls;
        spent = rw t (omega (arith, f.spent));
        confirms = rw t f.confirms;
        scans = rw t f.scans;
        saved = rw t (omega (arith, time-most j image ok.right cells ok.whole));
        sum = refl;
        erases = rw t n.erases;
        programs = rw t n.programs;
        blocks = n.blocks;
        chips = n.chips;
        polled = rw (t, e) c.polls;
        scanned = rw (t, e) c.scans;
        confirmed = rw (t, e) c.confirms;
        timed = rw t c.time;
        scans-show = rw t (omega (arith, c.scans, v.0));
        confirms-show = rw t (omega (arith, c.confirms, v.1));
      })

  -- a second call: the first k cycles
  pub partly : (k : ℕ) → Partly part cells first image wp p k (report_of part cells first image wp p k)
  unfolding report_of
  partly k =
      let L = sent_of j image cells in
      let w = world cells none_sent in
      let h = chip cells fresh_device in
      let a = apiece-take part w k L each in
      let n = apiece-counts part w (take k L) a in
      let c = contents (take k L) in
      let e = map-take Cycle (λ (s : Sent). s.cycle) k L in
      let q : map placed_as (take k L) ≡ places_in part Scans h (take k (cycles_in L)) = map-take Place placed_as k L ∙ (ap (take k) (sym places) ∙ sym (places-take part Scans h k (cycles_in L))) in
      let t = tally-of (take k L) in
      let os = started_in part h (take k (cycles_in L)) in
      let m : Counts (played part cells first image wp p k).held.tally os = rw (t, ← e) n in
      rw (eq-eqb (job_refusal part (length cells) first image wp p) 0 accepted)
      (record {
        played = ap (λ (h : Chip). h.cells) (world-plays part w (take k L)) ∙ ap (λ (cs : List Cycle). (play part h cs).cells) e;
        last = told-last part cells (take k L) a ∙ ap last_in e;
        zeros = λ z. no-last part cells (take k L) (e ∙ z);
        reply = shown-last part cells (take k L) ∙ ap (last_shown part h) e;
        erases = m.erases;
        programs = m.programs;
        only = only-those (row_of part) _ os (started-all part (take k (cycles_in L)) h) m;
        polled = ap (λ (t : Tally). t.polls) t ∙ (c.polls ∙ ap (how_many Polls) q);
        scanned = ap (λ (t : Tally). t.scans) t ∙ (c.scans ∙ ap (how_many Scans) q);
        confirmed = ap (λ (t : Tally). t.confirms) t ∙ (c.confirms ∙ ap (how_many Confirms) q);
        timed = ap (λ (t : Tally). t.time) t ∙ (c.time ∙ ap time_in e);
        sent = play-sent part w (take k L) ∙ (zero-add (length (take k L)) ∙ (sym (length-map (take k L) (λ (s : Sent). s.cycle)) ∙ ap length e));
        answer = refl;
      })

  -- no list of bus cycles that also loads the image starts operations whose table times add up to less than those of the operations that the job starts
  pub least : (d : Device) (cs : List Cycle) → Rival part cells first image d cs
      → table_time (row_of part) (started part cells first image wp p) ≤ table_time (row_of part) (started_in part (chip cells d) cs)
  least d cs v =
      rw (held j image ok.right cells ok.whole).begun
      (no_less j image ok.right cells ok.whole d cs v.begins v.uncut v.blocks v.chips v.ends v.holds)

  -- the job's own cycles are such a list
  pub job-rivals : Rival part cells first image fresh_device (cycles_in (sent_of j image cells))
  job-rivals =
      let n = apiece-counts part (world cells none_sent) (sent_of j image cells) each in
      let h = job-started j image ok.right cells ok.whole (sector-some (row_of part).width) in
      let e = world-plays part (world cells none_sent) (sent_of j image cells) in
      record {
        begins = fresh-idle;
        uncut = h.starts.whole;
        blocks = n.blocks;
        chips = n.chips;
        ends = rw (← e, h.ready.rest) fresh-idle;
        holds = rw (← e) (rw (cells_left j image ok.right cells ok.whole) (image-left j image ok.right cells ok.whole));
      }

  -- and those table times are of the bill's erases and programs
  pub table-time : table_time (row_of part) (started part cells first image wp p)
      ≡ (load_of part cells first image wp p).bill.erases * time_of (row_of part) 1 + (load_of part cells first image wp p).bill.programs * time_of (row_of part) 0
  unfolding load_of
  table-time =
      rw ((held j image ok.right cells ok.whole).begun, eq-eqb (job_refusal part (length cells) first image wp p) 0 accepted, tally-is)
      (job-times j image ok.right cells ok.whole)
