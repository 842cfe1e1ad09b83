-- The exported loader on a bus, once begun: against the model of the chip it sends the one list and leaves what the job leaves; against any replies it ends.
use Rattle.std.specs.Prelude.{None}
use Prim.Native.Nat.{ℕ, zero, suc, zero-le, suc-le-suc, ◌+◌, ◌-◌, ◌*◌, ◌/◌, ◌≤◌}
use mathlib.Core.Path.{◌≡◌, refl, sym, ap, ◌∙◌}
use mathlib.Core.Bool.{Bool, true}
use mathlib.Core.List.{List, []}
use native.Mathlib.Nat.{le_trans, le_refl, le_of_suc-le-suc, not-suc-le-zero, zero-mod}
use native.Mathlib.Omega.{arith}
use lib.ListN.{length, take}
use lib.Seq.{take_all}
use Rattle.parts.specs.Width.{sector_size}
use Rattle.parts.specs.Table.{row_of}
use Rattle.parts.proofs.Ranges.{sector-some}
use Rattle.device.specs.declared.cycle.Cycle.{Cycle}
use Rattle.device.specs.Device.{fresh_device}
use Rattle.device.specs.Cycle.{Chip, chip}
use Rattle.device.specs.Trace.{after}
use Rattle.driver.specs.Machine.{most_polls}
use Rattle.driver.specs.Talk.{shows}
use Rattle.job.specs.declared.loader.Job.{Job}
use Rattle.job.specs.declared.loader.Loader.{Loader}
use Rattle.job.specs.declared.loader.Purpose.{Purpose}
use Rattle.job.specs.declared.loader.Turn.{Turn}
use Rattle.job.specs.declared.loader.Turn.TheVariants.{Play, Stop}
use Rattle.job.specs.declared.loading.Progress.{Progress}
use Rattle.job.specs.declared.loading.Progress.TheVariants.{Waiting, Within, Over}
use Rattle.job.specs.declared.loading.Loading.{Loading}
use Rattle.request.specs.Refusal.{begin_refusal}
use Rattle.request.proofs.Accepts.{none-stands, not-refused}
use Rattle.job.specs.Loader.{Turned, turned, next_sector, turn_of}
use Rattle.job.specs.Run.{Sent, sent, World, world, none_sent, send_of, play_of, run_of}
use Rattle.job.specs.Sent.{sent_of}
use Rattle.job.specs.Bill.{job_from, played, load_of}
use Rattle.job.specs.Loading.{loading, begin_load, is_ending, progress_in_range, load_turn, stops_with, taken, LoadTurned, load_turned, takes, progress_of, load_turn_of}
use Rattle.job.specs.Socket.{LoadTold, load_told, told_after, load_talk, LoadHeard, load_heard_of, heard_after, load_heard, HasLoaded, operation_most, cycles_most, AllAllowed, HasEnded}
use Rattle.job.proofs.AcceptedJob.{AcceptedJob}
use Rattle.job.proofs.Accepts.{accepted-job, sector-most}
use Rattle.job.proofs.InRange.{turns-job, goes_by}
use Rattle.job.proofs.Falls.{operation_left, sector_left, sectors_left, loader_left, InOrder, Fine, next-fine, turn-fine}
use Rattle.job.proofs.Rest.{chip_of, pass_of, Rest}
use Rattle.job.proofs.Runs.{all_rest}

module _ (part first : ℕ) (image : List ℕ) (wp : Bool) (p : ℕ) (begun : begin_refusal part first image wp p ≡ 0) (T : Loading → List ℕ → ℕ → LoadTurned)
    (keeps : (g : Loading) (seen : List ℕ) (read : ℕ) → T g seen read ≡ load_turn_of g image seen read) where
  abbrev j : Job
  j = job_from part first (length image) wp p

  R : AcceptedJob j image
  R = accepted-job part first image wp p begun

  abbrev state : Progress → Loading
  state x = loading part first (length image) wp p x

  -- ---- a turn of a state in range
  in-range : (x : Progress) (seen : List ℕ) (read : ℕ) → progress_in_range j image x ≡ true → T (state x) seen read ≡ progress_of (state x) j image seen x read
  in-range x seen read h =
      keeps (state x) seen read
      ∙ (turns-job (state x) image seen read (none-stands part first image wp p begun).0 refl ∙ goes_by (state x) j image seen read x refl h)

  -- the end is the same from every state of the job
  stops : (x : Progress) (n : ℕ) → is_ending n ≡ true → stops_with (state x) n ≡ load_turn n (state (Over n)) None
  unfolding stops_with
  stops x n e = rw e

  abbrev Fit : ℕ → Turn → Type 0
  Fit m t = Fine j image R m t

  same : (x : Progress) (m : ℕ) (t : Turn) → Fit m t → taken (state x) t ≡ taken (state Waiting) t
  same x m (Play l q c) f = refl
  same x m (Stop n) f = stops x n f ∙ sym (stops Waiting n f)

  -- what is handed back at a turn of the loader
  abbrev shown : Turned → LoadTurned
  shown t = takes (state Waiting) t

  pub first-turn : (seen : List ℕ) (read : ℕ) → T (begin_load part first image wp p).loading seen read ≡ shown (turned seen (next_sector j 0))
  unfolding begin_load
  first-turn seen read = rw begun (in-range Waiting seen read refl)

  next-turn : (l : Loader) (seen : List ℕ) (read : ℕ) → InOrder j image R l → T (state (Within l)) seen read ≡ shown (turn_of j image seen l read)
  next-turn l seen read s =
      in-range (Within l) seen read s.range
      ∙ ap (load_turned (turn_of j image seen l read).seen) (same (Within l) (loader_left j image R l) (turn_of j image seen l read).turn (turn-fine j image R l seen read s))

  last_turn : (n : ℕ) (seen : List ℕ) (read : ℕ) → is_ending n ≡ true → T (state (Over n)) seen read ≡ load_turned seen (load_turn n (state (Over n)) None)
  last_turn n seen read e = in-range (Over n) seen read e ∙ ap (load_turned seen) (stops (Over n) n e)

  -- ---- against any replies
  pub record Closed (m n : ℕ) (h : LoadHeard) : Type 0 where
    pub few : length h.sent ≤ m
    pub allowed : AllAllowed j image h.sent
    pub names-nothing : m ≤ n → h.last.turn.next ≡ None
    pub numbered : m ≤ n → is_ending h.last.turn.answer ≡ true
    pub repeated : m ≤ n → (seen : List ℕ) (read : ℕ) → T h.last.turn.loading seen read ≡ load_turned seen h.last.turn

  closed-end : (m n k : ℕ) (seen : List ℕ) → is_ending k ≡ true → Closed m n (load_heard_of [] (shown (turned seen (Stop k))))
  closed-end m n k seen e =
      rw (stops Waiting k e)
      (record { few = zero-le; allowed = tt; names-nothing = λ _. refl; numbered = λ _. e; repeated = λ _ s r. last_turn k s r e })

  heard-stops : (f : ℕ → ℕ) (n k : ℕ) (seen : List ℕ) → is_ending k ≡ true → load_heard T f (suc n) (shown (turned seen (Stop k))) ≡ load_heard_of [] (shown (turned seen (Stop k)))
  unfolding load_heard
  heard-stops f n k seen e = rw (stops Waiting k e)

  heard-closed : (n : ℕ) (f : ℕ → ℕ) (m : ℕ) (seen : List ℕ) (x : Turn) → Fit m x → Closed m n (load_heard T f n (shown (turned seen x)))
  unfolding load_heard
  heard-closed zero f m seen (Stop k) e = closed-end m 0 k seen e
  heard-closed zero f m seen (Play l q c) e =
      let no : m ≤ 0 → ⊥ = λ h. not-suc-le-zero (le_trans e.1.0 h) in
      record { few = zero-le; allowed = tt; names-nothing = λ h. absurd (no h); numbered = λ h. absurd (no h); repeated = λ h. absurd (no h) }
  heard-closed (suc n) f m seen (Stop k) e = rw (heard-stops f n k seen e) (closed-end m (suc n) k seen e)
  heard-closed (suc n) f m seen (Play l q c) e =
      go (heard-closed n (λ i. f (suc i)) (loader_left j image R l) (turn_of j image seen l (f 0)).seen (turn_of j image seen l (f 0)).turn (turn-fine j image R l seen (f 0) e.0))
    where
      go : Closed (loader_left j image R l) n (load_heard T (λ i. f (suc i)) n (shown (turn_of j image seen l (f 0))))
          → Closed m (suc n) (heard_after (sent q c) (load_heard T (λ i. f (suc i)) n (T (state (Within l)) seen (f 0))))
      go h =
          let up : m ≤ suc n → loader_left j image R l ≤ n = λ g. le_of_suc-le-suc (le_trans e.1.0 g) in
          rw (next-turn l seen (f 0) e.0)
          (record {
            few = le_trans (suc-le-suc h.few) e.1.0;
            allowed = (e.1.1.0, (e.1.1.1, h.allowed));
            names-nothing = λ g. h.names-nothing (up g);
            numbered = λ g. h.numbered (up g);
            repeated = λ g. h.repeated (up g);
          })

  most-is : sectors_left j image R 0 ≡ cycles_most j
  unfolding most_polls
  most-is =
      let z : length image - 0 ≡ length image = omega arith in
      let s = sector_size (row_of part).width in
      ap (λ (n : ℕ). n / s * sector_left j image R) z ∙ ap (λ (n : ℕ). length image / s * n) (sums s _ _ _ _ (each 1) (each 0))
    where
      each : (command : ℕ) → operation_left j image R command ≡ operation_most j command
      each command = omega arith

      sums : (s e e' o o' : ℕ) → e ≡ e' → o ≡ o' → s + (s + (e + s * o)) ≡ s * 2 + e' + s * o'
      sums s e e' o o' q r = rw (q, r) (omega arith)

  -- Whatever is replied, it has ended after so many cycles.
  pub ends-whatever : (f : ℕ → ℕ) (seen : List ℕ) (read n : ℕ) → cycles_most j ≤ n → HasEnded T j image (load_heard T f n (T (begin_load part first image wp p).loading seen read))
  ends-whatever f seen read n h =
      let s = next_sector j 0 in
      let c : Closed (cycles_most j) n (load_heard T f n (shown (turned seen s))) = heard-closed n f (cycles_most j) seen s (rw most-is at (next-fine j image R 0 (zero-mod j.size))) in
      rw (first-turn seen read)
      (record { names-nothing = c.names-nothing h; numbered = c.numbered h; cycles-few = c.few; allowed = c.allowed; repeated = c.repeated h })

  -- ---- against the model
  -- a talk is a run of the loader
  abbrev ran : ℕ → World → Turned → LoadTold
  ran n w t = load_told (pass_of j image n t w).sent (chip_of (run_of j image n t w)) (shown (pass_of j image n t w).turn)

  talk-stops : (n k : ℕ) (seen : List ℕ) (h : Chip) → is_ending k ≡ true → load_talk T part (suc n) (shown (turned seen (Stop k))) h ≡ load_told [] h (shown (turned seen (Stop k)))
  unfolding load_talk
  talk-stops n k seen h e = rw (stops Waiting k e)

  -- the turn after a cycle that was sent to the chip of a world
  abbrev turn_after : World → Loader → Purpose → Cycle → List ℕ → Turned
  turn_after w l q c seen = turn_of j image seen l (send_of part w q c).held.reply

  talk-more : (n : ℕ) (w : World) (l : Loader) (q : Purpose) (c : Cycle) (seen : List ℕ) → InOrder j image R l
      → load_talk T part n (shown (turn_after w l q c seen)) (chip_of (send_of part w q c)) ≡ ran n (send_of part w q c) (turn_after w l q c seen)
      → load_talk T part n (T (state (Within l)) seen (shows part (chip_of w) c)) (after part (chip_of w) c) ≡ ran n (send_of part w q c) (turn_after w l q c seen)
  unfolding send_of after
  talk-more n w l q c seen s h =
      ap (λ (u : LoadTurned). load_talk T part n u (chip_of (send_of part w q c))) (next-turn l seen (send_of part w q c).held.reply s) ∙ h

  talk-is : (n : ℕ) (w : World) (m : ℕ) (seen : List ℕ) (x : Turn) → Fit m x → load_talk T part n (shown (turned seen x)) (chip_of w) ≡ ran n w (turned seen x)
  unfolding load_talk
  talk-is zero w m seen x e = refl
  talk-is (suc n) w m seen (Stop k) e = talk-stops n k seen (chip_of w) e
  talk-is (suc n) w m seen (Play l q c) e =
      ap (told_after (sent q c))
      (talk-more n w l q c seen e.0
      (talk-is n (send_of part w q c) (loader_left j image R l) (turn_after w l q c seen).seen (turn_after w l q c seen).turn
      (turn-fine j image R l seen (send_of part w q c).held.reply e.0)))

  -- no more cycles are sent than are left
  few-passed : (n : ℕ) (w : World) (m : ℕ) (seen : List ℕ) (x : Turn) → Fit m x → length (pass_of j image n (turned seen x) w).sent ≤ m
  few-passed zero w m seen x e = zero-le
  few-passed (suc n) w m seen (Stop k) e = zero-le
  few-passed (suc n) w m seen (Play l q c) e =
      le_trans
      (suc-le-suc (few-passed n (send_of part w q c) (loader_left j image R l) (turn_after w l q c seen).seen (turn_after w l q c seen).turn
      (turn-fine j image R l seen (send_of part w q c).held.reply e.0)))
      e.1.0

  -- on a fresh device and the part's number of cells
  module _ (cells : List ℕ) (whole : length cells ≡ (row_of part).cells) (seen : List ℕ) (long : length seen ≡ 4096) (read : ℕ) where
    abbrev talked : ℕ → LoadTold
    talked n = load_talk T part n (T (begin_load part first image wp p).loading seen read) (chip cells fresh_device)

    begins-talk : (n : ℕ) → talked n ≡ ran n (world cells none_sent) (turned seen (next_sector j 0))
    begins-talk n =
        ap (λ (t : LoadTurned). load_talk T part n t (chip cells fresh_device)) (first-turn seen read)
        ∙ talk-is n (world cells none_sent) (sectors_left j image R 0) seen (next_sector j 0) (next-fine j image R 0 (zero-mod j.size))

    the_rest : Rest j image (turned seen (next_sector j 0)) (world cells none_sent) (sent_of j image cells)
    the_rest = all_rest j image R cells whole (sector-some (row_of part).width) (sector-most (row_of part).width) seen long

    -- the cycles sent are the first n of the one list
    pub sends-first : (n : ℕ) → (talked n).sent ≡ take n (sent_of j image cells)
    unfolding Rest
    sends-first n = ap (λ (t : LoadTold). t.sent) (begins-talk n) ∙ (the_rest n).1.1.0

    -- the chip is left as these cycles leave it
    pub leaves-played : (n : ℕ) → (talked n).chip ≡ chip_of (played part cells first image wp p n)
    unfolding Rest
    leaves-played n = ap (λ (t : LoadTold). t.chip) (begins-talk n) ∙ ap chip_of (the_rest n).0

    -- the one list is no longer than any talk
    few-sent : length (sent_of j image cells) ≤ cycles_most j
    unfolding Rest
    few-sent =
        let L = sent_of j image cells in
        let e : take (length L) L ≡ (pass_of j image (length L) (turned seen (next_sector j 0)) (world cells none_sent)).sent = sym (the_rest (length L)).1.1.0 in
        rw (← take_all (length L) L (le_refl (length L)), e, ← most-is)
        (few-passed (length L) (world cells none_sent) (sectors_left j image R 0) seen (next_sector j 0) (next-fine j image R 0 (zero-mod j.size)))

    -- Once all are sent, it has loaded.
    pub loads-list : (n : ℕ) → cycles_most j ≤ n → HasLoaded part cells first image wp p (talked n)
    unfolding Rest is_ending load_of
    loads-list n h =
        let few : length (sent_of j image cells) ≤ n = le_trans few-sent h in
        let all : take n (sent_of j image cells) ≡ sent_of j image cells = take_all n (sent_of j image cells) few in
        record {
          sends = sends-first n ∙ all;
          leaves =
              rw (not-refused part first image wp p begun (length cells) whole)
              (ap (λ (h : Chip). h.cells) (leaves-played n) ∙ ap (λ (L : List Sent). (play_of part (world cells none_sent) L).cells) all);
          ends = ap (λ (t : LoadTold). t.last.turn) (begins-talk n) ∙ (ap (taken (state Waiting)) ((the_rest n).1.1.1 few) ∙ stops Waiting 0 refl);
        }
