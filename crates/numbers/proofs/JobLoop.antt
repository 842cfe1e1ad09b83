-- The C controller's loop over a job is the library loader's talk, as numbers.
use Rattle.std.specs.Prelude.{Some, None}
use Prim.Native.Nat.{ℕ, zero, suc}
use mathlib.Core.Path.{◌≡◌, refl, ap, ◌∙◌}
use mathlib.Core.List.{List, ◌∷◌}
use Rattle.device.specs.declared.cycle.Cycle.{Cycle}
use Rattle.device.specs.Cycle.{Chip, cycle_of}
use Rattle.device.specs.Trace.{after}
use Rattle.driver.specs.Talk.{shows}
use Rattle.bus.specs.Cycle.{device_numbers, device_of, cycled_numbers}
use Rattle.bus.proofs.Back.{level-back, device-back, cycle-of-device}
use Rattle.job.specs.declared.loading.Loading.{Loading}
use Rattle.job.specs.Loading.{Sending}
use Rattle.job.specs.Loading.{load_turn, LoadTurned, load_turned}
use Rattle.job.specs.Socket.{load_talk, load_heard}
use Rattle.numbers.specs.Machine.{next_of}
use Rattle.numbers.specs.Loading.{loading_numbers, sending_numbers, told_turned, turned_of}
use Rattle.numbers.specs.JobLoop.{turns_with, next_sent, JobLooped, job_looped, job_told_numbers, job_loop, JobAnswered, job_answered, job_heard_numbers, job_hearing}
use Rattle.numbers.proofs.Back.{turn-of-loading}
use Rattle.numbers.proofs.Names.{SendingBack, sending-back}

module _ (image : List ℕ) where
  abbrev turning : Loading → List ℕ → ℕ → LoadTurned
  turning = turns_with image

  -- ---- against the model
  abbrev Same : ℕ → ℕ → LoadTurned → Chip → Type 0
  Same part n t h = job_loop image part n (told_turned t) h.cells (device_numbers h.device) ≡ job_told_numbers (load_talk turning part n t h)

  -- once a cycle is sent
  goes_on : (part n : ℕ) → ((t : LoadTurned) → SendingBack t.turn → (h : Chip) → Same part n t h) → (g : Loading) (seen : List ℕ) (c : Cycle) (h : Chip)
      → let v = device_numbers h.device in let o = cycled_numbers v (cycle_of part h.cells (device_of v) c) in
      job_loop image part n (turned_of (loading_numbers g) image seen o.reply.value) o.cells o.reply.device
      ≡ job_told_numbers (load_talk turning part n (turning g seen (shows part h c)) (after part h c))
  unfolding after
  goes_on part n rest g seen c h =
      rw (device-back h.device, cycle-of-device part h.cells h.device c, turn-of-loading g image seen (shows part h c))
      (rest (turning g seen (shows part h c)) (sending-back g image seen (shows part h c)) (after part h c))

  pub job-loop-is-talk : (part n : ℕ) (t : LoadTurned) → SendingBack t.turn → (h : Chip)
      → job_loop image part n (told_turned t) h.cells (device_numbers h.device) ≡ job_told_numbers (load_talk (turns_with image) part n t h)
  unfolding job_loop load_talk
  job-loop-is-talk part zero t b h = refl
  job-loop-is-talk part (suc n) t b h = by (job-loop-is-talk part n) t.turn.next b
    where
      by : ((t : LoadTurned) → SendingBack t.turn → (h : Chip) → Same part n t h) → (x : Sending) → next_of (sending_numbers x) ≡ next_sent x
          → Same part (suc n) (load_turned t.seen (load_turn t.turn.answer t.turn.loading x)) h
      by rest None b = rw (b, job_loop)
      by rest (Some (p, c)) b =
          rw (b, level-back c.wp, job_loop)
          (ap (λ (u : JobLooped). job_looped (c ∷ u.cycles) u.cells u.device u.last) (goes_on part n rest t.turn.loading t.seen c h))

  -- ---- against any replies
  abbrev SameHeard : (ℕ → ℕ) → ℕ → LoadTurned → Type 0
  SameHeard f n t = job_hearing image f n (told_turned t) ≡ job_heard_numbers (load_heard turning f n t)

  pub job-hearing-is-heard : (f : ℕ → ℕ) (n : ℕ) (t : LoadTurned) → SendingBack t.turn
      → job_hearing image f n (told_turned t) ≡ job_heard_numbers (load_heard (turns_with image) f n t)
  unfolding job_hearing load_heard
  job-hearing-is-heard f zero t b = refl
  job-hearing-is-heard f (suc n) t b =
      let g = t.turn.loading in
      by (job-hearing-is-heard (λ i. f (suc i)) n (turning g t.seen (f 0)) (sending-back g image t.seen (f 0))) t.turn.next b
    where
      by : SameHeard (λ i. f (suc i)) n (turning t.turn.loading t.seen (f 0)) → (x : Sending) → next_of (sending_numbers x) ≡ next_sent x
          → SameHeard f (suc n) (load_turned t.seen (load_turn t.turn.answer t.turn.loading x))
      by rest None b = rw (b, job_hearing)
      by rest (Some (p, c)) b =
          rw (b, level-back c.wp, job_hearing)
          (ap (λ (u : JobAnswered). job_answered (c ∷ u.cycles) u.last)
          (ap (job_hearing image (λ i. f (suc i)) n) (turn-of-loading t.turn.loading image t.seen (f 0)) ∙ rest))
