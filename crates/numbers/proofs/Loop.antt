-- The C controller's loop is the driver's talk, as numbers.
use Rattle.std.specs.Prelude.{Some, None}
use Prim.Native.Nat.{ℕ, zero, suc}
use mathlib.Core.Path.{◌≡◌, refl, ap, ◌∙◌}
use mathlib.Core.List.{◌∷◌}
use Rattle.device.specs.declared.cycle.Action.{Action}
use Rattle.device.specs.Cycle.{Chip, cycle}
use Rattle.device.specs.Trace.{after}
use Rattle.driver.specs.declared.machine.Driver.{Driver}
use Rattle.driver.specs.Machine.{Next}
use Rattle.driver.specs.declared.machine.Step.{Step}
use Rattle.driver.specs.Machine.{step_of}
use Rattle.driver.specs.Talk.{shows, talk, heard}
use Rattle.bus.specs.Cycle.{high, device_numbers, cycled_of}
use Rattle.bus.proofs.Back.{device-back, cycle-of-device}
use Rattle.numbers.specs.Machine.{driver_numbers, step_numbers, stepped_of}
use Rattle.numbers.specs.Loop.{Looped, looped, told_numbers, loop, Answered, answered, heard_numbers, loop_hearing}
use Rattle.numbers.proofs.Back.{NextBack, step-of-driver, next-back}

module _ (wp : ℕ) where
  -- ---- against the model
  abbrev Same : ℕ → ℕ → Step → Chip → Type 0
  Same part n s h = loop part wp n (step_numbers s) h.cells (device_numbers h.device) ≡ told_numbers (talk step_of part (high wp) n s h)

  -- once a cycle is sent
  goes_on : (part n : ℕ) → ((s : Step) → NextBack s → (h : Chip) → Same part n s h) → (d : Driver) (e : ℕ) (a : Action) (h : Chip)
      → let v = device_numbers h.device in let o = cycled_of part h.cells v e wp a in let c = cycle e (high wp) a in
      loop part wp n (stepped_of (driver_numbers d) o.reply.value) o.cells o.reply.device
      ≡ told_numbers (talk step_of part (high wp) n (step_of d (shows part h c)) (after part h c))
  unfolding after
  goes_on part n rest d e a h =
      let c = cycle e (high wp) a in
      rw (device-back h.device, cycle-of-device part h.cells h.device c, step-of-driver d (shows part h c))
      (rest (step_of d (shows part h c)) (next-back d (shows part h c)) (after part h c))

  pub loop-is-talk : (part n : ℕ) (s : Step) → NextBack s → (h : Chip)
      → loop part wp n (step_numbers s) h.cells (device_numbers h.device) ≡ told_numbers (talk step_of part (high wp) n s h)
  unfolding loop talk
  loop-is-talk part zero s b h = refl
  loop-is-talk part (suc n) s b h = by (loop-is-talk part n) s.next refl
    where
      by : ((s : Step) → NextBack s → (h : Chip) → Same part n s h) → (x : Next) → s.next ≡ x → Same part (suc n) s h
      by rest None q = rw (b ∙ q, q, loop, talk) (rw q)
      by rest (Some (e, a)) q =
          rw (b ∙ q, q, loop, talk)
          (ap (λ (t : Looped). looped (cycle e (high wp) a ∷ t.cycles) t.cells t.device t.last) (goes_on part n rest s.driver e a h))

  -- ---- against any replies
  abbrev SameHeard : (ℕ → ℕ) → ℕ → Step → Type 0
  SameHeard f n s = loop_hearing wp f n (step_numbers s) ≡ heard_numbers (heard step_of (high wp) f n s)

  pub hearing-is-heard : (f : ℕ → ℕ) (n : ℕ) (s : Step) → NextBack s → loop_hearing wp f n (step_numbers s) ≡ heard_numbers (heard step_of (high wp) f n s)
  unfolding loop_hearing heard
  hearing-is-heard f zero s b = refl
  hearing-is-heard f (suc n) s b = by (hearing-is-heard (λ i. f (suc i)) n (step_of s.driver (f 0)) (next-back s.driver (f 0))) s.next refl
    where
      by : SameHeard (λ i. f (suc i)) n (step_of s.driver (f 0)) → (x : Next) → s.next ≡ x → SameHeard f (suc n) s
      by rest None q = rw (b ∙ q, q, loop_hearing, heard) (rw q)
      by rest (Some (e, a)) q =
          rw (b ∙ q, q, loop_hearing, heard)
          (ap (λ (t : Answered). answered (cycle e (high wp) a ∷ t.cycles) t.last)
          (ap (loop_hearing wp (λ i. f (suc i)) n) (step-of-driver s.driver (f 0)) ∙ rest))
