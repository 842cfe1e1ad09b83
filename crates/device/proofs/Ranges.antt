-- The model's own states are in range: refusal 5 never arises from them. And no cell is gained or lost.
use Prim.Native.Nat.{ℕ, ◌≤◌, ◌<◌}
use mathlib.Core.Path.{◌≡◌, refl, ◌∙◌}
use mathlib.Core.Bool.{Bool, true, false, not}
use mathlib.Core.List.{List, [], ◌∷◌}
use native.Mathlib.Nat.{le_refl}
use lib.Dec.{eqb}
use lib.ListN.{length}
use Rattle.parts.specs.Width.{fits_in}
use Rattle.parts.specs.Table.{row_of}
use Rattle.parts.specs.Time.{has_command}
use Rattle.parts.specs.declared.table.Row.{Row}
use Rattle.parts.proofs.Every.{both, split}
use Rattle.commands.specs.declared.effect.Mode.{Mode}
use Rattle.commands.specs.declared.effect.Mode.TheVariants.{ReadMode}
use Rattle.device.specs.declared.state.Core.{Core}
use Rattle.device.specs.declared.state.Operation.{Operation}
use Rattle.device.specs.declared.state.Device.{Device}
use Rattle.commands.specs.declared.effect.Effect.{Effect}
use Rattle.commands.specs.declared.effect.Effect.TheVariants.{Goes, Starts, Enters}
use Rattle.device.specs.declared.cycle.Action.{Action}
use Rattle.device.specs.declared.cycle.Action.TheVariants.{Read, Write, Idle, Cut}
use Rattle.device.specs.declared.cycle.Cycle.{Cycle}
use Rattle.device.specs.declared.cycle.Shown.{Shown}
use Rattle.device.specs.Device.{toggled, in_mode, with_running, busy_with, suspend, resume, fresh_core, busy, held, device, with_core, suspendable, barred, valid_operation, valid_suspended, core_in_range, stage_in_range, device_in_range}
use Rattle.device.specs.Sequence.{new_operation, suspending, resuming, after_effect, written_of}
use Rattle.device.specs.Cycle.{Chip, Outcome, tells, turned_by, veils, read_of, cut_short, cut_of, action_refusal, cycle_refusal, after_time, acted_of, accepted_of, cycle_of}
use Rattle.device.specs.Trace.{after, play}
use Rattle.device.proofs.Accepted.{Accepted, Ranged, ranged, core-range, valid-from, runs-on-valid, held-valid, valid-range, rests-range, rest-range, in-range, ranges, stage-none, stage-rests, write-there}
use Rattle.device.proofs.Settled.{settled-length, runs-on-range, after-time-range, cut-length}
use Rattle.commands.proofs.Effects.{effect_is}
use Rattle.device.proofs.Sampled.{sampled, heeded}
use Rattle.device.proofs.Cases.{accepted-cycle}

-- ---- a state in range stays so
module _ (r : Row) (d : Device) (i : device_in_range r d ≡ true) where
  abbrev InRange : Device → Type 0
  InRange d = device_in_range r d ≡ true

  w : (stage_in_range d.core d.stage ≡ true) × (core_in_range r d.core ≡ true)
  w = ranges r d i

  v : Ranged r d.core
  v = ranged r d.core w.1

  read-range : (cells : List ℕ) (a : ℕ) → InRange (with_core d (read_of r cells d.core a).core)
  unfolding read_of stage_in_range
  read-range cells a =
      split (λ (s : Shown). InRange (with_core d s.core)) (busy k) _ _
      (λ b. let n = turned_by (with_running k (toggled k.running)) (tells r k.running a) in
      in-range r n d.stage w.0 (core-range r n (runs-on-range r k k.running.left (not k.running.toggle) n.turned v b (le_refl _))))
      (λ b. let n = turned_by k (veils r k a) in in-range r n d.stage w.0 (rests-range r n b v.holds))
    where
      k : Core
      k = d.core

  written-range : (wp : Bool) (a x : ℕ) → a < r.cells → fits_in r.width x ≡ true → InRange (written_of r d wp a x)
  unfolding written_of valid_suspended barred valid_operation
  written-range wp a x there fits =
      split InRange (busy k) _ _
      (λ b. split InRange (suspending r k x) (device (suspend k) 0) d (λ s. suspends b (both (suspendable r k.running.kind) _ s).0) (λ _. i))
      (λ b. split InRange (resuming k d.stage x) (device (resume k) 0) _ (λ s. resumes (both (held k) _ s).0)
      (λ _. effect_is Leaves r d.stage a x (goes b) (starts b) (enters b)))
    where
      k : Core
      k = d.core

      Leaves : Effect → Type 0
      Leaves e = InRange (after_effect r k wp a x e)

      suspends : busy k ≡ true → suspendable r k.running.kind ≡ true → InRange (device (suspend k) 0)
      suspends b s = in-range r (suspend k) 0 (stage-none (suspend k)) (rests-range r (suspend k) refl (λ _. rw s (runs-on-valid r k (v.runs b))))

      resumes : held k ≡ true → InRange (device (resume k) 0)
      resumes h =
          in-range r (resume k) 0 (stage-none (resume k))
          (valid-range r (resume k) refl (valid-from r (resume k) refl refl refl (held-valid r k.suspended (v.holds h)).1))

      goes : busy k ≡ false → (n : ℕ) → n ≤ 6 → Leaves (Goes n)
      goes b n le = in-range r k n (stage-rests k n b le) w.1

      enters : busy k ≡ false → (m : Mode) → Leaves (Enters m)
      enters b m = in-range r (in_mode k m) 0 (stage-none (in_mode k m)) (rests-range r (in_mode k m) b v.holds)

      starts : busy k ≡ false → (c : ℕ) → has_command r c ≡ true → Leaves (Starts c)
      starts b c h =
          sampled (λ (k : Core) (ops : List Operation). InRange (device k 0)) r k wp a x c (λ _. enters b ReadMode)
          (λ p. let n = busy_with k (new_operation r c a x) in
          in-range r n 0 (stage-none n)
          (core-range r n
          (record {
            runs = λ _. record { command = h; time = le_refl _; there = there; fits = fits; mode = refl; old = refl; free = (heeded r k wp c a p).0 };
            holds = v.holds;
          })))

acted-range : (r : Row) (h : Chip) (wp : Bool) (a : Action) → device_in_range r h.device ≡ true → action_refusal r a ≡ 0 → device_in_range r (acted_of r h wp a).reply.device ≡ true
acted-range r h wp (Read a) i z = read-range r h.device i h.cells a
acted-range r h wp (Write a x) i z = let w = write-there r a x z in written-range r h.device i wp a x w.0 w.1
acted-range r h wp Idle i z = i
acted-range r h wp (Cut s) i z = in-range r fresh_core 0 (stage-none fresh_core) (rest-range r fresh_core refl refl)

-- the state after an accepted cycle is in range
pub after-range : (part : ℕ) (h : Chip) (c : Cycle) → Accepted part (length h.cells) h.device c.action → device_in_range (row_of part) (after part h c).device ≡ true
unfolding after accepted_of
after-range part h c w =
    rw (accepted-cycle part h.cells h.device c w)
    (acted-range (row_of part) (after_time (row_of part) h c.elapsed) c.wp c.action (after-time-range (row_of part) h c.elapsed w.state) w.reach)

-- ---- no cell is gained or lost
acted-length : (r : Row) (h : Chip) (wp : Bool) (a : Action) → length (acted_of r h wp a).cells ≡ length h.cells
unfolding cut_of
acted-length r h wp (Read a) = refl
acted-length r h wp (Write a x) = refl
acted-length r h wp Idle = refl
acted-length r h wp (Cut s) =
    let k = h.device.core in
    cut-length r k.suspended s (cut_short r k.running s h.cells) ∙ cut-length r k.running s h.cells

pub after-length : (part : ℕ) (h : Chip) (c : Cycle) → length (after part h c).cells ≡ length h.cells
unfolding after cycle_of accepted_of
after-length part h c =
    split (λ (o : Outcome). length o.cells ≡ length h.cells) (eqb (cycle_refusal part (length h.cells) h.device c.action) 0) _ _
    (λ _. acted-length (row_of part) (after_time (row_of part) h c.elapsed) c.wp c.action ∙ settled-length (row_of part) h.cells h.device.core c.elapsed) (λ _. refl)

pub play-length : (part : ℕ) (cs : List Cycle) (h : Chip) → length (play part h cs).cells ≡ length h.cells
play-length part [] h = refl
play-length part (c ∷ cs) h = play-length part cs (after part h c) ∙ after-length part h c
