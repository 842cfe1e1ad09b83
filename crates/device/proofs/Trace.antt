-- The trace law: without a cut, a list of bus cycles leaves what the operations that it starts leave, performed in order; suspending and resuming change
-- nothing of that.
use Prim.Native.Nat.{ℕ, ◌-◌, ◌<◌}
use mathlib.Core.Path.{◌≡◌, refl, sym, ap, ◌∙◌}
use mathlib.Core.Bool.{Bool, true, false}
use mathlib.Core.List.{List, [], ◌∷◌, ◌++◌}
use native.Mathlib.Omega.{arith}
use borrow.Author.Tests.{ltb-true, ltb-false, lt-ltb, eqb-true}
use lib.Dec.{eqb, ltb}
use lib.ListN.{length}
use Rattle.parts.specs.Pick.{pick}
use Rattle.parts.specs.Table.{row_of, part_refusal}
use Rattle.parts.specs.Time.{has_command, time_of}
use Rattle.parts.specs.declared.table.Row.{Row}
use Rattle.parts.proofs.Every.{apart, both, unless, split}
use Rattle.parts.proofs.Sound.{time-some}
use Rattle.device.specs.declared.state.Operation.{Operation}
use Rattle.device.specs.declared.state.Core.{Core}
use Rattle.device.specs.declared.state.Device.{Device}
use Rattle.commands.specs.declared.effect.Effect.{Effect}
use Rattle.device.specs.declared.cycle.Action.{Action}
use Rattle.device.specs.declared.cycle.Action.TheVariants.{Read, Write, Idle, Cut}
use Rattle.device.specs.declared.cycle.Cycle.{Cycle}
use Rattle.device.specs.declared.cycle.Shown.{Shown}
use Rattle.device.specs.Device.{busy_with, suspend, resume, busy, held, barred, device, with_core, idle}
use Rattle.device.specs.Recent.{later}
use Rattle.device.specs.Operation.{cells_of, complete_on}
use Rattle.device.specs.Sequence.{new_operation, suspending, resuming, after_effect, written_of}
use Rattle.device.specs.Cycle.{Chip, chip, Outcome, Settled, settled_of, after_time, read_of, acted_of, cycle_refusal, accepted_of, cycle_of}
use Rattle.device.specs.Trace.{leaves, after, play, effect_starts, action_starts, started_by, started_in, complete_all, coming, uncut_action, uncut}
use Rattle.device.proofs.Accepted.{Accepted, accepted, Ranged, ranged, ranges}
use Rattle.device.proofs.Idle.{idle-is, idle-rests, idle-free, idle-later}
use Rattle.device.proofs.Settled.{after-time-range}
use Rattle.device.proofs.Sampled.{twice, sampled, heeded}
use Rattle.device.proofs.Apart.{beside, alone, commutes}
use Rattle.commands.proofs.Effects.{effect_is}

-- every command takes some time
pub timely : (part : ℕ) → part_refusal part ≡ 0 → (k : ℕ) → has_command (row_of part) k ≡ true → 0 < time_of (row_of part) k
unfolding has_command
timely part known k c = time-some part known k (ltb-false 3 k (unless _ _ c).0)

-- ---- what is to come, as time passes and cycles act
module _ (r : Row) (cells : List ℕ) (d : Device) where
  abbrev k : Core
  k = d.core

  -- the chip with another core, and with another device
  abbrev with : Core → Chip
  with n = chip cells (with_core d n)

  settled-coming : (e : ℕ) → coming r (after_time r (chip cells d) e) ≡ coming r (chip cells d)
  unfolding coming settled_of complete_on cells_of
  settled-coming e =
      split Same (busy k) _ _
      (λ b. split Same (ltb e k.running.left) _ _
      (λ l. let more : 0 < k.running.left - e = omega (arith, ltb-true e k.running.left l) in rw (b, lt-ltb 0 (k.running.left - e) more))
      (λ _. rw b))
      (λ _. refl)
    where
      Same : Settled → Type 0
      Same s = coming r (chip s.cells (with_core d s.core)) ≡ coming r (chip cells d)

  read-coming : (a : ℕ) → coming r (with (read_of r cells k a).core) ≡ coming r (chip cells d)
  unfolding coming read_of complete_on cells_of
  read-coming a = split (λ (s : Shown). coming r (with s.core) ≡ coming r (chip cells d)) (busy k) _ _ (λ _. refl) (λ _. refl)

  suspend-coming : held k ≡ false → coming r (chip cells (device (suspend k) 0)) ≡ coming r (chip cells d)
  unfolding coming complete_on cells_of
  suspend-coming n = rw n

  resume-coming : busy k ≡ false → coming r (chip cells (device (resume k) 0)) ≡ coming r (chip cells d)
  unfolding coming complete_on cells_of
  resume-coming z = rw z

  -- a start beside a suspended erase: a program outside its range, so that the order does not matter
  start-coming : (c a x : ℕ) → busy k ≡ false → 0 < time_of r c → barred r k.suspended c a ≡ false
      → coming r (chip cells (device (busy_with k (new_operation r c a x)) 0)) ≡ complete_on r (new_operation r c a x) (coming r (chip cells d))
  unfolding coming
  start-coming c a x z t f = rw (z, lt-ltb 0 (time_of r c) t) (by (held k) refl)
    where
      o : Operation
      o = new_operation r c a x

      by : (b : Bool) → held k ≡ b → pick b (complete_on r k.suspended (complete_on r o cells)) (complete_on r o cells) ≡ complete_on r o (pick b (complete_on r k.suspended cells) cells)
      by true y = let w = beside r k.suspended c a f y in commutes r o k.suspended w.0 w.1 cells
      by false y = refl

  module _ (time : (c : ℕ) → has_command r c ≡ true → 0 < time_of r c) (w : Ranged r k) where
    written-coming : (wp : Bool) (a x : ℕ) → coming r (chip cells (written_of r d wp a x)) ≡ complete_all r (action_starts r d wp (Write a x)) (coming r (chip cells d))
    unfolding written_of coming
    written-coming wp a x =
        twice Comes (busy k) _ _ _ _
        (λ b. split (λ (e : Device). Comes e []) (suspending r k x) (device (suspend k) 0) d
        (λ s. suspend-coming (alone r k.suspended k.running.kind k.running.address (both _ _ s).0 (w.runs b).free)) (λ _. refl))
        (λ z. twice Comes (resuming k d.stage x) _ _ _ _ (λ _. resume-coming z)
        (λ _. effect_is (λ (e : Effect). Comes (after_effect r k wp a x e) (effect_starts r k wp a x e)) r d.stage a x (λ _ _. refl)
        (λ c h. sampled (λ (n : Core) (os : List Operation). Comes (device n 0) os) r k wp a x c (λ _. refl) (λ p. start-coming c a x z (time c h) (heeded r k wp c a p).0))
        (λ _. refl)))
      where
        Comes : Device → List Operation → Type 0
        Comes e os = coming r (chip cells e) ≡ complete_all r os (coming r (chip cells d))

    acted-coming : (wp : Bool) (a : Action) → uncut_action a ≡ true
        → coming r (leaves (acted_of r (chip cells d) wp a)) ≡ complete_all r (action_starts r d wp a) (coming r (chip cells d))
    acted-coming wp (Read a) u = read-coming a
    acted-coming wp (Write a x) u = written-coming wp a x
    acted-coming wp Idle u = refl
    acted-coming wp (Cut s) u = apart u

complete-append : (r : Row) (os ps : List Operation) (cells : List ℕ) → complete_all r (os ++ ps) cells ≡ complete_all r ps (complete_all r os cells)
complete-append r [] ps cells = refl
complete-append r (o ∷ os) ps cells = complete-append r os ps (complete_on r o cells)

-- one cycle
cycle-coming : (part : ℕ) (h : Chip) (c : Cycle) → uncut_action c.action ≡ true
    → coming (row_of part) (after part h c) ≡ complete_all (row_of part) (started_by part h c) (coming (row_of part) h)
unfolding after started_by cycle_of accepted_of
cycle-coming part h c u =
    twice (λ (o : Outcome) (os : List Operation). coming r (leaves o) ≡ complete_all r os (coming r h)) (eqb (cycle_refusal part (length h.cells) h.device c.action) 0) _ _ _ _
    (λ e. acts (accepted part _ _ _ (eqb-true _ _ e))) (λ _. refl)
  where
    r : Row
    r = row_of part

    s : Chip
    s = after_time r h c.elapsed

    acts : Accepted part (length h.cells) h.device c.action
        → coming r (leaves (acted_of r s c.wp c.action)) ≡ complete_all r (action_starts r s.device c.wp c.action) (coming r h)
    acts w =
        acted-coming r s.cells s.device (timely part w.known) (ranged r s.device.core (ranges r s.device (after-time-range r h c.elapsed w.state)).1) c.wp c.action u
        ∙ ap (complete_all r (action_starts r s.device c.wp c.action)) (settled-coming r h.cells h.device c.elapsed)

-- THE TRACE LAW: without a cut a list of cycles leaves the cells to come as the operations that it starts leave them, performed in order
pub trace-coming : (part : ℕ) (cs : List Cycle) (h : Chip) → uncut cs ≡ true
    → coming (row_of part) (play part h cs) ≡ complete_all (row_of part) (started_in part h cs) (coming (row_of part) h)
trace-coming part [] h u = refl
trace-coming part (c ∷ cs) h u =
    let w = both (uncut_action c.action) (uncut cs) u in
    trace-coming part cs (after part h c) w.1
    ∙ (ap (complete_all (row_of part) (started_in part (after part h c) cs)) (cycle-coming part h c w.0)
    ∙ sym (complete-append (row_of part) (started_by part h c) (started_in part (after part h c) cs) (coming (row_of part) h)))

-- on a device that is idle, or is so some time later, there is nothing to come
none-coming : (r : Row) (h : Chip) → idle (later h.device) ≡ true → coming r h ≡ h.cells
unfolding coming
none-coming r h i = let j = (idle-is (later h.device) i).1 in rw (idle-rests (later h.device).core j, idle-free (later h.device).core j)

-- so from an idle device to one that is idle, or is so some time later, the cells are as those operations leave them
pub trace : (part : ℕ) (cs : List Cycle) (h : Chip) → uncut cs ≡ true → idle h.device ≡ true → idle (later (play part h cs).device) ≡ true
    → (play part h cs).cells ≡ complete_all (row_of part) (started_in part h cs) h.cells
trace part cs h u i e =
    sym (none-coming (row_of part) (play part h cs) e)
    ∙ (trace-coming part cs h u ∙ ap (complete_all (row_of part) (started_in part h cs)) (none-coming (row_of part) h (ap idle (idle-later h.device i) ∙ i)))
