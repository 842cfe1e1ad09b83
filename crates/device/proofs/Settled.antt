-- Time keeps the number of cells and a state in range.
use Prim.Native.Nat.{ℕ, ◌-◌, ◌≤◌}
use mathlib.Core.Path.{◌≡◌, refl, sym, ap, ap₂, ◌∙◌}
use mathlib.Core.Bool.{Bool, true}
use mathlib.Core.List.{List}
use native.Mathlib.Omega.{arith}
use lib.Dec.{eqb, ltb}
use lib.ListN.{length}
use Rattle.parts.specs.Table.{row_of}
use Rattle.parts.specs.declared.table.Row.{Row}
use Rattle.parts.specs.Refused.{number_of}
use Rattle.parts.specs.declared.refusal.Refusal.{Refusal}
use Rattle.parts.proofs.Told.{number_of-positive}
use Rattle.parts.proofs.Every.{split}
use Rattle.device.specs.declared.state.Operation.{Operation}
use Rattle.device.specs.declared.state.Core.{Core}
use Rattle.device.specs.declared.state.Device.{Device}
use Rattle.device.specs.declared.cycle.Cycle.{Cycle}
use Rattle.device.specs.declared.cycle.Reply.{Reply}
use Rattle.device.specs.Device.{operation, pending, with_left, with_turned, with_running, at_rest, aged_by, busy, device, with_core, core_in_range, stage_in_range, device_in_range}
use Rattle.device.specs.Operation.{cells_of, complete_on, cut_on, finished, scarred}
use Rattle.device.specs.Cycle.{Chip, chip, reply, Settled, settled_of, after_time, cut_short, action_refusal, cycle_refusal, acted_of, accepted_of, cycle_of}
use Rattle.device.specs.Needs.{InWords, RunsInside}
use Rattle.device.proofs.Over.{over-length}
use Rattle.device.proofs.Cases.{refused-cycle}
use Rattle.device.proofs.Accepted.{accepted, Ranged, ranged, core-range, rests-range, in-range, ranges, stage-none, stage-ages, stage-busy, in_words, runs-inside}

pub complete-length : (r : Row) (o : Operation) (cells : List ℕ) → length (complete_on r o cells) ≡ length cells
unfolding complete_on
complete-length r o cells = over-length (finished r o) (cells_of r o) cells

pub cut-length : (r : Row) (o : Operation) (scar : ℕ) (cells : List ℕ) → length (cut_short r o scar cells) ≡ length cells
unfolding cut_on
cut-length r o scar cells = split (λ (l : List ℕ). length l ≡ length cells) (pending o) _ _ (λ _. over-length (scarred r o scar) (cells_of r o) cells) (λ _. refl)

pub settled-length : (r : Row) (cells : List ℕ) (k : Core) (e : ℕ) → length (settled_of r cells k e).cells ≡ length cells
unfolding settled_of
settled-length r cells k e =
    split Kept (busy k) _ _ (λ _. split Kept (ltb e k.running.left) _ _ (λ _. refl) (λ _. complete-length r k.running cells)) (λ _. refl)
  where
    Kept : Settled → Type 0
    Kept s = length s.cells ≡ length cells

-- what is suspended stands as time passes
pub time-holds : (r : Row) (cells : List ℕ) (k : Core) (e : ℕ) → (settled_of r cells k e).core.suspended ≡ k.suspended
unfolding settled_of
time-holds r cells k e = split Same (busy k) _ _ (λ _. split Same (ltb e k.running.left) _ _ (λ _. refl) (λ _. refl)) (λ _. refl)
  where
    Same : Settled → Type 0
    Same s = s.core.suspended ≡ k.suspended

-- what runs goes on with less time left, at most as much as before
pub runs-on-range : (r : Row) (k : Core) (l : ℕ) (t u : Bool) → Ranged r k → busy k ≡ true → l ≤ k.running.left
    → Ranged r (with_turned (with_running k (operation k.running.kind k.running.address k.running.«data» l t)) u)
runs-on-range r k l t u w b h =
    let v = w.runs b in
    record {
      runs = λ _. record { command = v.command; time = omega (arith, v.time); there = v.there; fits = v.fits; mode = v.mode; old = v.old; free = v.free };
      holds = w.holds;
    }

pub after-time-range : (r : Row) (h : Chip) (e : ℕ) → device_in_range r h.device ≡ true → device_in_range r (after_time r h e).device ≡ true
unfolding settled_of
after-time-range r h e i =
    split InRange (busy k) _ _
    (λ b. let none : h.device.stage ≡ 0 = stage-busy k h.device.stage w.0 b in
    rw none
    (split Begun (ltb e k.running.left) _ _
    (λ _. in-range r (runs_on e) 0 (stage-none (runs_on e)) (core-range r (runs_on e) (runs-on-range r k (k.running.left - e) k.running.toggle k.turned v b (omega arith))))
    (λ _. let n = at_rest k (eqb e k.running.left) in in-range r n 0 (stage-none n) (rests-range r n refl v.holds))))
    (λ b. in-range r (aged_by k e) h.device.stage (stage-ages k h.device.stage e w.0) (rests-range r (aged_by k e) b v.holds))
  where
    k : Core
    k = h.device.core

    w : (stage_in_range k h.device.stage ≡ true) × (core_in_range r k ≡ true)
    w = ranges r h.device i

    v : Ranged r k
    v = ranged r k w.1

    runs_on : ℕ → Core
    runs_on e = with_running k (with_left k.running (k.running.left - e))

    InRange : Settled → Type 0
    InRange s = device_in_range r (with_core h.device s.core) ≡ true

    Begun : Settled → Type 0
    Begun s = device_in_range r (device s.core 0) ≡ true

-- ---- a cycle in the steps of its function: it is not refused, r is its part's row, time leaves cells' and the core k', which the device d' has
module _ (part : ℕ) (r : Row) (cells cells' : List ℕ) (d d' : Device) (k' : Core) (c : Cycle)
    (row : r ≡ row_of part) (zero : cycle_refusal part (length cells) d c.action ≡ 0) where
  pub ready-settle : InWords r × RunsInside r d.core (length cells)
  ready-settle =
      let w = accepted part (length cells) d c.action zero in
      rw row (in_words part w.known, runs-inside part w.known d.core (length cells) (ranges (row_of part) d w.state).1 w.whole)

  module _ (left : cells' ≡ (settled_of r cells d.core c.elapsed).cells) (core : k' ≡ (settled_of r cells d.core c.elapsed).core) (device : d' ≡ with_core d k') where
    reached : chip cells' d' ≡ after_time r (chip cells d) c.elapsed
    reached = ap₂ {A = List ℕ} {B = Device} {C = Chip} chip left (device ∙ ap (with_core d) core)

    pub ready-act : InWords r × (RunsInside r d'.core (length cells') × ((r.cells ≡ length cells') × (action_refusal r c.action ≡ 0)))
    ready-act =
        let w = accepted part (length cells) d c.action zero in
        let whole : length cells' ≡ (row_of part).cells = ap length left ∙ (settled-length r cells d.core c.elapsed ∙ w.whole) in
        let state : device_in_range (row_of part) d' ≡ true = rw (ap (λ (h : Chip). h.device) reached, row) (after-time-range (row_of part) (chip cells d) c.elapsed w.state) in
        (ready-settle.0, (rw row (runs-inside part w.known d'.core (length cells') (ranges (row_of part) d' state).1 whole), (rw row (sym whole), rw row w.reach)))

    pub whole-cycle : (x : Reply) (y : List ℕ) → x ≡ (acted_of r (chip cells' d') c.wp c.action).reply → y ≡ (acted_of r (chip cells' d') c.wp c.action).cells
        → (x ≡ (cycle_of part cells d c).reply) × (y ≡ (cycle_of part cells d c).cells)
    unfolding cycle_of accepted_of
    whole-cycle x y p q = rw zero (rw (reached, row) at p, rw (reached, row) at q)

-- a cycle that is refused
pub refused-whole : (part : ℕ) (cells : List ℕ) (d : Device) (c : Cycle) (e : Refusal) → number_of e ≡ cycle_refusal part (length cells) d c.action
    → (reply (number_of e) 0 d ≡ (cycle_of part cells d c).reply) × (cells ≡ (cycle_of part cells d c).cells)
refused-whole part cells d c e asked =
    let o = refused-cycle part cells d c (λ z. number_of-positive e (asked ∙ z)) in
    rw (o, ← asked) (refl, refl)
