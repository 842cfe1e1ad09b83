-- Time at rest, and an idle device: no sequence begun and an idle core. Callers cite these laws, so that what idle asks of a core can grow.
use Prim.Native.Nat.{ℕ, zero, suc, ◌<◌}
use mathlib.Core.Path.{◌≡◌, refl, sym, ap, ◌∙◌}
use mathlib.Core.Bool.{Bool, true, false}
use native.Mathlib.Omega.{arith}
use borrow.Author.Tests.{lt-ltb, eqb-true}
use lib.Dec.{eqb}
use Rattle.parts.specs.declared.table.Row.{Row}
use Rattle.parts.proofs.Every.{both, unless}
use Rattle.commands.specs.declared.effect.Mode.TheVariants.{ReadMode}
use Rattle.device.specs.declared.state.Operation.{Operation}
use Rattle.device.specs.declared.state.Core.{Core}
use Rattle.device.specs.declared.state.Device.{Device}
use Rattle.parts.specs.Pick.{pick}
use Rattle.device.specs.Device.{with_recent, busy_with, at_rest, aged_by, fresh_core, busy, held, reads, device, with_core, fresh_device, core_in_range, core_idle, idle}
use Rattle.device.specs.Recent.{later}
use Rattle.device.proofs.Accepted.{read-mode, rest-range}

pub idle-is : (d : Device) → idle d ≡ true → (d ≡ device d.core 0) × (core_idle d.core ≡ true)
unfolding idle
idle-is d i =
    let w = both (eqb d.stage 0) (core_idle d.core) i in
    (ap (λ (s : ℕ). device d.core s) (eqb-true d.stage 0 w.0), w.1)

-- ---- any positive time ends that a completion is 0 µs old
pub some-time-ages : (k : Core) (e : ℕ) → 0 < e → aged_by k e ≡ with_recent k false
some-time-ages k e some = ap (with_recent k) (simp (lt-ltb 0 e some))

-- ---- an idle core
module _ (k : Core) (i : core_idle k ≡ true) where
  parts : (busy k ≡ false) × ((held k ≡ false) × ((k.recent ≡ false) × (reads k.mode ≡ true)))
  unfolding core_idle
  parts =
      let f = unless (busy k) (pick (held k) false (pick k.recent false (reads k.mode))) i in
      let g = unless (held k) (pick k.recent false (reads k.mode)) f.1 in
      (f.0, (g.0, unless k.recent (reads k.mode) g.1))

  -- nothing runs
  pub idle-rests : busy k ≡ false
  idle-rests = parts.0

  -- nothing is suspended
  pub idle-free : held k ≡ false
  idle-free = parts.1.0

  -- no completion is 0 µs old, and it is in read mode
  pub idle-old : k.recent ≡ false
  idle-old = parts.1.1.0

  pub idle-reads : k.mode ≡ ReadMode
  idle-reads = read-mode k.mode parts.1.1.1

  -- no time changes it
  pub idle-ages : (e : ℕ) → aged_by k e ≡ k
  idle-ages zero = refl
  idle-ages (suc e) = some-time-ages k (suc e) (omega arith) ∙ ap (with_recent k) (sym idle-old)

  pub idle-range : (r : Row) → core_in_range r k ≡ true
  idle-range r = rest-range r k idle-rests idle-free

  -- once an operation that it started has completed and time has passed, it is idle again
  pub idle-again : (o : Operation) → core_idle (at_rest (busy_with k o) false) ≡ true
  unfolding core_idle
  idle-again o = rw idle-free

-- an idle device is the same some time later
pub idle-later : (d : Device) → idle d ≡ true → later d ≡ d
idle-later d i = ap (λ (n : Bool). with_core d (with_recent d.core n)) (sym (idle-old d.core (idle-is d i).1))

-- ---- a fresh device is idle
pub fresh-core-idle : core_idle fresh_core ≡ true
unfolding core_idle
fresh-core-idle = refl

pub fresh-idle : idle fresh_device ≡ true
unfolding idle
fresh-idle = fresh-core-idle
