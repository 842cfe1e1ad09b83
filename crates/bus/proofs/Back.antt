-- A device crosses to C and back: its numbers are read as that device, and a refused cycle hands back the numbers as they came.
use Prim.Native.Nat.{ℕ, ◌<◌}
use mathlib.Core.Path.{◌≡◌, refl, ◌∙◌}
use mathlib.Core.Bool.{Bool, true, false}
use mathlib.Core.List.{List}
use native.Mathlib.Omega.{arith}
use lib.Dec.{eqb}
use lib.ListN.{length}
use borrow.Author.Tests.{eq-eqb, ne_eqb, eqb-false, lt-ltb, lt-leb}
use Rattle.parts.specs.Names.{WRONG-CELLS, BAD-STATE}
use Rattle.parts.specs.Pick.{◌unless◌, ◌else◌, ◌or_else◌}
use Rattle.parts.specs.Table.{row_of, part_refusal}
use Rattle.parts.proofs.Every.{pick_same}
use Rattle.commands.specs.declared.effect.Mode.{Mode}
use Rattle.commands.specs.declared.effect.Mode.TheVariants.{ReadMode, Identification}
use Rattle.device.specs.declared.state.Operation.{Operation}
use Rattle.device.specs.declared.state.Core.{Core}
use Rattle.device.specs.declared.state.Device.{Device}
use Rattle.device.specs.declared.cycle.Action.{Action}
use Rattle.device.specs.declared.cycle.Cycle.{Cycle}
use Rattle.device.specs.Device.{stage_in_range, device_in_range}
use Rattle.device.specs.Cycle.{chip, after_time, accepted_of, cycle_of, cycle_refusal}
use Rattle.device.proofs.Cases.{acted-answers}
use Rattle.bus.specs.declared.cycle.OperationNumbers.{OperationNumbers}
use Rattle.bus.specs.declared.cycle.DeviceNumbers.{DeviceNumbers}
use Rattle.bus.specs.Cycle.{high, mode_number, mode_at, bit_number, operation_numbers, device_numbers, has_bits, device_of, no_state, reply_numbers, cycled_numbers}

-- ---- a level: its number is read as that level
pub level-back : (b : Bool) → high (bit_number b) ≡ b
level-back true = refl
level-back false = refl

-- ---- the device
-- numbers of an operation, and of a device
abbrev operates : ℕ → ℕ → ℕ → ℕ → ℕ → OperationNumbers
operates k a x l t = record { kind = k; address = a; «data» = x; left = l; toggle = t }

abbrev numbers : ℕ → ℕ → ℕ → ℕ → OperationNumbers → OperationNumbers → DeviceNumbers
numbers m s n t o u = record { mode = m; stage = s; recent = n; turned = t; running = o; suspended = u }

-- the number of a mode, and of a bit, is one as 0 is
module _ (s : ℕ) where
  mode-fits : (m : Mode) (n t : ℕ) (o u : OperationNumbers) → has_bits (numbers (mode_number m) s n t o u) ≡ has_bits (numbers 0 s n t o u)
  unfolding has_bits
  mode-fits ReadMode n t o u = refl
  mode-fits Identification n t o u = refl

  recent-fits : (b : Bool) (t : ℕ) (o u : OperationNumbers) → has_bits (numbers 0 s (bit_number b) t o u) ≡ has_bits (numbers 0 s 0 t o u)
  unfolding has_bits
  recent-fits true t o u = refl
  recent-fits false t o u = refl

  turned-fits : (b : Bool) (o u : OperationNumbers) → has_bits (numbers 0 s 0 (bit_number b) o u) ≡ has_bits (numbers 0 s 0 0 o u)
  unfolding has_bits
  turned-fits true o u = refl
  turned-fits false o u = refl

  toggle-fits : (b : Bool) (k a x l : ℕ) (u : OperationNumbers) → has_bits (numbers 0 s 0 0 (operates k a x l (bit_number b)) u) ≡ has_bits (numbers 0 s 0 0 (operates k a x l 0) u)
  unfolding has_bits
  toggle-fits true k a x l u = refl
  toggle-fits false k a x l u = refl

  suspended-fits : (b : Bool) (o : Operation) (k a x l : ℕ) → has_bits (numbers 0 s 0 0 (operates o.kind o.address o.«data» o.left 0) (operates k a x l (bit_number b))) ≡ true
  unfolding has_bits
  suspended-fits true o k a x l = refl
  suspended-fits false o k a x l = refl

-- and each is read as what it is of
bit-back : (b : Bool) → eqb (bit_number b) 1 ≡ b
bit-back true = refl
bit-back false = refl

mode-back : (m : Mode) → mode_at (mode_number m) ≡ m
mode-back ReadMode = refl
mode-back Identification = refl

-- the numbers of a device are read as that device
pub device-back : (d : Device) → device_of (device_numbers d) ≡ d
unfolding device_of
device-back d = rw (has-bits, mode-back k.mode, bit-back k.recent, bit-back k.turned, bit-back o.toggle, bit-back u.toggle)
  where
    k : Core
    k = d.core

    o : Operation
    o = k.running

    u : Operation
    u = k.suspended

    has-bits : has_bits (device_numbers d) ≡ true
    has-bits =
        mode-fits d.stage k.mode (bit_number k.recent) (bit_number k.turned) (operation_numbers o) (operation_numbers u)
        ∙ (recent-fits d.stage k.recent (bit_number k.turned) (operation_numbers o) (operation_numbers u)
        ∙ (turned-fits d.stage k.turned (operation_numbers o) (operation_numbers u)
        ∙ (toggle-fits d.stage o.toggle o.kind o.address o.«data» o.left (operation_numbers u)
        ∙ suspended-fits d.stage u.toggle o u.kind u.address u.«data» u.left)))

-- a mode, a recent completion, a turned bit 2 or a toggle above 1 is no state
module _ (n : DeviceNumbers) where
  pub bad-mode : 1 < n.mode → device_of n ≡ no_state
  unfolding device_of has_bits
  bad-mode h = simp (lt-ltb _ _ h)

  pub bad-recent : 1 < n.recent → device_of n ≡ no_state
  unfolding device_of has_bits
  bad-recent h = simp (lt-ltb _ _ h, pick_same)

  pub bad-turned : 1 < n.turned → device_of n ≡ no_state
  unfolding device_of has_bits
  bad-turned h = simp (lt-ltb _ _ h, pick_same)

  pub bad-toggle : 1 < n.running.toggle → device_of n ≡ no_state
  unfolding device_of has_bits
  bad-toggle h = simp (lt-ltb _ _ h, pick_same)

  pub bad-suspended-toggle : 1 < n.suspended.toggle → device_of n ≡ no_state
  unfolding device_of has_bits
  bad-suspended-toggle h = simp (lt-leb _ _ h, pick_same)

-- numbers that are no state: 1 and 2 come first, then 5
pub no-device : (part lent : ℕ) (n : DeviceNumbers) (a : Action) → device_of n ≡ no_state
    → cycle_refusal part lent (device_of n) a ≡ (part_refusal part or_else WRONG-CELLS unless eqb lent (row_of part).cells else BAD-STATE)
unfolding cycle_refusal device_in_range stage_in_range
no-device part lent n a h = simp h

-- ---- a cycle
-- a cycle on the numbers of a device: the numbers of its reply
pub cycle-of-device : (part : ℕ) (cells : List ℕ) (d : Device) (c : Cycle) → let r = (cycle_of part cells d c).reply in
    reply_numbers (device_numbers d) r ≡ record { answer = r.answer; value = r.value; device = device_numbers r.device }
unfolding reply_numbers cycle_of accepted_of
cycle-of-device part cells d c = by (eqb n 0) refl
  where
    n : ℕ
    n = cycle_refusal part (length cells) d c.action

    by : (t : Bool) → eqb n 0 ≡ t → let r = (cycle_of part cells d c).reply in
        reply_numbers (device_numbers d) r ≡ record { answer = r.answer; value = r.value; device = device_numbers r.device }
    by true t = rw (t, acted-answers (row_of part) (after_time (row_of part) (chip cells d) c.elapsed) c.wp c.action)
    by false t = rw (t, lt-ltb 0 n (omega (arith, eqb-false n 0 t)))

-- on the device that the numbers mean
module _ (part : ℕ) (cells : List ℕ) (n : DeviceNumbers) (c : Cycle) where
  -- refused: its number, value 0, the numbers as they came, and no cell changed
  pub refused-numbers : (k : ℕ) → 0 < k → cycle_refusal part (length cells) (device_of n) c.action ≡ k
      → cycled_numbers n (cycle_of part cells (device_of n) c) ≡ record { cells = cells; reply = record { answer = k; value = 0; device = n } }
  unfolding reply_numbers cycle_of
  refused-numbers k h r = simp (r, ne_eqb k 0 (λ z. omega arith), lt-ltb 0 k h)

  -- not refused: 0, and the numbers of the device that it leaves
  pub taken-numbers : cycle_refusal part (length cells) (device_of n) c.action ≡ 0 → let o = accepted_of (row_of part) cells (device_of n) c in
      cycled_numbers n (cycle_of part cells (device_of n) c)
      ≡ record { cells = o.cells; reply = record { answer = 0; value = o.reply.value; device = device_numbers o.reply.device } }
  unfolding reply_numbers cycle_of accepted_of
  taken-numbers z =
      rw (eq-eqb (cycle_refusal part (length cells) (device_of n) c.action) 0 z, acted-answers (row_of part) (after_time (row_of part) (chip cells (device_of n)) c.elapsed) c.wp c.action)
