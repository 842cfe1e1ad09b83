-- What a cycle does, case by case: callers cite these laws and not the definition's text.
use Prim.Native.Nat.{ℕ, ◌-◌, ◌^◌, ◌≤◌, ◌<◌}
use mathlib.Core.Path.{◌≡◌, refl, sym, ap, ◌∙◌}
use mathlib.Core.Bool.{Bool, true, false}
use mathlib.Core.List.{List}
use native.Mathlib.Omega.{arith}
use borrow.Author.Tests.{lt-ltb, le-ltb, ne_eqb}
use lib.Dec.{eqb}
use lib.ListN.{length, get_or}
use lib.Pow.{pow_mono, pow_pos}
use lib.Bits.{xor_lt}
use Rattle.parts.specs.Width.{value_of, fits_in}
use Rattle.parts.specs.Table.{row_of, part_refusal}
use Rattle.parts.specs.declared.table.Row.{Row}
use Rattle.parts.proofs.Every.{apart, split}
use Rattle.parts.proofs.Values.{value-lt}
use Rattle.parts.proofs.Sound.{width-most, device-word}
use Rattle.commands.specs.declared.effect.Mode.{Mode}
use Rattle.commands.specs.declared.effect.Mode.TheVariants.{ReadMode, Identification}
use Rattle.device.specs.declared.state.Core.{Core}
use Rattle.device.specs.declared.state.Device.{Device}
use Rattle.device.specs.declared.cycle.Action.{Action}
use Rattle.device.specs.declared.cycle.Action.TheVariants.{Read, Write, Idle, Cut}
use Rattle.device.specs.declared.cycle.Cycle.{Cycle}
use Rattle.device.specs.declared.cycle.Shown.{Shown}
use Rattle.device.specs.Device.{with_left, toggled, with_running, with_recent, at_rest, aged_by, busy, held, device, with_core, barred, valid_suspended, core_in_range, core_idle}
use Rattle.device.specs.Operation.{cells_of, complete_on}
use Rattle.commands.specs.Commands.{effect_of}
use Rattle.device.specs.Sequence.{ignored, passed_over, resuming, after_effect, written_of}
use Rattle.device.specs.Cycle.{Chip, chip, cycle, outcome, reply, settled, settled_of, tells, turned_by, status, mode_shows, veils, shown_of, outputs_of, read_of, Outcome, acted_of, action_refusal, cycle_refusal, accepted_of, cycle_of}
use Rattle.device.specs.Trace.{after, effect_starts, started_by}
use Rattle.device.proofs.Bits.{bit7-le, bit6-le, bit2-le}
use Rattle.device.proofs.Accepted.{Accepted, accepting, Valid, free-alone, valid-range, rests-range, rest-range, in-range, stage-none, stage-rests}
use Rattle.device.proofs.Idle.{some-time-ages, idle-rests, idle-free, idle-old, idle-reads, idle-ages}

-- ---- accepted or refused
pub accepted-cycle : (part : ℕ) (cells : List ℕ) (d : Device) (c : Cycle) → Accepted part (length cells) d c.action → cycle_of part cells d c ≡ accepted_of (row_of part) cells d c
unfolding cycle_of
accepted-cycle part cells d c w = rw (accepting part (length cells) d c.action w)

-- a refused cycle changes nothing
pub refused-cycle : (part : ℕ) (cells : List ℕ) (d : Device) (c : Cycle) → (cycle_refusal part (length cells) d c.action ≡ 0 → ⊥)
    → cycle_of part cells d c ≡ record { cells = cells; reply = reply (cycle_refusal part (length cells) d c.action) 0 d }
unfolding cycle_of
refused-cycle part cells d c h = rw (ne_eqb (cycle_refusal part (length cells) d c.action) 0 h)

-- a cycle that is not refused answers 0
pub acted-answers : (r : Row) (h : Chip) (wp : Bool) (a : Action) → (acted_of r h wp a).reply.answer ≡ 0
acted-answers r h wp (Read a) = refl
acted-answers r h wp (Write a x) = refl
acted-answers r h wp Idle = refl
acted-answers r h wp (Cut c) = refl

-- where nothing is suspended, nothing is veiled
pub unveiled : (r : Row) (k : Core) (a : ℕ) → held k ≡ false → veils r k a ≡ false
unfolding veils
unveiled r k a n = rw n

-- the value that a known part's chip shows is a word
acted-word : (part : ℕ) → part_refusal part ≡ 0 → (h : Chip) (wp : Bool) (a : Action) → (acted_of (row_of part) h wp a).reply.value < 2 ^ 16
unfolding read_of
acted-word part known h wp (Read a) =
    split (λ (s : Shown). s.value < 2 ^ 16) (busy k) _ _
    (λ _. omega (arith, bit7-le k.running, bit6-le k.running, bit2-le k (tells (row_of part) k.running a)))
    (λ _. outputs-word k.recent
    (split (λ (n : ℕ). n < 2 ^ 16) (veils (row_of part) k a) _ _ (λ _. omega (arith, bit2-le k true)) (λ _. mode-word k.mode)))
  where
    k : Core
    k = h.device.core

    outputs-word : (n : Bool) {v : ℕ} → v < 2 ^ 16 → outputs_of (row_of part).width n v < 2 ^ 16
    outputs-word true l = xor_lt 16 _ _ l (omega (arith, pow_mono (width-most part known), pow_pos (row_of part).width))
    outputs-word false l = l

    mode-word : (m : Mode) → mode_shows (row_of part) h.cells m a < 2 ^ 16
    mode-word ReadMode = omega (arith, value-lt (row_of part).width (get_or h.cells a 0), pow_mono (width-most part known))
    mode-word Identification =
        split (λ (n : ℕ). n < 2 ^ 16) (eqb a 0) _ _ (λ _. omega arith) (λ _. split (λ (n : ℕ). n < 2 ^ 16) (eqb a 1) _ _ (λ _. omega (arith, device-word part known)) (λ _. omega arith))
acted-word part known h wp (Write a x) = omega arith
acted-word part known h wp Idle = omega arith
acted-word part known h wp (Cut c) = omega arith

pub shown-word : (part : ℕ) → part_refusal part ≡ 0 → (cells : List ℕ) (d : Device) (c : Cycle) → (cycle_of part cells d c).reply.value < 2 ^ 16
unfolding cycle_of accepted_of
shown-word part known cells d c =
    split (λ (o : Outcome). o.reply.value < 2 ^ 16) (eqb (cycle_refusal part (length cells) d c.action) 0) _ _ (λ _. acted-word part known _ c.wp c.action) (λ _. omega arith)

-- ---- time
module _ (r : Row) (cells : List ℕ) (k : Core) (e : ℕ) where
  pub rests : busy k ≡ false → settled_of r cells k e ≡ settled cells (aged_by k e)
  unfolding settled_of
  rests b = simp b

  runs_on : e < k.running.left → settled_of r cells k e ≡ settled cells (with_running k (with_left k.running (k.running.left - e)))
  unfolding settled_of
  runs_on l = simp (lt-ltb 0 k.running.left (omega arith), lt-ltb e k.running.left l)

  pub completes : 0 < k.running.left → k.running.left ≤ e → settled_of r cells k e ≡ settled (complete_on r k.running cells) (at_rest k (eqb e k.running.left))
  unfolding settled_of
  completes s l = simp (lt-ltb 0 k.running.left s, le-ltb e k.running.left l)

-- ---- a read at rest, at any stage and in any mode: the value, as the outputs are once its time has passed; a veiled address turns bit 2 over, and nothing else changes
pub read-at-rest : (part : ℕ) (cells : List ℕ) (d : Device) (a e : ℕ) (wp : Bool) → Accepted part (length cells) d (Read a) → busy d.core ≡ false
    → cycle_of part cells d (cycle e wp (Read a))
    ≡ outcome cells (outputs_of (row_of part).width (aged_by d.core e).recent (shown_of (row_of part) cells d.core a))
    (with_core d (turned_by (aged_by d.core e) (veils (row_of part) d.core a)))
unfolding accepted_of read_of veils
read-at-rest part cells d a e wp w b = accepted-cycle part cells d (cycle e wp (Read a)) w ∙ rw (rests (row_of part) cells d.core e b, b)

-- ---- on the lent cells of a known part
module _ (part : ℕ) (cells : List ℕ) (known : part_refusal part ≡ 0) (whole : length cells ≡ (row_of part).cells) (a : ℕ) (there : a < (row_of part).cells) where
  -- a read with no sequence begun
  read_taken : (k : Core) → core_in_range (row_of part) k ≡ true → Accepted part (length cells) (device k 0) (Read a)
  unfolding action_refusal
  read_taken k i = record { known = known; whole = whole; state = in-range (row_of part) k 0 (stage-none k) i; reach = simp (lt-ltb a (row_of part).cells there) }

  read-accepted : (k : Core) (e : ℕ) (wp : Bool) → core_in_range (row_of part) k ≡ true
      → cycle_of part cells (device k 0) (cycle e wp (Read a)) ≡ accepted_of (row_of part) cells (device k 0) (cycle e wp (Read a))
  read-accepted k e wp i = accepted-cycle part cells (device k 0) (cycle e wp (Read a)) (read_taken k i)

  -- at rest in read mode, with nothing suspended, it shows the cell's value so
  read-rests : (k : Core) (e : ℕ) (wp : Bool) → busy k ≡ false → held k ≡ false → k.mode ≡ ReadMode
      → cycle_of part cells (device k 0) (cycle e wp (Read a))
      ≡ outcome cells (outputs_of (row_of part).width (aged_by k e).recent (value_of (row_of part).width (get_or cells a 0))) (device (aged_by k e) 0)
  read-rests k e wp b n m =
      read-at-rest part cells (device k 0) a e wp (read_taken k (rest-range (row_of part) k b n)) b
      ∙ rw (unveiled (row_of part) k a n, m)

  -- so of an idle device the value; and the device stays as it is
  pub read-idle : (k : Core) (e : ℕ) (wp : Bool) → core_idle k ≡ true
      → cycle_of part cells (device k 0) (cycle e wp (Read a)) ≡ outcome cells (value_of (row_of part).width (get_or cells a 0)) (device k 0)
  read-idle k e wp i =
      let w = (row_of part).width in
      let v = value_of w (get_or cells a 0) in
      read-rests k e wp (idle-rests k i) (idle-free k i) (idle-reads k i)
      ∙ (ap (λ (n : Core). outcome cells (outputs_of w n.recent v) (device n 0)) (idle-ages k i e)
      ∙ ap (λ (n : Bool). outcome cells (outputs_of w n v) (device k 0)) (idle-old k i))

  -- and after some time the value, whatever completed when; and no completion is 0 µs old then
  pub read-later : (k : Core) (e : ℕ) (wp : Bool) → busy k ≡ false → held k ≡ false → k.mode ≡ ReadMode → 0 < e
      → cycle_of part cells (device k 0) (cycle e wp (Read a)) ≡ outcome cells (value_of (row_of part).width (get_or cells a 0)) (device (with_recent k false) 0)
  read-later k e wp b n m l =
      let w = (row_of part).width in
      read-rests k e wp b n m ∙ ap (λ (n : Core). outcome cells (outputs_of w n.recent (value_of w (get_or cells a 0))) (device n 0)) (some-time-ages k e l)

  -- while an operation runs on
  pub read-busy : (k : Core) (e : ℕ) (wp : Bool) → core_in_range (row_of part) k ≡ true → e < k.running.left
      → cycle_of part cells (device k 0) (cycle e wp (Read a))
      ≡ outcome cells (status (row_of part) k a) (device (turned_by (with_running k (toggled (with_left k.running (k.running.left - e)))) (tells (row_of part) k.running a)) 0)
  unfolding accepted_of read_of tells cells_of
  read-busy k e wp i l =
      read-accepted k e wp i ∙ rw (runs_on (row_of part) cells k e l) (simp (lt-ltb 0 (k.running.left - e) (omega arith)))

  -- as, or after, it has completed, with nothing suspended: the value, as the outputs are 0 µs after the completion or later
  pub read_done : (k : Core) (e : ℕ) (wp : Bool) → held k ≡ false → Valid (row_of part) k → 0 < k.running.left → k.running.left ≤ e
      → cycle_of part cells (device k 0) (cycle e wp (Read a))
      ≡ outcome (complete_on (row_of part) k.running cells)
      (outputs_of (row_of part).width (eqb e k.running.left) (value_of (row_of part).width (get_or (complete_on (row_of part) k.running cells) a 0)))
      (device (at_rest k (eqb e k.running.left)) 0)
  unfolding accepted_of read_of
  read_done k e wp n v s l =
      read-accepted k e wp (valid-range (row_of part) k n v)
      ∙ rw (completes (row_of part) cells k e s l, unveiled (row_of part) (at_rest k (eqb e k.running.left)) a n, v.mode)

  -- a write at rest, at a stage, what is suspended being in range and not resumed by it
  module _ (k : Core) (s e : ℕ) (wp : Bool) (x : ℕ) (b : busy k ≡ false) (holds : held k ≡ true → valid_suspended (row_of part) k.suspended ≡ true)
      (still : resuming k s x ≡ false) (le : s ≤ 6) (fits : fits_in (row_of part).width x ≡ true) where
    write-accepted : Accepted part (length cells) (device k s) (Write a x)
    unfolding action_refusal
    write-accepted =
        record {
          known = known;
          whole = whole;
          state = in-range (row_of part) k s (stage-rests k s b le) (rests-range (row_of part) k b holds);
          reach = simp (lt-ltb a (row_of part).cells there, fits);
        }

    -- what it leaves, and what it starts, by its effect
    pub write-leaves : after part (chip cells (device k s)) (cycle e wp (Write a x)) ≡ chip cells (after_effect (row_of part) (aged_by k e) wp a x (effect_of (row_of part) s a x))
    unfolding after accepted_of written_of
    write-leaves = rw (accepted-cycle part cells (device k s) (cycle e wp (Write a x)) write-accepted, rests (row_of part) cells k e b, b, still)

    pub write-starts : started_by part (chip cells (device k s)) (cycle e wp (Write a x)) ≡ effect_starts (row_of part) (aged_by k e) wp a x (effect_of (row_of part) s a x)
    unfolding started_by
    write-starts = rw (accepting part (length cells) (device k s) (Write a x) write-accepted, rests (row_of part) cells k e b, b, still)

-- ---- where nothing is suspended, nothing is resumed, and a command is passed over only where WP# protects from it
module _ (k : Core) (n : held k ≡ false) where
  pub none-held : {P : Type 0} → held k ≡ true → P
  none-held h = apart (sym n ∙ h)

  pub none-resumed : (s x : ℕ) → resuming k s x ≡ false
  none-resumed s x = rw n

  pub none-barred : (r : Row) (c a : ℕ) → barred r k.suspended c a ≡ false
  none-barred r c a = free-alone r k.suspended c a n

  pub only-protected : (r : Row) (wp : Bool) (c a : ℕ) → passed_over r k wp c a ≡ ignored r wp c a
  unfolding passed_over
  only-protected r wp c a = rw (none-barred r c a)
