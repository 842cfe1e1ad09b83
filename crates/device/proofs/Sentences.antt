-- A law for each sentence of document 01's "One bus cycle" and "Writes in sequence" that no other law says.
use Prim.Native.Nat.{ℕ, zero, suc, ◌-◌, ◌%◌, ◌≤◌, ◌<◌}
use mathlib.Core.Path.{◌≡◌, refl, sym, ap, ◌∙◌}
use mathlib.Core.Bool.{Bool, true, false}
use mathlib.Core.List.{List, [], ◌∷◌, ◌++◌}
use native.Mathlib.Omega.{arith}
use borrow.Author.Tests.{lt-ltb, ne_eqb, eqb-true}
use lib.Dec.{eqb, ltb}
use lib.ListN.{length, get_or}
use Rattle.parts.specs.Pick.{pick}
use Rattle.parts.specs.Width.{fits_in}
use Rattle.parts.specs.Table.{row_of, part_refusal}
use Rattle.parts.specs.Span.{has_blocks}
use Rattle.parts.specs.declared.table.Row.{Row}
use Rattle.parts.proofs.Every.{pick_same, split}
use Rattle.commands.specs.declared.effect.Mode.TheVariants.{ReadMode, Identification}
use Rattle.device.specs.declared.state.Operation.{Operation}
use Rattle.device.specs.declared.state.Core.{Core}
use Rattle.device.specs.declared.state.Device.{Device}
use Rattle.commands.specs.declared.effect.Effect.{Effect}
use Rattle.commands.specs.declared.effect.Effect.TheVariants.{Starts}
use Rattle.device.specs.declared.cycle.Action.{Action}
use Rattle.device.specs.declared.cycle.Action.TheVariants.{Read, Write, Idle, Cut}
use Rattle.device.specs.declared.cycle.Cycle.{Cycle}
use Rattle.device.specs.declared.cycle.Shown.{Shown}
use Rattle.device.specs.Device.{no_operation, pending, busy, held, device, with_core, fresh_device, core, in_mode, busy_with, aged_by, valid_suspended, suspendable, device_in_range}
use Rattle.commands.specs.Commands.{broken, effect_of}
use Rattle.device.specs.Operation.{cells_of, over, scarred, cut_on}
use Rattle.device.specs.Sequence.{resuming, after_effect, written_of}
use Rattle.device.specs.Cycle.{cycle, Chip, chip, Outcome, outcome, identity, veils, outputs_of, read_of, cut_of, settled_of, Settled, after_time, action_refusal, cycle_refusal, acted_of, accepted_of, cycle_of}
use Rattle.device.specs.Trace.{after, play, effect_starts, action_starts, started_by, started_in}
use Rattle.device.proofs.Accepted.{accepted}
use Rattle.device.proofs.Cases.{accepted-cycle, refused-cycle, rests, read-at-rest, write-leaves, write-starts}
use Rattle.commands.proofs.Effects.{effect_is}
use Rattle.device.proofs.Sampled.{twice, sampled}
use Rattle.commands.proofs.Broken.{continues, is-broken, resets, no_blocks}
use Rattle.device.proofs.Settled.{time-holds}
use Rattle.device.proofs.Ranges.{after-range}

-- the cells of an operation that is pending, scarred
abbrev scars_of : Row → ℕ → Operation → List ℕ → List ℕ
scars_of r s o cells = pick (pending o) (over (scarred r o s) (cells_of r o) cells) cells

-- ---- of a cycle that is not refused
module _ (part : ℕ) (cells : List ℕ) (d : Device) (e : ℕ) (wp : Bool) where
  abbrev Taken : Action → Type 0
  Taken a = cycle_refusal part (length cells) d a ≡ 0

  abbrev gives : Action → Outcome
  gives a = cycle_of part cells d (cycle e wp a)

  taken : (a : Action) → Taken a → gives a ≡ accepted_of (row_of part) cells d (cycle e wp a)
  taken a z = accepted-cycle part cells d (cycle e wp a) (accepted part (length cells) d a z)

  -- where an action is taken, idle time is
  idles : (a : Action) → Taken a → gives Idle ≡ accepted_of (row_of part) cells d (cycle e wp Idle)
  unfolding action_refusal
  idles a z =
      let w = accepted part (length cells) d a z in
      accepted-cycle part cells d (cycle e wp Idle) (record { known = w.known; whole = w.whole; state = w.state; reach = refl })

  -- A write while busy does nothing, but B0H where what runs can be suspended: it is as idle time.
  pub busy-write : (a x : ℕ) → Taken (Write a x) → e < d.core.running.left → (suspendable (row_of part) d.core.running.kind ≡ true → x % 256 ≡ 0xb0 → ⊥)
      → gives (Write a x) ≡ gives Idle
  unfolding accepted_of settled_of written_of
  busy-write a x z l n =
      let left = d.core.running.left in
      let same : accepted_of (row_of part) cells d (cycle e wp (Write a x)) ≡ accepted_of (row_of part) cells d (cycle e wp Idle)
      = simp (lt-ltb 0 left (omega arith), lt-ltb e left l, lt-ltb 0 (left - e) (omega arith), kept (suspendable (row_of part) d.core.running.kind) n) in
      taken (Write a x) z ∙ (same ∙ sym (idles (Write a x) z))
    where
      kept : (b : Bool) → (b ≡ true → x % 256 ≡ 0xb0 → ⊥) → pick b (eqb (x % 256) 0xb0) false ≡ false
      kept true n = ne_eqb (x % 256) 0xb0 (n refl)
      kept false n = refl

  -- A read disturbs no sequence, in any mode: the stage and the mode are what they were.
  pub read-keeps-stage : (a : ℕ) → (gives (Read a)).reply.device.stage ≡ d.stage
  unfolding cycle_of accepted_of
  read-keeps-stage a = split (λ (o : Outcome). o.reply.device.stage ≡ d.stage) (eqb (cycle_refusal part (length cells) d (Read a)) 0) _ _ (λ _. refl) (λ _. refl)

  settled-mode : (r : Row) → (settled_of r cells d.core e).core.mode ≡ d.core.mode
  unfolding settled_of
  settled-mode r =
      split Same (busy d.core) _ _ (λ _. split Same (ltb e d.core.running.left) _ _ (λ _. refl) (λ _. refl)) (λ _. refl)
    where
      Same : Settled → Type 0
      Same s = s.core.mode ≡ d.core.mode

  read-mode : (r : Row) (l : List ℕ) (k : Core) (a : ℕ) → (read_of r l k a).core.mode ≡ k.mode
  unfolding read_of
  read-mode r l k a = split (λ (s : Shown). s.core.mode ≡ k.mode) (busy k) _ _ (λ _. refl) (λ _. refl)

  pub read-keeps-mode : (a : ℕ) → (gives (Read a)).reply.device.core.mode ≡ d.core.mode
  unfolding cycle_of accepted_of
  read-keeps-mode a =
      split (λ (o : Outcome). o.reply.device.core.mode ≡ d.core.mode) (eqb (cycle_refusal part (length cells) d (Read a)) 0) _ _
      (λ _. read-mode (row_of part) _ _ a ∙ settled-mode (row_of part)) (λ _. refl)

  -- In identification mode address 0 shows the maker, BFH, 1 the device, others 0, as the outputs are once the cycle's time has passed; nothing else changes.
  pub identifies : (a : ℕ) → Taken (Read a) → busy d.core ≡ false → d.core.mode ≡ Identification
      → gives (Read a) ≡ outcome cells (outputs_of (row_of part).width (aged_by d.core e).recent (get_or (0xbf ∷ (row_of part).device ∷ []) a 0)) (with_core d (aged_by d.core e))
  unfolding veils
  identifies a z b m =
      let shows : ℕ → Outcome = λ v. outcome cells (outputs_of (row_of part).width (aged_by d.core e).recent v) (with_core d (aged_by d.core e)) in
      read-at-rest part cells d a e wp (accepted part (length cells) d (Read a) z) b ∙ (rw (clear (row_of part), m) refl ∙ ap shows (same a))
    where
      -- nothing is veiled in that mode, in a suspended range too
      clear : (r : Row) → veils r d.core a ≡ false
      clear r = rw m (pick_same (held d.core) false)

      same : (a : ℕ) → identity (row_of part) a ≡ get_or (0xbf ∷ (row_of part).device ∷ []) a 0
      same zero = refl
      same (suc zero) = refl
      same (suc (suc a)) = simp (ne_eqb (suc (suc a)) 0 (λ z. omega arith), ne_eqb (suc (suc a)) 1 (λ z. omega arith))

  -- After any cut the device is fresh.
  pub cut-fresh : (s : ℕ) → Taken (Cut s) → (gives (Cut s)).reply.device ≡ fresh_device
  unfolding accepted_of
  cut-fresh s z = rw (taken (Cut s) z)

  -- A cut leaves what runs, once the cycle's time has passed, scarred (Leaves `scarred-program`, `scarred-erase`), and what is suspended; no other cell changes.
  pub cut-at-rest : (s : ℕ) → Taken (Cut s) → busy d.core ≡ false → gives (Cut s) ≡ outcome (scars_of (row_of part) s d.core.suspended cells) 0 fresh_device
  unfolding accepted_of cut_of cut_on
  cut-at-rest s z b = taken (Cut s) z ∙ rw (rests (row_of part) cells d.core e b) (simp b)

  pub cut-busy : (s : ℕ) → Taken (Cut s) → e < d.core.running.left
      → gives (Cut s)
      ≡ outcome (scars_of (row_of part) s d.core.suspended (over (scarred (row_of part) d.core.running s) (cells_of (row_of part) d.core.running) cells)) 0 fresh_device
  unfolding accepted_of settled_of cut_of cut_on cells_of
  cut-busy s z l =
      let left = d.core.running.left in
      taken (Cut s) z ∙ simp (lt-ltb 0 left (omega arith), lt-ltb e left l, lt-ltb 0 (left - e) (omega arith))

-- ---- of writes in sequence
-- on the lent cells of a known part, at rest, at any stage, an erase that is suspended being in range
module _ (part : ℕ) (cells : List ℕ) (known : part_refusal part ≡ 0) (whole : length cells ≡ (row_of part).cells) (a : ℕ) (there : a < (row_of part).cells)
    (k : Core) (s e : ℕ) (wp : Bool) (x : ℕ) (b : busy k ≡ false) (holds : held k ≡ true → valid_suspended (row_of part) k.suspended ≡ true)
    (le : s ≤ 6) (fits : fits_in (row_of part).width x ≡ true) where
  -- read mode, no sequence begun, nothing started, what is suspended and the cells as they were
  abbrev Returns : Type 0
  Returns =
      (after part (chip cells (device k s)) (cycle e wp (Write a x)) ≡ chip cells (device (in_mode (aged_by k e) ReadMode) 0))
      × (started_by part (chip cells (device k s)) (cycle e wp (Write a x)) ≡ [])

  breaks : resuming k s x ≡ false → effect_of (row_of part) s a x ≡ broken → Returns
  breaks still f =
      let leaves = write-leaves part cells known whole a there k s e wp x b holds still le fits in
      let starts = write-starts part cells known whole a there k s e wp x b holds still le fits in
      (leaves ∙ rw f, starts ∙ rw f)

  -- A write that does not continue the sequence begun, or with none begun is not AAH at U1, ends any that is begun and returns to
  -- read mode; it is not taken as a first write. So while suspended, too, but for the 30H that resumes.
  pub broken-write : resuming k s x ≡ false → continues (row_of part) s a x ≡ false → Returns
  broken-write still c = breaks still (is-broken (row_of part) a x s le c)

  -- a byte other than 30H resumes nothing, and with a sequence begun none does
  other_byte : (n : ℕ) → (n ≡ 0x30 → ⊥) → x % 256 ≡ n → resuming k s x ≡ false
  other_byte n ne q = simp (ne_eqb (x % 256) 0x30 (λ z. ne (sym q ∙ z)), pick_same)

  begun-stays : (s ≡ 0 → ⊥) → resuming k s x ≡ false
  begun-stays n = simp (ne_eqb s 0 n, pick_same)

  -- F0H anywhere, save as program data, among them: at any address it returns to read mode.
  pub reset-returns : (s ≡ 3 → ⊥) → x % 256 ≡ 0xf0 → Returns
  reset-returns n f = breaks (other_byte 0xf0 (λ z. omega arith) f) (resets part known a x s le n f)

  -- 50H on parts 1 to 3, which have no blocks, too.
  pub no-block-returns : has_blocks (row_of part) ≡ false → s ≡ 6 → x % 256 ≡ (row_of part).block_code → Returns
  no-block-returns h n f = breaks (begun-stays (λ z. omega arith)) (rw n (no_blocks part known a x h f))

-- Starting an operation ends identification mode: the device then is in read mode, no sequence begun, and runs what was started.
nothing : {A : Type 0} (o : Operation) (os : List Operation) → [] ≡ o ∷ os → A
nothing o os q = let z : ◌≡◌ {A = ℕ} 0 (suc (length os)) = ap length q in absurd (omega arith)

pub start-ends-modes : (part : ℕ) (h : Chip) (c : Cycle) (o : Operation) (os : List Operation) → started_by part h c ≡ o ∷ os
    → (after part h c).device ≡ device (core ReadMode false false o h.device.core.suspended) 0
unfolding after started_by cycle_of accepted_of written_of
start-ends-modes part h c o os =
    twice (λ (out : Outcome) (ops : List Operation). ops ≡ o ∷ os → out.reply.device ≡ device (core ReadMode false false o h.device.core.suspended) 0)
    (eqb (cycle_refusal part (length h.cells) h.device c.action) 0) _ _ _ _ (λ _. acts c.action) (λ _ q. nothing o os q)
  where
    r : Row
    r = row_of part

    s : Chip
    s = after_time r h c.elapsed

    Ends : Device → List Operation → Type 0
    Ends d ops = ops ≡ o ∷ os → d ≡ device (busy_with s.device.core o) 0

    starts : (wp : Bool) (a x n : ℕ) → let k = s.device.core in Ends (after_effect r k wp a x (Starts n)) (effect_starts r k wp a x (Starts n))
    starts wp a x n =
        sampled (λ (k : Core) (ops : List Operation). Ends (device k 0) ops) r s.device.core wp a x n (λ _ q. nothing o os q)
        (λ _ q. ap (λ (l : List Operation). device (busy_with s.device.core (get_or l 0 no_operation)) 0) q)

    writes : (wp : Bool) (a x : ℕ) → Ends (written_of r s.device wp a x) (action_starts r s.device wp (Write a x))
    writes wp a x =
        let k = s.device.core in
        twice Ends (busy k) _ _ _ _ (λ _ q. nothing o os q)
        (λ _. twice Ends (resuming k s.device.stage x) _ _ _ _ (λ _ q. nothing o os q)
        (λ _. effect_is (λ (e : Effect). Ends (after_effect r k wp a x e) (effect_starts r k wp a x e)) r s.device.stage a x
        (λ _ _ q. nothing o os q) (λ n _. starts wp a x n) (λ _ q. nothing o os q)))

    -- what is suspended stands as time passes
    same : s.device.core.suspended ≡ h.device.core.suspended
    same = time-holds r h.cells h.device.core c.elapsed

    acts : (a : Action) → action_starts r s.device c.wp a ≡ o ∷ os
        → (acted_of r s c.wp a).reply.device ≡ device (core ReadMode false false o h.device.core.suspended) 0
    acts (Read a) q = nothing o os q
    acts (Write a x) q = writes c.wp a x q ∙ ap (λ (u : Operation). device (core ReadMode false false o u) 0) same
    acts Idle q = nothing o os q
    acts (Cut w) q = nothing o os q

-- ---- of lists of cycles
-- A refused cycle can be left out of a list, wherever it stands: after any cycles bs, and in front of any others.
left-out-first : (part : ℕ) (h : Chip) (c : Cycle) (cs : List Cycle) → (cycle_refusal part (length h.cells) h.device c.action ≡ 0 → ⊥)
    → (play part h (c ∷ cs) ≡ play part h cs) × (started_in part h (c ∷ cs) ≡ started_in part h cs)
unfolding after started_by
left-out-first part h c cs n =
    let e = refused-cycle part h.cells h.device c n in
    (rw e, rw (e, ne_eqb (cycle_refusal part (length h.cells) h.device c.action) 0 n))

pub left_out : (part : ℕ) (bs : List Cycle) (h : Chip) (c : Cycle) (cs : List Cycle)
    → (cycle_refusal part (length (play part h bs).cells) (play part h bs).device c.action ≡ 0 → ⊥)
    → (play part h (bs ++ (c ∷ cs)) ≡ play part h (bs ++ cs)) × (started_in part h (bs ++ (c ∷ cs)) ≡ started_in part h (bs ++ cs))
left_out part [] h c cs n = left-out-first part h c cs n
left_out part (b ∷ bs) h c cs n =
    let w = left_out part bs (after part h b) c cs n in
    (w.0, ap (λ (os : List Operation). started_by part h b ++ os) w.1)

-- The states reached from one in range, as a fresh device is, by any list of cycles, are in range.
stays : (part : ℕ) (h : Chip) (c : Cycle) → device_in_range (row_of part) h.device ≡ true → device_in_range (row_of part) (after part h c).device ≡ true
unfolding after cycle_of
stays part h c i = by (eqb (cycle_refusal part (length h.cells) h.device c.action) 0) refl
  where
    by : (b : Bool) → eqb (cycle_refusal part (length h.cells) h.device c.action) 0 ≡ b → device_in_range (row_of part) (after part h c).device ≡ true
    by true e = after-range part h c (accepted part _ _ _ (eqb-true _ _ e))
    by false e = rw e i

pub reached-range : (part : ℕ) (h : Chip) (cs : List Cycle) → device_in_range (row_of part) h.device ≡ true → device_in_range (row_of part) (play part h cs).device ≡ true
reached-range part h [] i = i
reached-range part h (c ∷ cs) i = reached-range part (after part h c) cs (stays part h c i)
