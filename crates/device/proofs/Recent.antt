-- Document 02, Wish 1, sentence by sentence: a completion that is 0 µs old, and the word a microsecond after bit 7.
use Prim.Native.Nat.{ℕ, ◌≤◌, ◌<◌}
use mathlib.Core.Path.{◌≡◌, refl, sym, ap, ◌∙◌}
use mathlib.Core.Bool.{Bool, true, false}
use mathlib.Core.List.{List}
use native.Mathlib.Nat.{le_of_eq}
use native.Mathlib.Omega.{arith}
use borrow.Author.Tests.{ltb-true, lt-ltb, eq-eqb, ne_eqb}
use lib.Dec.{eqb, ltb}
use lib.ListN.{length}
use Rattle.parts.specs.Pick.{pick}
use Rattle.parts.specs.Table.{row_of}
use Rattle.parts.specs.Time.{has_command, time_of}
use Rattle.parts.specs.declared.table.Row.{Row}
use Rattle.parts.proofs.Every.{apart, both, split}
use Rattle.parts.proofs.Sound.{width-least}
use Rattle.commands.specs.declared.effect.Effect.{Effect}
use Rattle.commands.specs.declared.effect.Mode.TheVariants.{ReadMode}
use Rattle.commands.proofs.Effects.{effect_is}
use Rattle.device.specs.declared.state.Operation.{Operation}
use Rattle.device.specs.declared.state.Core.{Core}
use Rattle.device.specs.declared.state.Device.{Device}
use Rattle.device.specs.declared.cycle.Action.{Action}
use Rattle.device.specs.declared.cycle.Action.TheVariants.{Read, Write, Idle, Cut}
use Rattle.device.specs.declared.cycle.Cycle.{Cycle}
use Rattle.device.specs.declared.cycle.Shown.{Shown}
use Rattle.device.specs.Device.{with_recent, at_rest, suspend, resume, aged_by, busy, held, device, with_core, fresh_device, core_in_range, device_in_range, core_idle, idle}
use Rattle.device.specs.Operation.{complete_on}
use Rattle.device.specs.Sequence.{passed_over, suspending, resuming, after_effect, written_of}
use Rattle.device.specs.Cycle.{cycle, Chip, chip, Outcome, outcome, Settled, settled_of, after_time, turned_by, veils, shown_of, inverted, outputs_of, read_of, cut_short, cut_of, cycle_refusal, acted_of, accepted_of, cycle_of}
use Rattle.device.specs.Trace.{after, effect_starts, action_starts, uncut_action}
use Rattle.device.specs.Recent.{DifferButSeven, recent_once, later}
use Rattle.device.proofs.Accepted.{Accepted, accepted, accepting, busy-valid, ranges}
use Rattle.device.proofs.Idle.{some-time-ages}
use Rattle.device.proofs.Cases.{accepted-cycle, rests, read-at-rest, completes}
use Rattle.device.proofs.Outputs.{differ-so}
use Rattle.device.proofs.Sampled.{twice, sampled}
use Rattle.device.proofs.Settled.{after-time-range}
use Rattle.device.proofs.Trace.{timely}
use Rattle.device.proofs.Ranges.{after-range, after-length}

-- ---- when a completion is 0 µs old
-- once time has passed
settled-recent : (r : Row) (cells : List ℕ) (k : Core) (e : ℕ) → core_in_range r k ≡ true → (settled_of r cells k e).core.recent ≡ recent_once k e
unfolding settled_of
settled-recent r cells k e i =
    twice (λ (s : Settled) (n : Bool). s.core.recent ≡ n) (busy k) _ _ _ _
    (λ b. split (λ (s : Settled). s.core.recent ≡ eqb e k.running.left) (ltb e k.running.left) _ _
    (λ l. (busy-valid r k i b).old ∙ sym (ne_eqb e k.running.left (under (ltb-true e k.running.left l)))) (λ _. refl))
    (λ _. refl)
  where
    under : e < k.running.left → e ≡ k.running.left → ⊥
    under l q = omega arith

-- once the cycle has acted
module _ (r : Row) (h : Chip) (wp : Bool) (time : (c : ℕ) → has_command r c ≡ true → 0 < time_of r c) (i : device_in_range r h.device ≡ true) where
  abbrev k : Core
  k = h.device.core

  -- where something runs no completion is 0 µs old
  busy-old : busy k ≡ true → k.recent ≡ false
  busy-old b = (busy-valid r k (ranges r h.device i).1 b).old

  abbrev Keeps : Device → Type 0
  Keeps d = d.core.recent ≡ pick (busy d.core) false k.recent

  -- so where what runs has the time left that it had
  same : k.recent ≡ pick (busy k) false k.recent
  same = by (busy k) busy-old
    where
      by : (b : Bool) → (b ≡ true → k.recent ≡ false) → k.recent ≡ pick b false k.recent
      by true f = f refl
      by false f = refl

  acted-recent : (a : Action) → (acted_of r h wp a).reply.device.core.recent ≡ pick (uncut_action a) (pick (busy (acted_of r h wp a).reply.device.core) false k.recent) false
  unfolding read_of written_of
  acted-recent (Read a) = split (λ (s : Shown). s.core.recent ≡ pick (busy s.core) false k.recent) (busy k) _ _ (λ _. same) (λ _. same)
  acted-recent (Write a x) =
      split Keeps (busy k) _ _
      (λ b. split Keeps (suspending r k x) (device (suspend k) 0) h.device (λ _. refl) (λ _. same))
      (λ _. split Keeps (resuming k h.device.stage x) (device (resume k) 0) _ (λ s. rw (both (held k) _ s).0)
      (λ _. effect_is (λ (e : Effect). Keeps (after_effect r k wp a x e)) r h.device.stage a x (λ _ _. same)
      (λ c t. sampled (λ (n : Core) (os : List Operation). Keeps (device n 0)) r k wp a x c (λ _. same) (λ _. rw (lt-ltb 0 (time_of r c) (time c t)))) (λ m. same)))
  acted-recent Idle = same
  acted-recent (Cut s) = refl

-- After a cycle that is not refused a completion is 0 µs old exactly where it cut no power, nothing runs, neither started nor resumed, and the time that it
-- carried was just what was left of what ran; or none, and a completion was so before.
pub recent-exactly : (part : ℕ) (h : Chip) (c : Cycle) → Accepted part (length h.cells) h.device c.action
    → (after part h c).device.core.recent ≡ pick (uncut_action c.action) (pick (busy (after part h c).device.core) false (recent_once h.device.core c.elapsed)) false
unfolding after accepted_of
recent-exactly part h c w =
    let r = row_of part in
    rw (accepted-cycle part h.cells h.device c w)
    (acted-recent r (after_time r h c.elapsed) c.wp (timely part w.known) (after-time-range r h c.elapsed w.state) c.action
    ∙ ap (λ (n : Bool). pick (uncut_action c.action) (pick (busy (acted_of r (after_time r h c.elapsed) c.wp c.action).reply.device.core) false n) false)
    (settled-recent r h.cells h.device.core c.elapsed (ranges r h.device w.state).1))

-- Refusal 5 covers it: with an operation pending no state in range has one.
pub recent-rests : (r : Row) (d : Device) → device_in_range r d ≡ true → d.core.recent ≡ true → busy d.core ≡ false
recent-rests r d i n = by (busy d.core) refl
  where
    by : (b : Bool) → busy d.core ≡ b → b ≡ false
    by true e = apart (sym (busy-valid r d.core (ranges r d i).1 e).old ∙ n)
    by false e = refl

-- ---- what a read shows
module _ (part : ℕ) (cells : List ℕ) (d : Device) (a : ℕ) (z : cycle_refusal part (length cells) d (Read a) ≡ 0) where
  abbrev r : Row
  r = row_of part

  abbrev looks : ℕ → Bool → ℕ
  looks e wp = (cycle_of part cells d (cycle e wp (Read a))).reply.value

  taken : (e : ℕ) (wp : Bool) → cycle_of part cells d (cycle e wp (Read a)) ≡ accepted_of r cells d (cycle e wp (Read a))
  taken e wp = accepted-cycle part cells d (cycle e wp (Read a)) (accepted part (length cells) d (Read a) z)

  -- after it the same read is taken again
  again : (e : ℕ) (wp : Bool) (o : Outcome) → cycle_of part cells d (cycle e wp (Read a)) ≡ o → cycle_refusal part (length o.cells) o.reply.device (Read a) ≡ 0
  unfolding after
  again e wp o q =
      let g = accepted part (length cells) d (Read a) z in
      let c = cycle e wp (Read a) in
      accepting part (length o.cells) o.reply.device (Read a)
      (record {
        known = g.known;
        whole = (rw q at (after-length part (chip cells d) c)) ∙ g.whole;
        state = rw q at (after-range part (chip cells d) c g);
        reach = g.reach;
      })

  rested : (e : ℕ) (wp : Bool) → busy d.core ≡ false
      → cycle_of part cells d (cycle e wp (Read a)) ≡ outcome cells (outputs_of r.width (aged_by d.core e).recent (shown_of r cells d.core a))
      (with_core d (turned_by (aged_by d.core e) (veils r d.core a)))
  rested e wp b = read-at-rest part cells d a e wp (accepted part (length cells) d (Read a) z) b

  -- after some time it shows the value,
  shows_later : (e : ℕ) (wp : Bool) → 0 < e → busy d.core ≡ false → looks e wp ≡ shown_of r cells d.core a
  shows_later e wp some b =
      ap (λ (o : Outcome). o.reply.value) (rested e wp b)
      ∙ ap (λ (k : Core). outputs_of r.width k.recent (shown_of r cells d.core a)) (some-time-ages d.core e some)

  -- and at once, a completion being 0 µs old, its bits but 7 inverted
  shows-at-once : (wp : Bool) → d.core.recent ≡ true → busy d.core ≡ false → looks 0 wp ≡ inverted r.width (shown_of r cells d.core a)
  shows-at-once wp n b = ap (λ (o : Outcome). o.reply.value) (rested 0 wp b) ∙ rw n

  -- The read in which an operation completes with e just what was left of it: the value then, its bits but 7 inverted.
  pub read-at-once : (e : ℕ) (wp : Bool) → 0 < e → d.core.running.left ≡ e
      → cycle_of part cells d (cycle e wp (Read a))
      ≡ outcome (complete_on r d.core.running cells) (inverted r.width (shown_of r (complete_on r d.core.running cells) (at_rest d.core true) a))
      (with_core d (turned_by (at_rest d.core true) (veils r d.core a)))
  unfolding accepted_of read_of veils
  read-at-once e wp some l =
      let left = d.core.running.left in
      taken e wp ∙ rw (completes r cells d.core e (rw l some) (le_of_eq l), eq-eqb e left (sym l))

  -- A read with 0 µs passed since completion differs from the one some time later in all the part's bits but 7, and in no other: from a state in which a
  -- completion is 0 µs old, whatever its stage and mode,
  pub word-later : d.core.recent ≡ true → (wp wp' : Bool) (e : ℕ) → 0 < e → DifferButSeven r.width (looks 0 wp) (looks e wp')
  word-later n wp wp' e some =
      let g = accepted part (length cells) d (Read a) z in
      let b = recent-rests r d g.state n in
      differ-so r.width (width-least part g.known) (looks 0 wp) (looks e wp') (shown_of r cells d.core a) (shows-at-once wp n b) (shows_later e wp' some b)

-- and from the read in which an operation completes on, where no suspended erase veils the address: that shows bit 7 of the word and the others inverted, and
-- the next one, any time later, the word.
pub word-after-completion : (part : ℕ) (cells : List ℕ) (d : Device) (a e : ℕ) (wp : Bool) → cycle_refusal part (length cells) d (Read a) ≡ 0 → veils (row_of part) d.core a ≡ false
    → 0 < e → d.core.running.left ≡ e → (e' : ℕ) (wp' : Bool) → 0 < e'
    → let o = cycle_of part cells d (cycle e wp (Read a)) in
    DifferButSeven (row_of part).width o.reply.value (cycle_of part o.cells o.reply.device (cycle e' wp' (Read a))).reply.value
word-after-completion part cells d a e wp z clear some l e' wp' later =
    let known = (accepted part (length cells) d (Read a) z).known in
    differ-so (row_of part).width (width-least part known) _ _ (shown_of (row_of part) done rested a) (ap (λ (o : Outcome). o.reply.value) first)
    (next (cycle_of part cells d (cycle e wp (Read a))) first)
  where
    done : List ℕ
    done = complete_on (row_of part) d.core.running cells

    rested : Core
    rested = at_rest d.core true

    met : Outcome
    met = outcome done (inverted (row_of part).width (shown_of (row_of part) done rested a)) (with_core d rested)

    first : cycle_of part cells d (cycle e wp (Read a)) ≡ met
    first = read-at-once part cells d a z e wp some l ∙ rw clear

    next : (o : Outcome) → o ≡ met → (cycle_of part o.cells o.reply.device (cycle e' wp' (Read a))).reply.value ≡ shown_of (row_of part) done rested a
    next o q = rw q (shows_later part done (with_core d rested) a (again part cells d a z e wp met first) e' wp' later refl)

-- ---- Writes are taken as before: what they start, and the mode, the stage, what runs and what is suspended after them, do not hang on it.
pub writes-alike : (r : Row) (k : Core) (n : Bool) (s : ℕ) (wp : Bool) (a x : ℕ) → let d = device (with_recent k n) s in
    (action_starts r d wp (Write a x) ≡ action_starts r (device k s) wp (Write a x))
    × (later (written_of r d wp a x) ≡ later (written_of r (device k s) wp a x))
unfolding written_of passed_over
writes-alike r k n s wp a x = (
  twice (λ (os ps : List Operation). os ≡ ps) (busy k) _ _ _ _ (λ _. refl)
      (λ _. twice (λ (os ps : List Operation). os ≡ ps) (resuming k s x) _ _ _ _ (λ _. refl)
      (λ _. effect_is (λ (e : Effect). effect_starts r (with_recent k n) wp a x e ≡ effect_starts r k wp a x e) r s a x (λ _ _. refl) (λ _ _. refl) (λ _. refl))),
  twice Alike (busy k) _ _ _ _ (λ _. twice Alike (suspending r k x) _ _ _ _ (λ _. refl) (λ _. refl))
      (λ _. twice Alike (resuming k s x) _ _ _ _ (λ _. refl)
      (λ _. effect_is (λ (e : Effect). Alike (after_effect r (with_recent k n) wp a x e) (after_effect r k wp a x e)) r s a x (λ _ _. refl)
      (λ c _. twice (λ (j l : Core). Alike (device j 0) (device l 0)) (passed_over r k wp c a) _ _ _ _ (λ _. refl) (λ _. refl)) (λ _. refl))),
)
  where
    Alike : Device → Device → Type 0
    Alike d f = later d ≡ later f

-- ---- A cut then finds the operation complete: with the time that was left, or more, its cells are as it leaves them, no scar among them but those of what is
-- suspended, and the device is fresh.
pub cut-done : (part : ℕ) (cells : List ℕ) (d : Device) (e : ℕ) (wp : Bool) (s : ℕ) → cycle_refusal part (length cells) d (Cut s) ≡ 0 → 0 < d.core.running.left → d.core.running.left ≤ e
    → cycle_of part cells d (cycle e wp (Cut s)) ≡ outcome (cut_short (row_of part) d.core.suspended s (complete_on (row_of part) d.core.running cells)) 0 fresh_device
unfolding accepted_of cut_of
cut-done part cells d e wp s z some l =
    accepted-cycle part cells d (cycle e wp (Cut s)) (accepted part (length cells) d (Cut s) z) ∙ rw (completes (row_of part) cells d.core e some l)

-- ---- The device some time later, where nothing runs, is the one that a cycle leaves in which any time passes and nothing is done; the cells are as they were.
pub later-is : (part : ℕ) (h : Chip) (e : ℕ) (wp : Bool) → cycle_refusal part (length h.cells) h.device Idle ≡ 0 → busy h.device.core ≡ false → 0 < e
    → after part h (cycle e wp Idle) ≡ chip h.cells (later h.device)
unfolding after accepted_of
later-is part h e wp z b some =
    rw (
      accepted-cycle part h.cells h.device (cycle e wp Idle) (accepted part (length h.cells) h.device Idle z),
      rests (row_of part) h.cells h.device.core e b,
      some-time-ages h.device.core e some,
    )

-- One whose operation has just completed, with nothing suspended, is idle then; an idle one is the same (Idle `idle-later`).
pub completed-later : (k : Core) → k.mode ≡ ReadMode → held k ≡ false → idle (later (device (at_rest k true) 0)) ≡ true
unfolding idle core_idle
completed-later k m n = rw (n, m)
