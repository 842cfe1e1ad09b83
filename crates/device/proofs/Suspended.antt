-- Document 02, Wish 2: while an erase is suspended and not resumed its time stands still, no cell of its range changes, and elsewhere a cell only by a program;
-- resumed, it takes what was left. On a part that cannot suspend all is as it was before the wish.
use Prim.Native.Nat.{ℕ, ◌+◌, ◌-◌, ◌*◌, ◌%◌, ◌≤◌, ◌<◌}
use mathlib.Core.Path.{◌≡◌, refl, sym, ap, ◌∙◌}
use mathlib.Core.Bool.{Bool, true, false, not}
use mathlib.Core.List.{List, [], ◌∷◌, ◌++◌}
use native.Mathlib.Omega.{arith}
use borrow.Author.Tests.{lt-ltb, le-ltb, eq-eqb, eqb-true}
use lib.Dec.{eqb, ltb}
use lib.ListN.{length}
use Rattle.parts.specs.Pick.{pick}
use Rattle.parts.specs.Span.{holdsb}
use Rattle.parts.specs.Table.{row_of}
use Rattle.parts.specs.declared.table.Row.{Row}
use Rattle.parts.proofs.Every.{apart, both, unless, pick_same, split}
use Rattle.commands.specs.declared.effect.Mode.TheVariants.{ReadMode}
use Rattle.commands.specs.declared.effect.Effect.{Effect}
use Rattle.commands.specs.Commands.{effect_of}
use Rattle.commands.proofs.Effects.{effect_is}
use Rattle.device.specs.declared.state.Operation.{Operation}
use Rattle.device.specs.declared.state.Core.{Core}
use Rattle.device.specs.declared.state.Device.{Device}
use Rattle.device.specs.declared.cycle.Action.{Action}
use Rattle.device.specs.declared.cycle.Action.TheVariants.{Read, Write, Idle, Cut}
use Rattle.device.specs.declared.cycle.Cycle.{Cycle}
use Rattle.device.specs.declared.cycle.Shown.{Shown}
use Rattle.device.specs.Device.{operation, no_operation, with_left, toggled, pending, core, with_running, aged_by, suspend, resume, busy, held, device, with_core, suspendable, device_in_range}
use Rattle.device.specs.Operation.{cells_of}
use Rattle.device.specs.Sequence.{suspending, resuming, after_effect, written_of}
use Rattle.device.specs.Cycle.{cycle, Chip, chip, Outcome, Settled, settled_of, after_time, bit7, bit6, tells, mode_shows, outputs_of, showing, veils, read_of, cut_of, acted_of, accepted_of, cycle_refusal, cycle_of}
use Rattle.device.specs.Trace.{leaves, after, play, effect_starts, action_starts, started_by, started_in, All, uncut_action, uncut}
use Rattle.device.specs.Suspended.{resumes_by, resumes, unresumed, ProgramBeside, RunsElsewhere, Elsewhere, Stands, AsBefore}
use Rattle.device.proofs.Accepted.{Accepted, accepted, Ranged, ranged, held-valid, ranges}
use Rattle.device.proofs.Settled.{time-holds, after-time-range}
use Rattle.device.proofs.Sampled.{twice, sampled, heeded}
use Rattle.device.proofs.Apart.{beside, alone, untouched, one_cell}
use Rattle.device.proofs.Started.{all_append}
use Rattle.device.proofs.Cases.{accepted-cycle, unveiled, only-protected}

all-parts : (P : Operation → Type 0) (os ps : List Operation) → All P (os ++ ps) → All P os × All P ps
all-parts P [] ps a = (tt, a)
all-parts P (o ∷ os) ps a = let w = all-parts P os ps a.1 in ((a.0, w.0), w.1)

stands-then : (r : Row) (h k l : Chip) (os ps : List Operation) → Stands r h k os → Stands r k l ps → Stands r h l (os ++ ps)
stands-then r h k l os ps p q =
    record {
      same = q.same ∙ p.same;
      cell = λ i t. q.cell i (rw p.same t) ∙ p.cell i t;
      programs = all_append (ProgramBeside r h.device.core.suspended) os ps p.programs (rw p.same at q.programs);
      others = λ i e a.
          let w = all-parts (Elsewhere i) os ps a in
          let f = p.others i e w.0 in
          let g = q.others i f.1 w.1 in
          (g.0 ∙ f.0, g.1);
    }

-- nothing started, and the same cells
stands-still : (r : Row) (h : Chip) (d : Device) → d.core.suspended ≡ h.device.core.suspended
    → ((i : ℕ) → RunsElsewhere i h.device.core → RunsElsewhere i d.core) → Stands r h (chip h.cells d) []
stands-still r h d s f = record { same = s; cell = λ i t. refl; programs = tt; others = λ i e a. (refl, f i e) }

-- time passes: what completes beside it is a program outside its range
time-stands : (r : Row) (h : Chip) (e : ℕ) → Ranged r h.device.core → held h.device.core ≡ true → Stands r h (after_time r h e) []
unfolding settled_of
time-stands r h e w y =
    split Stays (busy k) _ _
    (λ b. split Stays (ltb e k.running.left) _ _ (λ _. stands-still r h (with_core h.device (with_running k (with_left k.running (k.running.left - e)))) refl (λ i n _. n b))
    (λ _. let p = beside r k.suspended k.running.kind k.running.address (w.runs b).free y in
    record {
      same = refl;
      cell = untouched r k.running k.suspended p.0 p.1 h.cells;
      programs = tt;
      others = λ i n a. (one_cell r k.running h.cells p.0 i (n b), λ z. apart z);
    }))
    (λ _. stands-still r h (with_core h.device (aged_by k e)) refl (λ i n. n))
  where
    k : Core
    k = h.device.core

    Stays : Settled → Type 0
    Stays s = Stands r h (chip s.cells (with_core h.device s.core)) []

-- the cycle acts: the cells stay, and only a resume takes the erase away
module _ (r : Row) (h : Chip) (w : Ranged r h.device.core) (y : held h.device.core ≡ true) where
  abbrev k : Core
  k = h.device.core

  abbrev Kept : Device → List Operation → Type 0
  Kept d os = Stands r h (chip h.cells d) os

  keeps : (d : Device) → d.core.suspended ≡ k.suspended → ((i : ℕ) → RunsElsewhere i k → RunsElsewhere i d.core) → Kept d []
  keeps d s f = stands-still r h d s f

  acted-stands : (wp : Bool) (a : Action) → uncut_action a ≡ true → resumes_by h.device a ≡ false
      → Stands r h (leaves (acted_of r h wp a)) (action_starts r h.device wp a)
  unfolding read_of written_of
  acted-stands wp (Read a) u n =
      split (λ (s : Shown). Kept (with_core h.device s.core) []) (busy k) _ _
      (λ _. keeps _ refl (λ i n. n)) (λ _. keeps _ refl (λ i n. n))
  acted-stands wp (Write a x) u n =
      twice Kept (busy k) _ _ _ _
      (λ b. split (λ (d : Device). Kept d []) (suspending r k x) (device (suspend k) 0) h.device
      (λ s. apart (sym (alone r k.suspended k.running.kind k.running.address (both _ _ s).0 (w.runs b).free) ∙ y)) (λ _. keeps h.device refl (λ i n. n)))
      (λ z. twice Kept (resuming k h.device.stage x) (device (resume k) 0) _ [] _ (λ e. apart (sym (rw (z, e) at n)))
      (λ _. effect_is (λ (e : Effect). Kept (after_effect r k wp a x e) (effect_starts r k wp a x e)) r h.device.stage a x (λ _ _. keeps _ refl (λ i n. n))
      (λ c _. sampled (λ (n : Core) (os : List Operation). Kept (device n 0) os) r k wp a x c (λ _. keeps _ refl (λ i n. n))
      (λ p. record {
        same = refl;
        cell = λ i t. refl;
        programs = (beside r k.suspended c a (heeded r k wp c a p).0 y, tt);
        others = λ i n e. (refl, λ _. e.0);
      })) (λ _. keeps _ refl (λ i n. n))))
  acted-stands wp Idle u n = keeps h.device refl (λ i n. n)
  acted-stands wp (Cut s) u n = apart u

-- one cycle
after-stands : (part : ℕ) (h : Chip) (c : Cycle) → uncut_action c.action ≡ true → held h.device.core ≡ true → resumes part h c ≡ false
    → Stands (row_of part) h (after part h c) (started_by part h c)
unfolding after started_by cycle_of accepted_of resumes
after-stands part h c u y n =
    twice (λ (o : Outcome) (os : List Operation). Stands r h (leaves o) os) (eqb (cycle_refusal part (length h.cells) h.device c.action) 0) _ _ _ _
    (λ e. acts (accepted part _ _ _ (eqb-true _ _ e)) (rw e at n)) (λ _. stands-still r h h.device refl (λ i n. n))
  where
    r : Row
    r = row_of part

    s : Chip
    s = after_time r h c.elapsed

    acts : Accepted part (length h.cells) h.device c.action → resumes_by s.device c.action ≡ false
        → Stands r h (leaves (acted_of r s c.wp c.action)) (action_starts r s.device c.wp c.action)
    acts w z =
        let v = ranged r h.device.core (ranges r h.device w.state).1 in
        let t = ranged r s.device.core (ranges r s.device (after-time-range r h c.elapsed w.state)).1 in
        stands-then r h s (leaves (acted_of r s c.wp c.action)) [] (action_starts r s.device c.wp c.action) (time-stands r h c.elapsed v y)
        (acted-stands r s t (ap pending (time-holds r h.cells h.device.core c.elapsed) ∙ y) c.wp c.action u z)

-- WHILE SUSPENDED, over any list of cycles without a cut in which it is not resumed
pub stands : (part : ℕ) (cs : List Cycle) (h : Chip) → held h.device.core ≡ true → uncut cs ≡ true → unresumed part h cs ≡ true
    → Stands (row_of part) h (play part h cs) (started_in part h cs)
stands part [] h y u n = stands-still (row_of part) h h.device refl (λ i n. n)
stands part (c ∷ cs) h y u n =
    let v = both (uncut_action c.action) (uncut cs) u in
    let w = unless (resumes part h c) (unresumed part (after part h c) cs) n in
    let s = after-stands part h c v.0 y w.0 in
    stands-then (row_of part) h (after part h c) (play part (after part h c) cs) (started_by part h c) (started_in part (after part h c) cs)
    s (stands part cs (after part h c) (ap pending s.same ∙ y) v.1 w.1)

-- ---- from suspend to resume
-- B0H at any address while a sector or block erase runs, once the cycle's time has passed: suspended with what is left then, and no cell changed
pub suspended-is : (part : ℕ) (h : Chip) (e : ℕ) (wp : Bool) (a x : ℕ) → cycle_refusal part (length h.cells) h.device (Write a x) ≡ 0
    → let o = h.device.core.running in
    e < o.left → suspendable (row_of part) o.kind ≡ true → x % 256 ≡ 0xb0
    → after part h (cycle e wp (Write a x))
    ≡ chip h.cells (device (core ReadMode false false no_operation (operation o.kind o.address o.«data» (o.left - e) true)) 0)
unfolding after accepted_of settled_of written_of
suspended-is part h e wp a x z l s q =
    let k = h.device.core in
    let left = k.running.left in
    let g = accepted part (length h.cells) h.device (Write a x) z in
    let busy-now : ltb 0 left ≡ true = lt-ltb 0 left (omega arith) in
    let old = ((ranged (row_of part) k (ranges (row_of part) h.device g.state).1).runs busy-now).old in
    rw (accepted-cycle part h.cells h.device (cycle e wp (Write a x)) g)
    (simp (busy-now, lt-ltb e left l, lt-ltb 0 (left - e) (omega arith), s, eq-eqb (x % 256) 0xb0 q, old))

-- what had no more time left than passes is done
settled-rests : (r : Row) (cells : List ℕ) (k : Core) (e : ℕ) → k.running.left ≤ e → busy (settled_of r cells k e).core ≡ false
unfolding settled_of
settled-rests r cells k e l = split (λ (t : Settled). busy t.core ≡ false) (busy k) _ _ (λ _. rw (le-ltb e k.running.left l) refl) (λ b. b)

-- 30H at any address, nothing running once the cycle's time has passed and no sequence begun, resumes it
pub resumed-by : (part : ℕ) (h : Chip) (e : ℕ) (wp : Bool) (a x : ℕ) → held h.device.core ≡ true → cycle_refusal part (length h.cells) h.device (Write a x) ≡ 0
    → h.device.core.running.left ≤ e → h.device.stage ≡ 0 → x % 256 ≡ 0x30 → resumes part h (cycle e wp (Write a x)) ≡ true
unfolding resumes
resumed-by part h e wp a x y z l s q =
    let k = h.device.core in
    let n = (settled_of (row_of part) h.cells k e).core in
    let m : held n ≡ true = ap pending (time-holds (row_of part) h.cells k e) ∙ y in
    simp (z, settled-rests (row_of part) h.cells k e l, m, eq-eqb h.device.stage 0 s, eq-eqb (x % 256) 0x30 q)

-- a cycle that resumes is not refused, and does so once its time has passed
taken-so : (part : ℕ) (h : Chip) (c : Cycle) → resumes part h c ≡ true
    → (cycle_refusal part (length h.cells) h.device c.action ≡ 0) × (resumes_by (after_time (row_of part) h c.elapsed).device c.action ≡ true)
unfolding resumes
taken-so part h c z =
    let n = cycle_refusal part (length h.cells) h.device c.action in
    let v = both (eqb n 0) (resumes_by (after_time (row_of part) h c.elapsed).device c.action) z in
    (eqb-true n 0 v.0, v.1)

-- after any cycles without a cut, and any time, in which it was not resumed, a cycle that resumes it: the erase runs on with what was left
pub resumed-is : (part : ℕ) (cs : List Cycle) (h : Chip) → held h.device.core ≡ true → uncut cs ≡ true → unresumed part h cs ≡ true
    → (e : ℕ) (wp : Bool) (a : Action)
    → let k = play part h cs in
    let o = h.device.core.suspended in
    resumes part k (cycle e wp a) ≡ true
    → after part k (cycle e wp a)
    ≡ chip (after_time (row_of part) k e).cells (device (core ReadMode false false (operation o.kind o.address o.«data» o.left true) no_operation) 0)
unfolding after accepted_of written_of
resumed-is part cs h y u n e wp (Read a) z = apart (taken-so part (play part h cs) (cycle e wp (Read a)) z).1
resumed-is part cs h y u n e wp Idle z = apart (taken-so part (play part h cs) (cycle e wp Idle) z).1
resumed-is part cs h y u n e wp (Cut s) z = apart (taken-so part (play part h cs) (cycle e wp (Cut s)) z).1
resumed-is part cs h y u n e wp (Write a x) z =
    let k = play part h cs in
    let d = (after_time (row_of part) k e).device in
    let v = taken-so part k (cycle e wp (Write a x)) z in
    let w = unless (busy d.core) (resuming d.core d.stage x) v.1 in
    rw (accepted-cycle part k.cells k.device (cycle e wp (Write a x)) (accepted part (length k.cells) k.device (Write a x) v.0))
    (rw (w.0, w.1)
    (ap (λ (o : Operation). chip (after_time (row_of part) k e).cells (device (core ReadMode false false (operation o.kind o.address o.«data» o.left true) no_operation) 0))
    (time-holds (row_of part) k.cells k.device.core e ∙ (stands part cs h y u n).same)))

-- of one cycle
pub unresumed-one : (part : ℕ) (h : Chip) (c : Cycle) → unresumed part h (c ∷ []) ≡ not (resumes part h c)
unresumed-one part h c = by (resumes part h c)
  where
    by : (b : Bool) → pick b false true ≡ not b
    by true = refl
    by false = refl

-- and of a list, cycle after cycle
pub unresumed-then : (part : ℕ) (cs ds : List Cycle) (h : Chip) → unresumed part h (cs ++ ds) ≡ pick (unresumed part h cs) (unresumed part (play part h cs) ds) false
unresumed-then part [] ds h = refl
unresumed-then part (c ∷ cs) ds h = by (resumes part h c) (unresumed-then part cs ds (after part h c))
  where
    k : Chip
    k = after part h c

    by : (b : Bool) → unresumed part k (cs ++ ds) ≡ pick (unresumed part k cs) (unresumed part (play part k cs) ds) false
        → pick b false (unresumed part k (cs ++ ds)) ≡ pick (pick b false (unresumed part k cs)) (unresumed part (play part k cs) ds) false
    by true e = refl
    by false e = e

-- ---- bit 2
-- an erase is not told of outside its range, nor is a program anywhere
pub untold-outside : (r : Row) (o : Operation) (a : ℕ) → holdsb (cells_of r o) a ≡ false → tells r o a ≡ false
unfolding tells
untold-outside r o a n = simp (n, pick_same)

pub untold-program : (r : Row) (o : Operation) (a : ℕ) → o.kind ≡ 0 → tells r o a ≡ false
unfolding tells
untold-program r o a k = simp (eq-eqb o.kind 0 k, pick_same)

-- a read turns it over exactly where it shows it: of a busy chip where it tells of what runs, at rest where what is suspended veils the address
pub turned-exactly : (r : Row) (cells : List ℕ) (k : Core) (a : ℕ)
    → (read_of r cells k a).core.turned ≡ pick (pick (busy k) (tells r k.running a) (veils r k a)) (not k.turned) k.turned
unfolding read_of
turned-exactly r cells k a =
    twice (λ (s : Shown) (t : Bool). s.core.turned ≡ pick t (not k.turned) k.turned) (busy k) _ _ (tells r k.running a) (veils r k a) (λ _. refl) (λ _. refl)

-- ---- a part that cannot suspend
module _ (r : Row) (plain : r.suspends ≡ false) where
  -- nothing is suspended in any state in range
  pub never-held : (d : Device) → device_in_range r d ≡ true → held d.core ≡ false
  unfolding suspendable
  never-held d i = by (held d.core) refl
    where
      by : (b : Bool) → held d.core ≡ b → b ≡ false
      by true e = apart (rw plain at (held-valid r d.core.suspended ((ranged r d.core (ranges r d i).1).holds e)).0)
      by false e = refl

  -- its reads show no bit 2 and turn none over
  reads-plainly : (cells : List ℕ) (d : Device) (a : ℕ) → device_in_range r d ≡ true → let k = d.core in
      read_of r cells k a
      ≡ pick (busy k) (showing (bit7 k.running * 128 + bit6 k.running * 64) (with_running k (toggled k.running)))
      (showing (outputs_of r.width k.recent (mode_shows r cells k.mode a)) k)
  unfolding read_of tells
  reads-plainly cells d a i =
      let k = d.core in
      let n = bit7 k.running * 128 + bit6 k.running * 64 in
      let e : n + 0 * 4 ≡ n = omega arith in
      rw (unveiled r d.core a (never-held d i), silent k.running)
      (ap (λ (v : ℕ). pick (busy k) (showing v (with_running k (toggled k.running))) (showing (outputs_of r.width k.recent (mode_shows r cells k.mode a)) k)) e)
    where
      silent : (o : Operation) → tells r o a ≡ false
      silent o = rw plain

  -- B0H and 30H are what they were: while busy a write does nothing, else it has its effect
  writes-plainly : (d : Device) (wp : Bool) (a x : ℕ) → device_in_range r d ≡ true
      → written_of r d wp a x ≡ pick (busy d.core) d (after_effect r d.core wp a x (effect_of r d.stage a x))
  unfolding written_of suspendable
  writes-plainly d wp a x i = rw (plain, never-held d i) refl

  -- all is as it was before the wish
  pub as_before : (d : Device) → device_in_range r d ≡ true → AsBefore r d
  unfolding cut_of
  as_before d i =
      record {
        free = never-held d i;
        read = λ cells a. reads-plainly cells d a i;
        written = λ wp a x. writes-plainly d wp a x i;
        passed = λ wp c a. only-protected d.core (never-held d i) r wp c a;
        cut = λ cells s. rw (never-held d i) refl;
      }
