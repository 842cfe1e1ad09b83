-- What is known of an accepted cycle and of a state in range.
use Prim.Native.Nat.{ℕ, ◌+◌, ◌≤◌, ◌<◌}
use mathlib.Core.Path.{◌≡◌, refl, sym, ap, ◌∙◌}
use mathlib.Core.Bool.{Bool, true, false, not}
use native.Mathlib.Omega.{arith}
use borrow.Author.Tests.{ltb-true, ltb-false, lt-ltb, le-ltb, le-leb, eqb-true, eq-eqb}
use lib.Dec.{eqb, ltb}
use Rattle.parts.specs.Pick.{pick}
use Rattle.parts.specs.Width.{fits_in}
use Rattle.parts.specs.Table.{row_of, part_refusal}
use Rattle.parts.specs.Span.{has_blocks}
use Rattle.parts.specs.Time.{has_command, time_of}
use Rattle.parts.specs.declared.span.Span.{Span}
use Rattle.parts.specs.declared.table.Row.{Row}
use Rattle.parts.proofs.Every.{apart, both, unless, given, pick_same, split}
use Rattle.parts.proofs.Sound.{width-least, width-most, device-word}
use Rattle.parts.proofs.Ranges.{sector-fits, block-fits}
use Rattle.parts.proofs.Refused.{zero_left, none_first}
use Rattle.commands.specs.declared.effect.Mode.{Mode}
use Rattle.commands.specs.declared.effect.Mode.TheVariants.{ReadMode, Identification}
use Rattle.device.specs.declared.state.Operation.{Operation}
use Rattle.device.specs.declared.state.Core.{Core}
use Rattle.device.specs.declared.state.Device.{Device}
use Rattle.device.specs.declared.cycle.Action.{Action}
use Rattle.device.specs.declared.cycle.Action.TheVariants.{Read, Write}
use Rattle.device.specs.Device.{restarted, pending, aged_by, device, busy, held, reads, suspendable, barred, valid_operation, runs_in_range, valid_suspended, held_in_range, core_in_range, stage_in_range, device_in_range}
use Rattle.device.specs.Operation.{cells_of}
use Rattle.device.specs.Cycle.{action_refusal, cycle_refusal}
use Rattle.device.specs.Needs.{InWords, RunsInside}

-- ---- an accepted cycle
pub record Accepted (part n : ℕ) (d : Device) (a : Action) : Type 0 where
  pub known : part_refusal part ≡ 0
  pub whole : n ≡ (row_of part).cells
  pub state : device_in_range (row_of part) d ≡ true
  pub reach : action_refusal (row_of part) a ≡ 0

pub accepted : (part n : ℕ) (d : Device) (a : Action) → cycle_refusal part n d a ≡ 0 → Accepted part n d a
unfolding cycle_refusal
accepted part n d a e =
    let f = none_first _ _ e in
    let g = zero_left _ _ 1 f.1 in
    let h = zero_left _ _ 4 g.1 in
    record { known = f.0; whole = eqb-true _ _ g.0; state = h.0; reach = h.1 }

pub accepting : (part n : ℕ) (d : Device) (a : Action) → Accepted part n d a → cycle_refusal part n d a ≡ 0
unfolding cycle_refusal
accepting part n d a w = simp (w.known, eq-eqb _ _ w.whole, w.state) w.reach

pub read-there : (r : Row) (a : ℕ) → action_refusal r (Read a) ≡ 0 → a < r.cells
unfolding action_refusal
read-there r a e = ltb-true _ _ (zero_left _ 0 2 e).0

pub write-there : (r : Row) (a x : ℕ) → action_refusal r (Write a x) ≡ 0 → (a < r.cells) × (fits_in r.width x ≡ true)
unfolding action_refusal
write-there r a x e = let w = zero_left _ _ 2 e in (ltb-true _ _ w.0, (zero_left _ 0 3 w.1).0)

-- ---- a core in range
-- with an operation that runs
pub record Valid (r : Row) (k : Core) : Type 0 where
  pub command : has_command r k.running.kind ≡ true
  pub time : k.running.left ≤ time_of r k.running.kind
  pub there : k.running.address < r.cells
  pub fits : fits_in r.width k.running.«data» ≡ true
  pub mode : k.mode ≡ ReadMode
  pub old : k.recent ≡ false
  pub free : barred r k.suspended k.running.kind k.running.address ≡ false

-- with what runs and what is suspended, each where there is one
pub record Ranged (r : Row) (k : Core) : Type 0 where
  pub runs : busy k ≡ true → Valid r k
  pub holds : held k ≡ true → valid_suspended r k.suspended ≡ true

pub read-mode : (m : Mode) → reads m ≡ true → m ≡ ReadMode
read-mode ReadMode e = refl
read-mode Identification e = apart e

-- a valid operation, by its parts
valid-parts : (r : Row) (o : Operation) → valid_operation r o ≡ true
    → (has_command r o.kind ≡ true) × ((o.left ≤ time_of r o.kind) × ((o.address < r.cells) × (fits_in r.width o.«data» ≡ true)))
unfolding valid_operation
valid-parts r o e =
    let h = both _ _ e in
    let i = unless _ _ h.1 in
    let j = both _ _ i.1 in
    (h.0, (ltb-false _ _ i.0, (ltb-true _ _ j.0, j.1)))

parts-valid : (r : Row) (o : Operation) → has_command r o.kind ≡ true → o.left ≤ time_of r o.kind → o.address < r.cells → fits_in r.width o.«data» ≡ true
    → valid_operation r o ≡ true
unfolding valid_operation
parts-valid r o c t a f = simp (c, le-ltb _ _ t, lt-ltb _ _ a) f

-- where nothing is suspended, nothing is barred
pub free-alone : (r : Row) (s : Operation) (c a : ℕ) → pending s ≡ false → barred r s c a ≡ false
unfolding barred
free-alone r s c a n = rw n

-- not barred where what is suspended is in range
not-barred : (b : Bool) → not b ≡ true → b ≡ false
not-barred true e = apart e
not-barred false e = refl

pub ranged : (r : Row) (k : Core) → core_in_range r k ≡ true → Ranged r k
unfolding core_in_range runs_in_range held_in_range
ranged r k e =
    record {
      runs = λ b.
          let f = unless k.recent _ (given (busy k) (pick k.recent false (pick (reads k.mode) (valid_operation r k.running) false)) b w.0) in
          let g = both (reads k.mode) (valid_operation r k.running) f.1 in
          let v = valid-parts r k.running g.1 in
          record { command = v.0; time = v.1.0; there = v.1.1.0; fits = v.1.1.1; mode = read-mode k.mode g.0; old = f.0; free = free b (held k) refl };
      holds = λ h. (parts h).0;
    }
  where
    beside : Bool
    beside = pick (busy k) (not (barred r k.suspended k.running.kind k.running.address)) true

    w : (pick (busy k) (pick k.recent false (pick (reads k.mode) (valid_operation r k.running) false)) true ≡ true)
        × (pick (held k) (pick (valid_suspended r k.suspended) beside false) true ≡ true)
    w = both (pick (busy k) (pick k.recent false (pick (reads k.mode) (valid_operation r k.running) false)) true) (pick (held k) (pick (valid_suspended r k.suspended) beside false) true) e

    parts : held k ≡ true → (valid_suspended r k.suspended ≡ true) × (beside ≡ true)
    parts h = both (valid_suspended r k.suspended) beside (given (held k) (pick (valid_suspended r k.suspended) beside false) h w.1)

    free : busy k ≡ true → (t : Bool) → held k ≡ t → barred r k.suspended k.running.kind k.running.address ≡ false
    free b true h = not-barred _ (given (busy k) (not (barred r k.suspended k.running.kind k.running.address)) b (parts h).1)
    free b false h = free-alone r k.suspended k.running.kind k.running.address h

pub core-range : (r : Row) (k : Core) → Ranged r k → core_in_range r k ≡ true
unfolding core_in_range runs_in_range held_in_range
core-range r k w = rw (where-so (busy k) _ runs, where-so (held k) _ holds)
  where
    where-so : (b c : Bool) → (b ≡ true → c ≡ true) → pick b c true ≡ true
    where-so true c f = f refl
    where-so false c f = refl

    runs : busy k ≡ true → pick k.recent false (pick (reads k.mode) (valid_operation r k.running) false) ≡ true
    runs b = let v = w.runs b in simp (v.old, v.mode) (parts-valid r k.running v.command v.time v.there v.fits)

    holds : held k ≡ true → pick (valid_suspended r k.suspended) (pick (busy k) (not (barred r k.suspended k.running.kind k.running.address)) true) false ≡ true
    holds h = rw (w.holds h) (where-so (busy k) _ (λ b. ap not (w.runs b).free))

-- what is suspended is valid, and can be
pub held-valid : (r : Row) (s : Operation) → valid_suspended r s ≡ true → (suspendable r s.kind ≡ true) × (valid_operation r s ≡ true)
unfolding valid_suspended
held-valid r s e = both (suspendable r s.kind) (valid_operation r s) e

pub held_fits : (r : Row) (s : Operation) → valid_suspended r s ≡ true → fits_in r.width s.«data» ≡ true
held_fits r s e = (valid-parts r s (held-valid r s e).1).1.1.1

-- what runs is valid whatever bit 6 shows next
pub runs-on-valid : (r : Row) (k : Core) → Valid r k → valid_operation r (restarted k.running) ≡ true
runs-on-valid r k v = parts-valid r (restarted k.running) v.command v.time v.there v.fits

-- and a valid operation runs in read mode with no completion 0 µs old and nothing that bars it
pub valid-from : (r : Row) (k : Core) → k.mode ≡ ReadMode → k.recent ≡ false → barred r k.suspended k.running.kind k.running.address ≡ false
    → valid_operation r k.running ≡ true → Valid r k
valid-from r k m n f e =
    let w = valid-parts r k.running e in
    record { command = w.0; time = w.1.0; there = w.1.1.0; fits = w.1.1.1; mode = m; old = n; free = f }

pub busy-valid : (r : Row) (k : Core) → core_in_range r k ≡ true → busy k ≡ true → Valid r k
busy-valid r k e b = (ranged r k e).runs b

-- with an operation that runs and nothing suspended
pub valid-range : (r : Row) (k : Core) → held k ≡ false → Valid r k → core_in_range r k ≡ true
valid-range r k n v = core-range r k (record { runs = λ _. v; holds = λ h. apart (sym n ∙ h) })

-- at rest any core is in range whose suspended erase is
pub rests-range : (r : Row) (k : Core) → busy k ≡ false → (held k ≡ true → valid_suspended r k.suspended ≡ true) → core_in_range r k ≡ true
rests-range r k b h = core-range r k (record { runs = λ e. apart (sym b ∙ e); holds = h })

pub rest-range : (r : Row) (k : Core) → busy k ≡ false → held k ≡ false → core_in_range r k ≡ true
rest-range r k b n = rests-range r k b (λ h. apart (sym n ∙ h))

-- ---- a device in range: its stage, and its core
pub in-range : (r : Row) (k : Core) (s : ℕ) → stage_in_range k s ≡ true → core_in_range r k ≡ true → device_in_range r (device k s) ≡ true
unfolding device_in_range
in-range r k s i j = rw (i, j)

pub ranges : (r : Row) (d : Device) → device_in_range r d ≡ true → (stage_in_range d.core d.stage ≡ true) × (core_in_range r d.core ≡ true)
unfolding device_in_range
ranges r d e = both (stage_in_range d.core d.stage) (core_in_range r d.core) e

-- no sequence begun is in range beside any core, and a stage at rest within the seven
pub stage-none : (k : Core) → stage_in_range k 0 ≡ true
unfolding stage_in_range
stage-none k = pick_same (busy k) true

pub stage-rests : (k : Core) (s : ℕ) → busy k ≡ false → s ≤ 6 → stage_in_range k s ≡ true
unfolding stage_in_range
stage-rests k s b h = simp (b, le-leb s 6 h)

-- time at rest leaves the stage in range
pub stage-ages : (k : Core) (s e : ℕ) → stage_in_range k s ≡ true → stage_in_range (aged_by k e) s ≡ true
unfolding stage_in_range
stage-ages k s e i = i

pub stage-busy : (k : Core) (s : ℕ) → stage_in_range k s ≡ true → busy k ≡ true → s ≡ 0
unfolding stage_in_range
stage-busy k s i b = eqb-true s 0 (rw b at i)

-- ---- a known part
pub in_words : (n : ℕ) → part_refusal n ≡ 0 → InWords (row_of n)
in_words n k = record { values = width-most n k; bit-7 = width-least n k; identity = device-word n k }

-- the cells of an operation lie among the part's
pub inside-cells : (n : ℕ) → part_refusal n ≡ 0 → (o : Operation) → has_command (row_of n) o.kind ≡ true → o.address < (row_of n).cells
    → (cells_of (row_of n) o).first + (cells_of (row_of n) o).count ≤ (row_of n).cells
unfolding cells_of has_command
inside-cells n k o c t =
    split Inside (eqb o.kind 0) _ _ (λ _. omega arith)
    (λ _. split Inside (eqb o.kind 1) _ _ (λ _. sector-fits n k o.address t)
    (λ _. split Inside (eqb o.kind 2) _ _ (λ e. block-fits n k o.address t
    (given (eqb o.kind 2) (has_blocks (row_of n)) e (unless (ltb 3 o.kind) (pick (eqb o.kind 2) (has_blocks (row_of n)) true) c).1)) (λ _. omega arith)))
  where
    Inside : Span → Type 0
    Inside s = s.first + s.count ≤ (row_of n).cells

pub runs-inside : (n : ℕ) → part_refusal n ≡ 0 → (k : Core) (m : ℕ) → core_in_range (row_of n) k ≡ true → m ≡ (row_of n).cells → RunsInside (row_of n) k m
runs-inside n known k m e w =
    record {
      inside = λ b. let v = (ranged (row_of n) k e).runs b in omega (arith, inside-cells n known k.running v.command v.there);
      held-inside = λ h. let v = valid-parts (row_of n) k.suspended (held-valid (row_of n) k.suspended ((ranged (row_of n) k e).holds h)).1 in
          omega (arith, inside-cells n known k.suspended v.0 v.1.1.0);
    }
