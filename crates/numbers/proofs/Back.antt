-- States cross to C and back: the numbers of a state are read as that state, and a refused call hands back the numbers as they came.
use Rattle.std.specs.Prelude.{None}
use Prim.Native.Nat.{ℕ, zero, suc, ◌<◌, ◌≤◌}
use mathlib.Core.Path.{◌≡◌, refl, sym, ap, ◌∙◌}
use mathlib.Core.Bool.{Bool, true, false}
use mathlib.Core.List.{List}
use native.Mathlib.Omega.{arith}
use lib.Dec.{eqb, ltb}
use borrow.Author.Tests.{lt-ltb, le-ltb}
use Rattle.parts.specs.Pick.{pick, ◌when◌, ◌else◌}
use Rattle.parts.specs.Width.{value_of}
use Rattle.parts.specs.Table.{row_of}
use Rattle.parts.specs.declared.table.Row.{Row}
use Rattle.parts.proofs.Every.{apart, split}
use Rattle.driver.specs.declared.machine.Phase.{Phase}
use Rattle.driver.specs.declared.machine.Phase.TheVariants.{Writing, Polling, Confirming, Done, GaveUp, Differs}
use Rattle.driver.specs.declared.machine.Driver.{Driver}
use Rattle.driver.specs.declared.machine.Step.{Step}
use Rattle.driver.specs.Machine.{driver, in_range, value_wanted, ended, matches, most_polls, polls, confirms, writing_of, polling_of, confirming_of, phase_of, step_of}
use Rattle.bus.proofs.Back.{level-back}
use Rattle.job.specs.declared.loader.Stage.{Stage}
use Rattle.job.specs.declared.loader.Stage.TheVariants.{Scanning, Looking, Driving}
use Rattle.job.specs.declared.loader.Task.TheVariants.{Erasing, Filling, Burning}
use Rattle.job.specs.declared.loading.Progress.{Progress}
use Rattle.job.specs.declared.loading.Progress.TheVariants.{Waiting, Within, Over}
use Rattle.job.specs.declared.loading.Loading.{Loading}
use Rattle.job.specs.Loader.{loader}
use Rattle.job.specs.Loading.{loading, is_ending, moved_to, load_turn, LoadTurned, load_turned, load_turn_of}
use Rattle.job.proofs.AsItCame.{as-it-came}
use Rattle.numbers.specs.declared.machine.DriverNumbers.{DriverNumbers}
use Rattle.numbers.specs.Machine.{phase_number, phase_at, driver_numbers, driver_of, next_numbers, next_of, step_numbers, no_driver_state, stepped_of}
use Rattle.numbers.specs.declared.loading.LoadingNumbers.{LoadingNumbers}
use Rattle.numbers.specs.Loading.{stage_numbers, progress_numbers, loading_numbers, task_at, stage_at, progress_at, loading_of, no_turn, turn_numbers, TurnedNumbers, told_turned, turned_numbers, no_state_turned, turned_of}

-- ---- the driver
phase-back : (f : Phase) → phase_at (phase_number f) ≡ f
unfolding phase_at
phase-back Writing = refl
phase-back Polling = refl
phase-back Confirming = refl
phase-back Done = refl
phase-back GaveUp = refl
phase-back Differs = refl

-- the numbers of a driver are read as that driver
pub driver-back : (d : Driver) → driver_of (driver_numbers d) ≡ d
driver-back d = ap (λ (f : Phase). driver d.part d.command d.address d.«data» d.p f d.count) (phase-back d.phase)

phase-known : (f : Phase) → ltb 5 (phase_number f) ≡ false
phase-known Writing = refl
phase-known Polling = refl
phase-known Confirming = refl
phase-known Done = refl
phase-known GaveUp = refl
phase-known Differs = refl

-- a step on the numbers of a driver is the numbers of its step
pub step-of-driver : (d : Driver) (read : ℕ) → stepped_of (driver_numbers d) read ≡ step_numbers (step_of d read)
unfolding stepped_of
step-of-driver d read = simp (phase-known d.phase, driver-back d)

number-back : (k : ℕ) → k ≤ 5 → phase_number (phase_at k) ≡ k
unfolding phase_at
number-back zero h = refl
number-back (suc zero) h = refl
number-back (suc (suc zero)) h = refl
number-back (suc (suc (suc zero))) h = refl
number-back (suc (suc (suc (suc zero)))) h = refl
number-back (suc (suc (suc (suc (suc zero))))) h = refl
number-back (suc (suc (suc (suc (suc (suc k)))))) h = absurd (omega arith)

-- numbers with a phase are those of the driver that they are read as
pub numbers-back : (n : DriverNumbers) → n.phase ≤ 5 → driver_numbers (driver_of n) ≡ n
numbers-back n h =
    ap (λ (f : ℕ). numbers n.part n.command n.address n.«data» n.p f n.count) (number-back n.phase h)
  where
    numbers : ℕ → ℕ → ℕ → ℕ → ℕ → ℕ → ℕ → DriverNumbers
    numbers a b c d e f g = record { part = a; command = b; address = c; «data» = d; p = e; phase = f; count = g }

-- numbers that are no state in range: 5, no cycle, no polls, and the numbers as they came
pub no-phase : (n : DriverNumbers) (read : ℕ) → 5 < n.phase → stepped_of n read ≡ no_driver_state n
unfolding stepped_of
no-phase n read h = simp (lt-ltb _ _ h)

pub out_of_range : (n : DriverNumbers) (read : ℕ) → n.phase ≤ 5 → in_range (driver_of n) ≡ false → stepped_of n read ≡ no_driver_state n
unfolding stepped_of step_of
out_of_range n read h e = simp (le-ltb _ _ h, e, numbers-back n h)

-- ---- the cycle that a step names: it sends nothing but reads and writes, so its numbers tell which
abbrev pub NextBack : Step → Type 0
NextBack s = next_of (next_numbers s.next) ≡ s.next

phases-name : (r : Row) (f : Phase) (d : Driver) (read : ℕ) → NextBack (phase_of r f d read)
unfolding next_of writing_of polling_of confirming_of
phases-name r Writing d read = refl
phases-name r Polling d read =
    split NextBack (matches d read) (confirms d) (pick (ltb d.count (most_polls r d.command d.p)) (polls d) (ended d GaveUp)) (λ _. refl)
    (λ _. split NextBack (ltb d.count (most_polls r d.command d.p)) (polls d) (ended d GaveUp) (λ _. refl) (λ _. refl))
phases-name r Confirming d read =
    split NextBack (eqb (value_of r.width read) (value_wanted r d.command d.«data»)) (ended d Done) (ended d Differs) (λ _. refl) (λ _. refl)
phases-name r Done d read = refl
phases-name r GaveUp d read = refl
phases-name r Differs d read = refl

pub next-back : (d : Driver) (read : ℕ) → NextBack (step_of d read)
unfolding next_of step_of
next-back d read = split NextBack (in_range d) _ _ (λ _. phases-name (row_of d.part) d.phase d read) (λ _. refl)

-- ---- the job under way
-- as far as the numbers say
abbrev levelled : Loading → Progress → Bool → Loading
levelled g x b = loading g.part g.first g.count b g.p x

stage-back : (g : Loading) (s : Stage) (base i : ℕ) → loading_of (stage_numbers g s base i) ≡ moved_to g (Within (loader s base i))
unfolding progress_at stage_at task_at
stage-back g Scanning base i = ap (levelled g (Within (loader Scanning base i))) (level-back g.wp)
stage-back g Looking base i = ap (levelled g (Within (loader Looking base i))) (level-back g.wp)
stage-back g (Driving Erasing d) base i = simp (level-back g.wp, driver-back d)
stage-back g (Driving Filling d) base i = simp (level-back g.wp, driver-back d)
stage-back g (Driving Burning d) base i = simp (level-back g.wp, driver-back d)

progress-back : (g : Loading) (x : Progress) → loading_of (progress_numbers g x) ≡ moved_to g x
unfolding progress_at
progress-back g Waiting = ap (levelled g Waiting) (level-back g.wp)
progress-back g (Within l) = stage-back g l.stage l.base l.at
progress-back g (Over n) = ap (levelled g (Over n)) (level-back g.wp)

-- the numbers of a job under way are read as that job
pub loading-back : (g : Loading) → loading_of (loading_numbers g) ≡ g
loading-back g = progress-back g g.progress

-- they are numbers of a state: no farther than 6, no phase above 5
abbrev Known : LoadingNumbers → Type 0
Known n = (ltb 6 n.progress ≡ false) × (ltb 5 n.driver.phase ≡ false)

stage-known : (g : Loading) (s : Stage) (base i : ℕ) → Known (stage_numbers g s base i)
stage-known g Scanning base i = (refl, refl)
stage-known g Looking base i = (refl, refl)
stage-known g (Driving Erasing d) base i = (refl, phase-known d.phase)
stage-known g (Driving Filling d) base i = (refl, phase-known d.phase)
stage-known g (Driving Burning d) base i = (refl, phase-known d.phase)

progress-known : (g : Loading) (x : Progress) → Known (progress_numbers g x)
progress-known g Waiting = (refl, refl)
progress-known g (Within l) = stage-known g l.stage l.base l.at
progress-known g (Over n) = (refl, refl)

-- a refused turn on the numbers of a job hands back those numbers, as its own job is handed back as it came
refused-told : (g : Loading) (seen : List ℕ) (t : LoadTurned) → (is_ending t.turn.answer ≡ false → t ≡ load_turned seen (load_turn t.turn.answer g None))
    → turned_numbers (loading_numbers g) t ≡ told_turned t
unfolding turn_numbers
refused-told g seen t h = by (is_ending t.turn.answer) refl
  where
    by : (b : Bool) → is_ending t.turn.answer ≡ b → turned_numbers (loading_numbers g) t ≡ told_turned t
    by true e = rw e
    by false e =
        rw e
        (ap (λ (u : LoadTurned). refused u.seen) (h e) ∙ sym (ap told_turned (h e)))
      where
        refused : List ℕ → TurnedNumbers
        refused s = record { seen = s; turn = no_turn t.turn.answer (loading_numbers g) }

-- a turn on the numbers of a job is the numbers of its turn
pub turn-of-loading : (g : Loading) (image seen : List ℕ) (read : ℕ) → turned_of (loading_numbers g) image seen read ≡ told_turned (load_turn_of g image seen read)
unfolding turned_of
turn-of-loading g image seen read =
    let k = progress-known g g.progress in
    rw (k.0, k.1, loading-back g) (refused-told g seen (load_turn_of g image seen read) (as-it-came g image seen read))

-- numbers that are no state: 5, no cycle, the numbers and the values seen as they came
pub no-progress : (n : LoadingNumbers) (image seen : List ℕ) (read : ℕ) → 6 < n.progress → turned_of n image seen read ≡ no_state_turned n seen
unfolding turned_of
no-progress n image seen read h = rw (lt-ltb _ _ h)

pub no-driver-phase : (n : LoadingNumbers) (image seen : List ℕ) (read : ℕ) → n.progress ≤ 6 → 5 < n.driver.phase → turned_of n image seen read ≡ no_state_turned n seen
unfolding turned_of
no-driver-phase n image seen read h k = rw (le-ltb _ _ h, lt-ltb _ _ k)

-- and so any turn that is refused, with its own number
pub refused-turn : (n : LoadingNumbers) (image seen : List ℕ) (read : ℕ) → is_ending (turned_of n image seen read).turn.answer ≡ false
    → turned_of n image seen read ≡ record { seen = seen; turn = no_turn (turned_of n image seen read).turn.answer n }
unfolding turned_of turn_numbers
refused-turn n image seen read = by (ltb 6 n.progress) (ltb 5 n.driver.phase)
  where
    t : LoadTurned
    t = load_turn_of (loading_of n) image seen read

    refused : List ℕ → TurnedNumbers
    refused s = record { seen = s; turn = no_turn t.turn.answer n }

    last : (b : Bool) → is_ending t.turn.answer ≡ b → let u = turned_numbers n t in
        is_ending u.turn.answer ≡ false → u ≡ record { seen = seen; turn = no_turn u.turn.answer n }
    last true e = rw e (λ f. apart (sym f ∙ e))
    last false e = rw e (λ f. ap (λ (u : LoadTurned). refused u.seen) (as-it-came (loading_of n) image seen read e))

    by : (b d : Bool) → let u = no_state_turned n seen when b else no_state_turned n seen when d else turned_numbers n t in
        is_ending u.turn.answer ≡ false → u ≡ record { seen = seen; turn = no_turn u.turn.answer n }
    by true d = λ _. refl
    by false true = λ _. refl
    by false false = last (is_ending t.turn.answer) refl
