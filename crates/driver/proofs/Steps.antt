-- A step, phase by phase: it keeps a state in range, brings the end nearer, counts its polls, and once ended repeats itself.
use Rattle.std.specs.Prelude.{Some, None}
use Prim.Native.Nat.{ℕ, suc, zero-le, ◌+◌, ◌-◌, ◌≤◌, ◌<◌}
use mathlib.Core.Path.{◌≡◌, refl, sym, ◌∙◌}
use mathlib.Core.Bool.{Bool, true, false}
use native.Mathlib.Omega.{arith}
use borrow.Author.Tests.{ltb-true, ltb-false, leb-true, eqb-true, le-leb, lt-ltb, eq-eqb}
use lib.Dec.{eqb, ltb}
use Rattle.parts.specs.Width.{value_of}
use Rattle.parts.specs.Table.{row_of}
use Rattle.parts.proofs.Every.{apart, both, split}
use Rattle.device.specs.declared.cycle.Action.{Action}
use Rattle.device.specs.declared.cycle.Action.TheVariants.{Write}
use Rattle.driver.specs.declared.machine.Phase.{Phase}
use Rattle.driver.specs.declared.machine.Phase.TheVariants.{Writing, Polling, Confirming, Done, GaveUp, Differs}
use Rattle.driver.specs.declared.machine.Driver.{Driver}
use Rattle.driver.specs.Machine.{Next}
use Rattle.driver.specs.declared.machine.Step.{Step}
use Rattle.driver.specs.Refusals.{start_refusal}
use Rattle.driver.specs.Writes.{write_count}
use Rattle.driver.specs.Machine.{most_polls, some_up_to, count_fits, in_range, moved, step, ending, final, writing, confirmed, ended}
use Rattle.driver.specs.Machine.{value_wanted, after_write, next_write, writing_of, polls, confirms, matches, polling_of, confirming_of, phase_of, step_of}
use Rattle.driver.proofs.Ready.{valid-count}

-- a step of a state in range, and of one that is not
pub goes : (d : Driver) (read : ℕ) → in_range d ≡ true → step_of d read ≡ phase_of (row_of d.part) d.phase d read
unfolding step_of
goes d read e = rw e

pub refuses : (d : Driver) (read : ℕ) → in_range d ≡ false → step_of d read ≡ step 5 d None 0
unfolding step_of
refuses d read e = rw e

-- the same driver further on is in range where its count fits
pub moved-in-range : (d : Driver) (f : Phase) (n : ℕ) → in_range d ≡ true
    → count_fits f (write_count d.command) (most_polls (row_of d.part) d.command d.p) n ≡ true → in_range (moved d f n) ≡ true
unfolding in_range
moved-in-range d f n e c = rw (both (eqb (start_refusal d.part d.command d.address d.«data» d.p) 0) _ e).0 c

-- ---- the ways that a step can go
-- the polls named before a phase's count
abbrev pub polls_at : Phase → ℕ → ℕ
polls_at Writing n = 0
polls_at Polling n = n
polls_at Confirming n = n
polls_at Done n = n
polls_at GaveUp n = n
polls_at Differs n = n

-- 2N of a driver
abbrev pub most : Driver → ℕ
most d = most_polls (row_of d.part) d.command d.p

-- the write that comes next
abbrev pub write_next : Driver → Action
write_next d = Write (next_write (row_of d.part) d).address (next_write (row_of d.part) d).«data»

-- refused; a write, or the last one; a poll; the confirming read; or an end
pub data Way (d : Driver) : Step → Type 0 where
  refused : in_range d ≡ false → Way d (step 5 d None 0)
  writes : d.phase ≡ Writing → d.count + 1 < write_count d.command → Way d (step 0 (moved d Writing (d.count + 1)) (Some (0, write_next d)) 0)
  wrote : d.phase ≡ Writing → d.count + 1 ≡ write_count d.command → Way d (step 0 (moved d Polling 0) (Some (0, write_next d)) 0)
  waits : d.phase ≡ Polling → d.count < most d → Way d (polls d)
  matched : d.phase ≡ Polling → 0 < d.count → d.count ≤ most d → Way d (confirms d)
  ends : (f : Phase) → in_range d ≡ true → final f ≡ true → (writing f ≡ writing d.phase) × (confirmed f ≡ confirmed d.phase)
      → count_fits f (write_count d.command) (most d) d.count ≡ true → Way d (ended d f)

module _ (d : Driver) (read : ℕ) (e : in_range d ≡ true) where
  fits : (f : Phase) → d.phase ≡ f → count_fits f (write_count d.command) (most d) d.count ≡ true
  fits f q = rw q at (valid-count d e)

  at-writing : d.phase ≡ Writing → Way d (writing_of (row_of d.part) d)
  unfolding writing_of after_write
  at-writing q =
      split (λ (d' : Driver). Way d (step 0 d' (Some (0, write_next d)) 0)) (ltb (d.count + 1) (write_count d.command)) _ _
      (λ l. writes q (ltb-true _ _ l)) (λ l. wrote q (last (ltb-false _ _ l) (ltb-true _ _ (fits Writing q))))
    where
      last : write_count d.command ≤ d.count + 1 → d.count < write_count d.command → d.count + 1 ≡ write_count d.command
      last h l = omega arith

  at-polling : d.phase ≡ Polling → Way d (polling_of (row_of d.part) d read)
  unfolding polling_of matches
  at-polling q =
      split (Way d) (matches d read) _ _
      (λ m. matched q (ltb-true _ _ (both (ltb 0 d.count) _ m).0) most-count)
      (λ _. split (Way d) (ltb d.count (most d)) _ _ (λ l. waits q (ltb-true _ _ l))
      (λ l. ends GaveUp e refl (rw q (refl, refl)) (eq-eqb _ _ (all (ltb-false _ _ l)))))
    where
      most-count : d.count ≤ most d
      most-count = leb-true _ _ (fits Polling q)

      all : most d ≤ d.count → d.count ≡ most d
      all h = omega (arith, most-count)

  at-confirming : d.phase ≡ Confirming → Way d (confirming_of (row_of d.part) d read)
  unfolding confirming_of
  at-confirming q =
      split (Way d) (eqb (value_of (row_of d.part).width read) (value_wanted (row_of d.part) d.command d.«data»)) _ _
      (λ _. ends Done e refl (rw q (refl, refl)) (fits Confirming q)) (λ _. ends Differs e refl (rw q (refl, refl)) (fits Confirming q))

  by-phase : (f : Phase) → d.phase ≡ f → Way d (phase_of (row_of d.part) f d read)
  by-phase Writing q = at-writing q
  by-phase Polling q = at-polling q
  by-phase Confirming q = at-confirming q
  by-phase Done q = ends Done e refl (rw q (refl, refl)) (fits Done q)
  by-phase GaveUp q = ends GaveUp e refl (rw q (refl, refl)) (fits GaveUp q)
  by-phase Differs q = ends Differs e refl (rw q (refl, refl)) (fits Differs q)

pub way : (d : Driver) (read : ℕ) → Way d (step_of d read)
way d read = by (in_range d) refl
  where
    by : (b : Bool) → in_range d ≡ b → Way d (step_of d read)
    by true e = rw (goes d read e) (by-phase d read e d.phase refl)
    by false e = rw (refuses d read e) (refused e)

-- ---- what each step does
-- a step keeps a state in range, so a started driver is never refused
pub keeps : (d : Driver) (read : ℕ) → in_range d ≡ true → in_range (step_of d read).driver ≡ true
keeps d read e = go (step_of d read) (way d read)
  where
    go : (s : Step) → Way d s → in_range s.driver ≡ true
    go s (refused f) = apart (sym f ∙ e)
    go s (writes q l) = moved-in-range d Writing (d.count + 1) e (lt-ltb (d.count + 1) (write_count d.command) l)
    go s (wrote q l) = moved-in-range d Polling 0 e (le-leb 0 (most d) zero-le)
    go s (waits q l) = moved-in-range d Polling (d.count + 1) e (le-leb (d.count + 1) (most d) (omega (arith, l)))
    go s (matched q l h) = moved-in-range d Confirming d.count e (rw (lt-ltb 0 d.count l) (le-leb d.count (most d) h))
    go s (ends f i z c h) = moved-in-range d f d.count e h

-- ended, it repeats its ending; and so does a refused one
pub repeats : (d : Driver) (read again : ℕ) → (step_of d read).next ≡ None → step_of (step_of d read).driver again ≡ step_of d read
repeats d read again = go (step_of d read) (way d read) (keeps d read)
  where
    final-step : (f : Phase) (n : ℕ) → final f ≡ true → in_range (moved d f n) ≡ true → step_of (moved d f n) again ≡ ended (moved d f n) f
    final-step Writing n z i = apart z
    final-step Polling n z i = apart z
    final-step Confirming n z i = apart z
    final-step Done n z i = goes (moved d Done n) again i
    final-step GaveUp n z i = goes (moved d GaveUp n) again i
    final-step Differs n z i = goes (moved d Differs n) again i

    not-sent : (e : ℕ) (a : Action) (A : Type 0) → ◌≡◌ {A = Next} (Some (e, a)) None → A
    not-sent e a A h = let z : ◌≡◌ {A = ℕ} 0 1 = cc in absurd (omega arith)

    go : (s : Step) → Way d s → (in_range d ≡ true → in_range s.driver ≡ true) → s.next ≡ None → step_of s.driver again ≡ s
    go s (refused f) i h = refuses d again f
    go s (writes q l) i h = not-sent _ _ _ h
    go s (wrote q l) i h = not-sent _ _ _ h
    go s (waits q l) i h = not-sent _ _ _ h
    go s (matched q l m) i h = not-sent _ _ _ h
    go s (ends f e z c m) i h = final-step f d.count z (i e)

-- how many cycles are still to come at most, in a phase of w writes and at most m polls
abbrev pub left_in : Phase → ℕ → ℕ → ℕ → ℕ
left_in Writing w m n = w - n + (m + 1)
left_in Polling w m n = m - n + 1
left_in Confirming w m n = 0
left_in Done w m n = 0
left_in GaveUp w m n = 0
left_in Differs w m n = 0

abbrev pub left : Driver → ℕ
left d = left_in d.phase (write_count d.command) (most d) d.count

-- with the cycle that a step names
abbrev pub left_from : Next → Driver → ℕ
left_from None d = 0
left_from (Some (e, a)) d = suc (left d)

-- a step brings the end nearer
pub falls : (d : Driver) (read : ℕ) → left_from (step_of d read).next (step_of d read).driver ≤ left d
falls d read = go (step_of d read) (way d read)
  where
    go : (s : Step) → Way d s → left_from s.next s.driver ≤ left d
    go s (refused f) = zero-le
    go s (writes q l) = rw q (omega (arith, l))
    go s (wrote q l) = rw q (omega (arith, l))
    go s (waits q l) = rw q (omega (arith, l))
    go s (matched q l m) = rw q (omega arith)
    go s (ends f i z c h) = zero-le

-- the polls that a driver has named
abbrev pub polls_by : Driver → ℕ
polls_by d = polls_at d.phase d.count

-- at an end its count is of polls, and no write is left
pub final-polls : (f : Phase) → final f ≡ true → (n : ℕ) → polls_at f n ≡ n
final-polls Writing z n = apart z
final-polls Polling z n = refl
final-polls Confirming z n = refl
final-polls Done z n = refl
final-polls GaveUp z n = refl
final-polls Differs z n = refl

pub final-writing : (f : Phase) → final f ≡ true → writing f ≡ false
final-writing Writing z = apart z
final-writing Polling z = refl
final-writing Confirming z = refl
final-writing Done z = refl
final-writing GaveUp z = refl
final-writing Differs z = refl

-- the driver that a step hands back has as many as the result says
pub carries : (d : Driver) (read : ℕ) → in_range d ≡ true → polls_by (step_of d read).driver ≡ (step_of d read).polls
carries d read e = go (step_of d read) (way d read)
  where
    go : (s : Step) → Way d s → polls_by s.driver ≡ s.polls
    go s (refused f) = apart (sym f ∙ e)
    go s (writes q l) = refl
    go s (wrote q l) = refl
    go s (waits q l) = refl
    go s (matched q l m) = refl
    go s (ends f i z c h) = final-polls f z d.count

-- no more than 2N polls
pub few-polls : (d : Driver) → in_range d ≡ true → polls_by d ≤ most d
few-polls d e = by d.phase (valid-count d e)
  where
    some-few : some_up_to (most d) d.count ≡ true → d.count ≤ most d
    some-few h = leb-true _ _ (both (ltb 0 d.count) _ h).1

    by : (f : Phase) → count_fits f (write_count d.command) (most d) d.count ≡ true → polls_at f d.count ≤ most d
    by Writing h = zero-le
    by Polling h = leb-true _ _ h
    by Confirming h = some-few h
    by Done h = some-few h
    by GaveUp h = omega (arith, eqb-true d.count (most d) h)
    by Differs h = some-few h

-- what is asked stays
pub asks-on : (d : Driver) (read : ℕ) → (step_of d read).driver ≡ moved d (step_of d read).driver.phase (step_of d read).driver.count
asks-on d read = go (step_of d read) (way d read)
  where
    go : (s : Step) → Way d s → s.driver ≡ moved d s.driver.phase s.driver.count
    go s (refused f) = refl
    go s (writes q l) = refl
    go s (wrote q l) = refl
    go s (waits q l) = refl
    go s (matched q l m) = refl
    go s (ends f i z c h) = refl

-- the answer is the number of the phase that is handed back: 0, or 11 or 12 in its ending
pub answers : (d : Driver) (read : ℕ) → in_range d ≡ true → (step_of d read).answer ≡ ending (step_of d read).driver.phase
answers d read e = go (step_of d read) (way d read)
  where
    go : (s : Step) → Way d s → s.answer ≡ ending s.driver.phase
    go s (refused f) = apart (sym f ∙ e)
    go s (writes q l) = refl
    go s (wrote q l) = refl
    go s (waits q l) = refl
    go s (matched q l m) = refl
    go s (ends f i z c h) = refl

-- where it names nothing, its phase is one that ends
pub finishes : (d : Driver) (read : ℕ) → in_range d ≡ true → (step_of d read).next ≡ None → final (step_of d read).driver.phase ≡ true
finishes d read e = go (step_of d read) (way d read)
  where
    go : (s : Step) → Way d s → s.next ≡ None → final s.driver.phase ≡ true
    go s (refused f) h = apart (sym f ∙ e)
    go s (writes q l) h = let z : ◌≡◌ {A = ℕ} 0 1 = cc in absurd (omega arith)
    go s (wrote q l) h = let z : ◌≡◌ {A = ℕ} 0 1 = cc in absurd (omega arith)
    go s (waits q l) h = let z : ◌≡◌ {A = ℕ} 0 1 = cc in absurd (omega arith)
    go s (matched q l m) h = let z : ◌≡◌ {A = ℕ} 0 1 = cc in absurd (omega arith)
    go s (ends f i z c m) h = z

-- ---- what is known of a step of a state in range
pub record StepInRange (s : Step) : Type 0 where
  pub range : in_range s.driver ≡ true
  pub carried : polls_by s.driver ≡ s.polls
  pub number : s.answer ≡ ending s.driver.phase
  pub finished : s.next ≡ None → final s.driver.phase ≡ true
  pub again : s.next ≡ None → (read : ℕ) → step_of s.driver read ≡ s

pub kept : (d : Driver) (read : ℕ) → in_range d ≡ true → StepInRange (step_of d read)
kept d read e = record { range = keeps d read e; carried = carries d read e; number = answers d read e; finished = finishes d read e; again = λ h r. repeats d read r h }
