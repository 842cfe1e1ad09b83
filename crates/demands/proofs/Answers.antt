-- What each exported function answers. What is proved stands in specs/Answers.antt.
use Prim.Native.Nat.{ℕ, ◌<◌}
use mathlib.Core.Path.{◌≡◌, refl, sym, ap, ◌∙◌}
use mathlib.Core.Bool.{Bool, true, false}
use native.Mathlib.Omega.{arith}
use borrow.Author.Tests.{eq-eqb, ltb-true}
use lib.Dec.{eqb, ltb}
use lib.ListN.{get_or}
use Rattle.parts.specs.Pick.{pick}
use Rattle.parts.specs.Width.{value_of}
use Rattle.parts.specs.Table.{row_of}
use Rattle.table.specs.Figures.{Figure, figure_of}
use Rattle.parts.specs.declared.table.Row.{Row}
use Rattle.parts.proofs.Every.{apart, split}
use Rattle.parts.proofs.Refused.{zero_left, none_first}
use Rattle.driver.specs.declared.machine.Phase.{Phase}
use Rattle.driver.specs.declared.machine.Phase.TheVariants.{Writing, Polling, Confirming, Done, GaveUp, Differs}
use Rattle.driver.specs.declared.machine.Driver.{Driver}
use Rattle.driver.specs.declared.machine.Step.{Step}
use Rattle.driver.specs.Refusals.{command_refusal}
use Rattle.driver.specs.Writes.{no_write, write_count, writes_of, writes, command_writes, Kth, kth, kth_write}
use Rattle.driver.specs.Machine.{start_of, step_of, phase_of, writing_of, polling_of, confirming_of, matches, most_polls, polls, ended, value_wanted, in_range, writing}
use Rattle.driver.proofs.Places.{place_at}
use Rattle.jobfile.specs.JobFile.{job_of}
use Rattle.demands.specs.Calls.{StepCall, to_step, WritesCall, ToWrite, to_write, KthCall, kth_asked, refused_kth, row_asked, kth_told, writes_told}
use Rattle.demands.specs.Answers.{without_k, Answers}

-- one test decides, and it passes
taken : {A : Type 0} (n : ℕ) (good bad : A) → n ≡ 0 → pick (eqb n 0) good bad ≡ good
taken n good bad z = rw (eq-eqb n 0 z)

-- ---- a step's polls, phase by phase
Polled : Bool → Step → Type 0
Polled w s = (w ≡ true → s.polls ≡ 0) × (w ≡ false → s.polls ≡ s.driver.count)

phases-polled : (r : Row) (f : Phase) (d : Driver) (read : ℕ) → Polled (writing f) (phase_of r f d read)
unfolding Polled writing_of polling_of confirming_of
phases-polled r Writing d read = (λ _. refl, λ e. apart (sym e))
phases-polled r Polling d read =
    split (Polled false) (matches d read) _ _ (λ _. (λ e. apart e, λ _. refl))
    (λ _. split (Polled false) (ltb d.count (most_polls r d.command d.p)) (polls d) (ended d GaveUp) (λ _. (λ e. apart e, λ _. refl)) (λ _. (λ e. apart e, λ _. refl)))
phases-polled r Confirming d read =
    split (Polled false) (eqb (value_of r.width read) (value_wanted r d.command d.«data»)) (ended d Done) (ended d Differs) (λ _. (λ e. apart e, λ _. refl)) (λ _. (λ e. apart e, λ _. refl))
phases-polled r Done d read = (λ e. apart e, λ _. refl)
phases-polled r GaveUp d read = (λ e. apart e, λ _. refl)
phases-polled r Differs d read = (λ e. apart e, λ _. refl)

steps-polled : (c : StepCall) → in_range (to_step c).driver ≡ true → Polled (writing (to_step c).driver.phase) c.back
unfolding step_of
steps-polled c i = let d = (to_step c).driver in rw (c.promise, i) (phases-polled (row_of d.part) d.phase d (to_step c).read)

-- ---- the k-th write among the writes together
few-writes : (command k : ℕ) → k < write_count command → k < 6
unfolding write_count
few-writes command k = split (λ (n : ℕ). k < n → k < 6) (eqb command 0) 4 6 (λ _ l. omega arith) (λ _ l. omega arith)

among : (c : KthCall) (w : WritesCall) → let g = kth_asked c.given in without_k g ≡ to_write w → refused_kth g ≡ 0
    → kth_told c ≡ kth 0 (get_or (writes_told w).writes g.k no_write)
unfolding kth_write command_writes
among c w e z =
    let g = kth_asked c.given in
    let f = none_first (command_refusal g.part g.command g.address g.word) _ z in
    let k = few-writes g.command g.k (ltb-true _ _ (zero_left (ltb g.k (write_count g.command)) 0 14 f.1).0) in
    let ws = writes_of (row_of g.part) g.command g.address g.word in
    let t : writes_told w ≡ writes 0 (write_count g.command) ws =
    w.promise
    ∙ (ap (λ (t : ToWrite). command_writes t.part t.command t.address t.word) (sym e)
    ∙ taken (command_refusal g.part g.command g.address g.word) _ _ f.0) in
    c.promise ∙ (taken (refused_kth g) _ _ z ∙ ap (kth 0) (sym (place_at (writes_told w) 0 (write_count g.command) ws g.k t k)))

pub answers : Answers
unfolding figure_of kth_write command_writes start_of job_of Polled
answers =
    record {
      row-given = λ c z. c.promise.1.1 ∙ ap (λ (n : ℕ). record { answer = n; row = row_of (row_asked c).part }) z;
      figure-given = λ c z. c.promise ∙ taken _ _ _ z;
      station-figure-given = λ c z. c.promise ∙ ap (λ (f : Figure). f.value) (taken _ _ _ z);
      writes-given = λ c z. c.promise ∙ taken _ _ _ z;
      kth-given = λ c z. c.promise ∙ taken _ _ _ z;
      kth-among = among;
      station-address-given = λ c z. c.promise ∙ ap (λ (k : Kth). k.address) (taken _ _ _ z);
      station-data-given = λ c z. c.promise ∙ ap (λ (k : Kth). k.«data») (taken _ _ _ z);
      start-given = λ c z. c.promise ∙ taken _ _ _ z;
      polls-given = steps-polled;
      file-given = λ c m. c.promise ∙ rw m;
      image-given = λ c. c.promise;
    }
