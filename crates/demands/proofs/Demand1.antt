-- Demand 1 is met. What is proved stands in specs/Demand1.antt.
use Rattle.std.specs.Prelude.{None}
use Prim.Native.Nat.{ℕ, zero, suc, ◌-◌, ◌<◌}
use mathlib.Core.Path.{◌≡◌, refl, sym, ap, ◌∙◌}
use mathlib.Core.Bool.{Bool, true, false}
use mathlib.Core.List.{List}
use native.Mathlib.Omega.{arith}
use borrow.Author.Tests.{ne_eqb, eqb-true, ltb-true, ltb-false}
use lib.Dec.{eqb, ltb}
use lib.ListN.{length, get_or-eq_default}
use Rattle.parts.specs.Pick.{pick, ◌unless◌, ◌else◌, ◌or_else◌}
use Rattle.parts.specs.Width.{value_of}
use Rattle.parts.specs.Table.{Found, no_line, lines, line_of, row_from, row_of, part_refusal, found_of}
use Rattle.table.specs.Figures.{Figure, figure, figure_refusal, figure_of}
use Rattle.parts.specs.declared.table.Row.{Row}
use Rattle.parts.proofs.Every.{apart, split}
use Rattle.device.specs.Cycle.{chip, Outcome, after_time, accepted_of, cycle_of}
use Rattle.device.proofs.Cases.{acted-answers}
use Rattle.driver.specs.declared.machine.Started.{Started}
use Rattle.driver.specs.declared.machine.Driver.{Driver}
use Rattle.driver.specs.declared.machine.Step.{Step}
use Rattle.driver.specs.declared.machine.Phase.{Phase}
use Rattle.driver.specs.declared.machine.Phase.TheVariants.{Writing, Polling, Confirming, Done, GaveUp, Differs}
use Rattle.driver.specs.Refusals.{start_refusal}
use Rattle.driver.specs.Writes.{no_write, Writes, command_writes, Kth, kth, kth_refusal, kth_write}
use Rattle.driver.specs.Machine.{value_wanted, no_driver, start_of, start_writing, most_polls, in_range, step, ended, writing_of, polls, matches, polling_of, confirming_of, phase_of, step_of}
use Rattle.driver.proofs.Begins.{start-range}
use Rattle.driver.proofs.Theorems.{refused-steps}
use Rattle.bus.specs.Cycle.{device_of, no_state, Cycled, cycled_numbers}
use Rattle.bus.specs.declared.cycle.DeviceNumbers.{DeviceNumbers}
use Rattle.bus.proofs.Back.{bad-mode, bad-recent, bad-turned, bad-toggle, bad-suspended-toggle, no-device, refused-numbers, taken-numbers}
use Rattle.job.specs.declared.bill.Bill.{Bill}
use Rattle.job.specs.Bill.{Loaded, Reported, refused_bill, load_of, report_of}
use Rattle.jobfile.specs.declared.trailer.JobFile.{JobFile}
use Rattle.jobfile.specs.JobFile.{malformed, trailer_of, refused, asked, job_of}
use Rattle.billing.specs.File.{bill_of_job, bill_of_file}
use Rattle.demands.specs.Calls.{on_bus, refused_cycle, StepCall, to_step, StartCall, StartWritingCall, ToStart, refused_start, to_start, refused_writes, to_write, kth_asked, refused_job, to_load, to_load_first}
use Rattle.numbers.specs.declared.machine.DriverNumbers.{DriverNumbers}
use Rattle.numbers.specs.declared.machine.StartNumbers.{StartNumbers}
use Rattle.numbers.specs.Machine.{phase_at, driver_numbers, driver_of, start_numbers, stepped_of}
use Rattle.numbers.proofs.Back.{no-phase, out_of_range}
use Rattle.demands.specs.Calls.{row_asked, figure_asked, to_read, ToRead, to_bill, job_asked, refused_file}
use Rattle.demands.specs.Controller.{StationStepCall, numbers_to_step, OnStation, on_station, meant, no_device, station_to_load, station_to_load_first, station_to_read, station_to_bill}
use Rattle.demands.proofs.Controller.{cycle_asked, station-left}
use Rattle.demands.specs.Demand1.{Refuses, RefusesState, RefusesNumbers, Demand1}

-- one test decides: what is handed back where it passes answers 0
by-test : {A : Type 0} (answer : A → ℕ) (n : ℕ) (good bad : A) → answer good ≡ 0 → answer bad ≡ n
    → Refuses A (answer (pick (eqb n 0) good bad)) n (pick (eqb n 0) good bad) bad
by-test answer n good bad g b = record { exactly = by (eqb n 0) refl; beside = λ e. rw (ne_eqb n 0 e) }
  where
    by : (t : Bool) → eqb n 0 ≡ t → answer (pick t good bad) ≡ n
    by true t = g ∙ sym (eqb-true n 0 t)
    by false t = b

-- ---- a start that names its first write
starts-refuse : (part command address x p : ℕ)
    → Refuses Step (start_writing part command address x p).answer (start_refusal part command address x p) (start_writing part command address x p)
    (step (start_refusal part command address x p) no_driver None 0)
unfolding start_writing start_of step_of writing_of
starts-refuse part command address x p = by (eqb n 0) refl
  where
    n : ℕ
    n = start_refusal part command address x p

    by : (t : Bool) → eqb n 0 ≡ t → Refuses Step (start_writing part command address x p).answer n (start_writing part command address x p) (step n no_driver None 0)
    by true t = let z = eqb-true n 0 t in record { exactly = simp (t, start-range part command address x p z) (sym z); beside = λ e. absurd (e z) }
    by false t = record { exactly = simp t; beside = λ e. simp t }

-- ---- what a driver's step answers in each phase
phases-answer : (r : Row) (f : Phase) (d : Driver) (read : ℕ) → (phase_of r f d read).answer ≡ 5 → ⊥
unfolding writing_of polling_of confirming_of
phases-answer r Writing d read e = absurd (omega arith)
phases-answer r Polling d read e =
    split (λ (t : Step). t.answer ≡ 5 → ⊥) (matches d read) _ _ (λ _ e. omega arith)
    (λ _. split (λ (t : Step). t.answer ≡ 5 → ⊥) (ltb d.count (most_polls r d.command d.p)) (polls d) (ended d GaveUp) (λ _ e. omega arith) (λ _ e. omega arith)) e
phases-answer r Confirming d read e =
    split (λ (t : Step). t.answer ≡ 5 → ⊥) (eqb (value_of r.width read) (value_wanted r d.command d.«data»)) (ended d Done) (ended d Differs) (λ _ e. omega arith) (λ _ e. omega arith) e
phases-answer r Done d read e = absurd (omega arith)
phases-answer r GaveUp d read e = absurd (omega arith)
phases-answer r Differs d read e = absurd (omega arith)

step-refuses : (c : StepCall) → RefusesState (to_step c).driver c.back
unfolding step_of
step-refuses c = record { only = λ e. by (in_range d) refl (rw c.promise at e); beside = λ e. c.promise ∙ rw e }
  where
    d : Driver
    d = (to_step c).driver

    by : (t : Bool) → in_range d ≡ t → (pick t (phase_of (row_of d.part) d.phase d (to_step c).read) (step 5 d None 0)).answer ≡ 5 → t ≡ false
    by true t e = absurd (phases-answer (row_of d.part) d.phase d (to_step c).read e)
    by false t e = refl

-- ---- the two starts; and a step of the state that a refused one handed back
start-refuses : (c : StartCall) → Refuses Started c.back.answer (refused_start (to_start c.given)) c.back (record { answer = refused_start (to_start c.given); driver = no_driver })
unfolding start_of
start-refuses c = rw c.promise (by-test (λ (t : Started). t.answer) (refused_start (to_start c.given)) _ _ refl refl)

start-writing-refuses : (c : StartWritingCall)
    → Refuses Step c.back.answer (refused_start (to_start c.given)) c.back (step (refused_start (to_start c.given)) no_driver None 0)
start-writing-refuses c = let g = to_start c.given in rw c.promise (starts-refuse g.part g.command g.address g.word g.p)

no-driver-steps : (g : ToStart) → (refused_start g ≡ 0 → ⊥) → (d : Driver) → d ≡ no_driver → (e : StepCall) → (to_step e).driver ≡ d → e.back ≡ step 5 d None 0
no-driver-steps g n d none e same =
    e.promise
    ∙ (ap (λ (d : Driver). step_of d (to_step e).read) (same ∙ none)
    ∙ ((refused-steps g.part g.command g.address g.word g.p n).1 (to_step e).read ∙ ap (λ (d : Driver). step 5 d None 0) (sym none)))

-- ---- the C controller's start, step and bus cycle
stations-start : (part command address x p : ℕ) → let t = start_numbers (start_of part command address x p) in let n = start_refusal part command address x p in
    Refuses StartNumbers t.answer n t (record { answer = n; driver = driver_numbers no_driver })
unfolding start_of
stations-start part command address x p =
    let w = by-test (λ (t : Started). t.answer) (start_refusal part command address x p) _ _ refl refl in
    record { exactly = w.exactly; beside = λ e. ap start_numbers (w.beside e) }

station-step-refuses : (c : StationStepCall) → RefusesNumbers (numbers_to_step c).driver c.back
unfolding stepped_of step_of
station-step-refuses c = by (ltb 5 n.phase) refl (in_range (driver_of n)) refl
  where
    n : DriverNumbers
    n = (numbers_to_step c).driver

    read : ℕ
    read = (numbers_to_step c).read

    by : (t : Bool) → ltb 5 n.phase ≡ t → (u : Bool) → in_range (driver_of n) ≡ u → RefusesNumbers n c.back
    by true t u v = record { only = λ e. rw t; beside = λ e. c.promise ∙ no-phase n read (ltb-true 5 n.phase t) }
    by false t false v = record { only = λ e. rw (t, v); beside = λ e. c.promise ∙ out_of_range n read (ltb-false 5 n.phase t) v }
    by false t true v =
        record {
          only = λ e. absurd (phases-answer (row_of n.part) (phase_at n.phase) (driver_of n) read (rw (c.promise, t, v) at e));
          beside = λ e. apart (sym (rw (t, v) at e));
        }

cycles-refuse : (g : OnStation) → let n = refused_cycle (meant g) in let l = cycled_numbers g.device (cycle_asked (meant g)) in
    Refuses Cycled l.reply.answer n l (record { cells = g.cells; reply = record { answer = n; value = 0; device = g.device } })
cycles-refuse g = by n refl
  where
    n : ℕ
    n = refused_cycle (meant g)

    l : Cycled
    l = cycled_numbers g.device (cycle_asked (meant g))

    by : (k : ℕ) → n ≡ k → Refuses Cycled l.reply.answer n l (record { cells = g.cells; reply = record { answer = n; value = 0; device = g.device } })
    by zero z = record { exactly = ap (λ (t : Cycled). t.reply.answer) (taken-numbers g.part g.cells g.device g.cycle z) ∙ sym z; beside = λ e. absurd (e z) }
    by (suc k) z =
        let w = refused-numbers g.part g.cells g.device g.cycle n (let h : 0 < suc k = omega arith in rw z h) refl in
        record { exactly = ap (λ (t : Cycled). t.reply.answer) w; beside = λ e. w }

no-devices : (g : OnStation) → no_device g.device ≡ true
    → refused_cycle (meant g) ≡ (part_refusal g.part or_else 2 unless eqb (length g.cells) (row_of g.part).cells else 5)
no-devices g e = no-device g.part (length g.cells) g.device g.cycle.action (none-meant g.device e)
  where
    -- one of two tests
    either : {P : Type 0} (a b : Bool) → (a ≡ true → P) → (b ≡ true → P) → pick a true b ≡ true → P
    either true b f g e = f refl
    either false b f g e = g e

    none-meant : (n : DeviceNumbers) → no_device n ≡ true → device_of n ≡ no_state
    none-meant n =
        either (ltb 1 n.mode) _ (λ t. bad-mode n (ltb-true 1 n.mode t))
        (either (ltb 1 n.recent) _ (λ t. bad-recent n (ltb-true 1 n.recent t))
        (either (ltb 1 n.turned) _ (λ t. bad-turned n (ltb-true 1 n.turned t))
        (either (ltb 1 n.running.toggle) _ (λ t. bad-toggle n (ltb-true 1 n.running.toggle t))
        (λ t. bad-suspended-toggle n (ltb-true 1 n.suspended.toggle t)))))

-- ---- the k-th write, and figures: as the functions and the C controller's have them
kth-refuses : (part command address x k : ℕ)
    → Refuses Kth (kth_write part command address x k).answer (kth_refusal part command address x k) (kth_write part command address x k) (kth (kth_refusal part command address x k) no_write)
unfolding kth_write
kth-refuses part command address x k = by-test (λ (t : Kth). t.answer) (kth_refusal part command address x k) _ _ refl refl

figures-refuse : (part column : ℕ) → Refuses Figure (figure_of part column).answer (figure_refusal part column) (figure_of part column) (figure (figure_refusal part column) 0)
unfolding figure_of
figures-refuse part column = by-test (λ (f : Figure). f.answer) (figure_refusal part column) _ _ refl refl

-- ---- a part's row
rows-refuse : (part : ℕ) → Refuses Found (part_refusal part) (part_refusal part) (found_of part) (record { answer = part_refusal part; row = row_from no_line })
unfolding part_refusal row_of
rows-refuse part = record { exactly = refl; beside = λ e. ap (λ (r : Row). record { answer = part_refusal part; row = r }) (by (ltb 10 part) refl e) }
  where
    by : (t : Bool) → ltb 10 part ≡ t → (◌≡◌ {A = ℕ} (pick t 1 0) 0 → ⊥) → row_from (line_of part) ≡ row_from no_line
    by true t e = ap row_from (get_or-eq_default lines no_line (ltb-true 10 part t))
    by false t e = absurd (e refl)

-- ---- a job file
files-refuse : (file : List ℕ) → Refuses JobFile (job_of file).answer (pick (malformed file) 13 0) (job_of file) refused
unfolding job_of
files-refuse file = by (malformed file)
  where
    asks : JobFile
    asks = asked (trailer_of file) (length file - 16)

    by : (t : Bool) → Refuses JobFile (pick t refused asks).answer (pick t 13 0) (pick t refused asks) refused
    by true = record { exactly = refl; beside = λ e. refl }
    by false = record { exactly = refl; beside = λ e. absurd (e refl) }

-- ---- the bill of a job file
bills-refuse : (g : ToRead) → Refuses Bill (bill_of_file g.file).answer (refused_file g) (bill_of_file g.file) (refused_bill (refused_file g))
unfolding bill_of_file load_of
bills-refuse g = by (ltb 20480 (length g.file)) (malformed g.file)
  where
    n : ℕ
    n = refused_job (job_asked g)

    job : Bill
    job = bill_of_job g.file (job_of g.file)

    by : (t u : Bool)
        → Refuses Bill (pick t (refused_bill 13) (pick u (refused_bill 13) job)).answer (pick t 13 (pick u 13 n)) (pick t (refused_bill 13) (pick u (refused_bill 13) job))
        (refused_bill (pick t 13 (pick u 13 n)))
    by true u = record { exactly = refl; beside = λ e. refl }
    by false true = record { exactly = refl; beside = λ e. refl }
    by false false =
        let w = by-test (λ (l : Loaded). l.bill.answer) n _ _ refl refl in
        record { exactly = w.exactly; beside = λ e. ap (λ (l : Loaded). l.bill) (w.beside e) }

-- ---- together
pub demand-1 : Demand1
unfolding cycle_of accepted_of command_writes load_of report_of
demand-1 =
    record {
      bus-cycle-refuses = λ c. let g = on_bus c in
          rw (c.promise.0, c.promise.1)
          (by-test (λ (o : Outcome). o.reply.answer) (refused_cycle g) _ _ (acted-answers _ (after_time _ (chip g.cells g.device) g.cycle.elapsed) g.cycle.wp g.cycle.action) refl);
      start-refuses = start-refuses;
      start-writing-refuses = start-writing-refuses;
      step-refuses = step-refuses;
      refused-start-steps = λ c n. no-driver-steps (to_start c.given) n c.back.driver (ap (λ (t : Started). t.driver) ((start-refuses c).beside n));
      refused-start-writing-steps = λ c n. no-driver-steps (to_start c.given) n c.back.driver (ap (λ (t : Step). t.driver) ((start-writing-refuses c).beside n));
      writes-refuses = λ c. rw c.promise (by-test (λ (t : Writes). t.answer) (refused_writes (to_write c)) _ _ refl refl);
      kth-write-refuses = λ c. let g = kth_asked c.given in rw c.promise (kth-refuses g.part g.command g.address g.word g.k);
      load-refuses = λ c. rw (c.promise.0, c.promise.1) (by-test (λ (l : Loaded). l.bill.answer) (refused_job (to_load c)) _ _ refl refl);
      load-first-refuses = λ c. rw (c.promise.0, c.promise.1) (by-test (λ (l : Reported). l.report.answer) (refused_job (to_load_first c).job) _ _ refl refl);
      row-refuses = λ c. rw c.promise.1.1 (rows-refuse (row_asked c).part);
      figure-refuses = λ c. let g = figure_asked c.given in rw c.promise (figures-refuse g.part g.column);
      file-refuses = λ c. rw c.promise (files-refuse (to_read c).file);
      bill-file-refuses = λ c. rw c.promise (bills-refuse (to_bill c));
      station-figure-refuses = λ c e. let g = figure_asked c.given in c.promise ∙ ap (λ (f : Figure). f.value) ((figures-refuse g.part g.column).beside e);
      station-figure-answers = λ c. let g = figure_asked c.given in c.promise ∙ (figures-refuse g.part g.column).exactly;
      station-write-address-refuses = λ c e. let g = kth_asked c.given in c.promise ∙ ap (λ (k : Kth). k.address) ((kth-refuses g.part g.command g.address g.word g.k).beside e);
      station-write-data-refuses = λ c e. let g = kth_asked c.given in c.promise ∙ ap (λ (k : Kth). k.«data») ((kth-refuses g.part g.command g.address g.word g.k).beside e);
      station-write-answers = λ c. let g = kth_asked c.given in c.promise ∙ (kth-refuses g.part g.command g.address g.word g.k).exactly;
      station-start-refuses = λ c. let g = to_start c.given in rw c.promise (stations-start g.part g.command g.address g.word g.p);
      station-step-refuses = station-step-refuses;
      station-cycle-refuses = λ c. rw (station-left c) (cycles-refuse (on_station c));
      station-no-device = λ c. no-devices (on_station c);
      station-load-refuses = λ c. rw (c.promise.0, c.promise.1) (by-test (λ (l : Loaded). l.bill.answer) (refused_job (station_to_load c)) _ _ refl refl);
      station-load-first-refuses = λ c. rw (c.promise.0, c.promise.1) (by-test (λ (l : Reported). l.report.answer) (refused_job (station_to_load_first c).job) _ _ refl refl);
      station-job-refuses = λ c. rw c.promise (files-refuse (station_to_read c).file);
      station-bill-refuses = λ c. rw c.promise (bills-refuse (station_to_bill c));
    }
