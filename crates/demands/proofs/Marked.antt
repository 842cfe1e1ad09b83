-- The marked cases hold: one computed test over the list. The number of lent cells is not counted anew in each cycle, and a job is reckoned from its
-- operations without playing its cycles; laws allow both.
use Prim.Native.Nat.{ℕ}
use mathlib.Core.Path.{◌≡◌, refl, ap, ◌∙◌}
use mathlib.Core.Bool.{Bool, true, false}
use mathlib.Core.List.{List, [], ◌∷◌, ◌++◌}
use borrow.Author.Tests.{eqb-true}
use lib.Dec.{eqb}
use lib.ListN.{length, set, replicate, length-set, length-replicate}
use Rattle.parts.specs.Pick.{pick}
use Rattle.parts.specs.Width.{fits_in, sector_size}
use Rattle.parts.specs.Table.{row_of, part_refusal}
use Rattle.parts.specs.Span.{holdsb, has_blocks, sector_of, block_of, protected_of}
use Rattle.parts.specs.Time.{has_command, time_of, is_interval, rounded_up}
use Rattle.parts.proofs.Every.{every, both}
use Rattle.device.specs.declared.state.Device.{Device}
use Rattle.device.specs.declared.cycle.Cycle.{Cycle}
use Rattle.device.specs.Device.{fresh_device, suspendable, barred, valid_operation, runs_in_range, valid_suspended, held_in_range, core_in_range, stage_in_range, device_in_range}
use Rattle.device.specs.Operation.{cells_of, complete_on, cut_on}
use Rattle.commands.specs.Commands.{effect_of}
use Rattle.device.specs.Sequence.{ignored, passed_over, written_of}
use Rattle.device.specs.Cycle.{Chip, chip, Outcome, reply, action_refusal, cycle_refusal, settled_of, tells, veils, read_of, cut_of, accepted_of, cycle_of}
use Rattle.device.specs.Trace.{leaves, after}
use Rattle.driver.specs.Writes.{last_write}
use Rattle.values.specs.Total.{total_of}
use Rattle.values.specs.Fit.{fit_all}
use Rattle.request.specs.Refusal.{meets, protection_refusal, sectors_refusal, range_refusal, job_refusal}
use Rattle.driver.specs.Machine.{confirm_after}
use Rattle.job.specs.Bill.{job_from, full_of, Loaded}
use Rattle.invoice.proofs.Listed.{filling, looking}
use Rattle.invoice.proofs.Loads.{deciding, deciding_all, reckoned, loads}
use Rattle.billing.specs.File.{blank_bench}
use Rattle.demands.specs.Marked.{Cell, Case, Marked, Bus, Load, Ran, cases, holding, image_of, load_sixth, after_jobs, same_bill, further, ran, as_said, before, holds_case, holds_marked}
use Rattle.table.specs.Figures.{figure_of}
use Rattle.demands.specs.Beside.{sheets, shown_all, figures, parts_are, protected_ends, compared_bits, sentences, edges, holds}
use Rattle.device.proofs.Ranges.{after-length}

-- a cycle on cells that are known to be n
cycle_on : ℕ → ℕ → List ℕ → Device → Cycle → Outcome
cycle_on n part cells d c =
    pick (eqb (cycle_refusal part n d c.action) 0) (accepted_of (row_of part) cells d c) (record { cells = cells; reply = reply (cycle_refusal part n d c.action) 0 d })

ran_on : ℕ → ℕ → Chip → List Cycle → Ran
ran_on n part h [] = record { accepted = true; reads = []; chip = h }
ran_on n part h (c ∷ cs) =
    let o = cycle_on n part h.cells h.device c in
    further c o (ran_on n part (leaves o) cs)

on-cycle : (n part : ℕ) (cells : List ℕ) (d : Device) (c : Cycle) → length cells ≡ n → cycle_of part cells d c ≡ cycle_on n part cells d c
unfolding cycle_of cycle_on
on-cycle n part cells d c e = rw e

on-ran : (n part : ℕ) (cs : List Cycle) (h : Chip) → length h.cells ≡ n → ran part h cs ≡ ran_on n part h cs
unfolding ran_on after
on-ran n part [] h e = refl
on-ran n part (c ∷ cs) h e =
    let o = cycle_of part h.cells h.device c in
    ap (further c o) (on-ran n part cs (leaves o) (after-length part h c ∙ e))
    ∙ ap (λ (o : Outcome). further c o (ran_on n part (leaves o) cs)) (on-cycle n part h.cells h.device c e)

holds_on : Case → Bool
holds_on k = as_said k (ran_on (row_of k.part).cells k.part (chip (before k) fresh_device) k.cycles)

-- the number of cells does not change where some hold something else
held-length : (cells : List ℕ) (ls : List Cell) → length (holding cells ls) ≡ length cells
held-length cells [] = refl
held-length cells (l ∷ ls) = held-length (set cells l.at l.value) ls ∙ length-set cells l.at l.value

on-case : (k : Case) → holds_case k ≡ holds_on k
unfolding holds_on
on-case k =
    ap (as_said k)
    (on-ran (row_of k.part).cells k.part k.cycles (chip (before k) fresh_device)
    (held-length (replicate (row_of k.part).cells k.fill) k.but ∙ length-replicate (row_of k.part).cells k.fill))

-- ---- jobs, reckoned from their operations
-- a job of the bench, reckoned
reckon : List ℕ → ℕ → Loaded
reckon cells sixth = reckoned (job_from 0 0 (length (image_of sixth)) true 10) (image_of sixth) cells

reckon_all : List ℕ → List ℕ → List ℕ
reckon_all cells [] = cells
reckon_all cells (x ∷ xs) = reckon_all (reckon cells x).cells xs

-- each of the jobs is accepted
accepts : List ℕ → ℕ → Bool
accepts cells sixth = eqb (job_refusal 0 (length cells) 0 (image_of sixth) true 10) 0

accepts_all : List ℕ → List ℕ → Bool
accepts_all cells [] = true
accepts_all cells (x ∷ xs) = pick (accepts cells x) (accepts_all (reckon cells x).cells xs) false

on-job : (cells : List ℕ) (sixth : ℕ) → accepts cells sixth ≡ true → load_sixth cells sixth ≡ reckon cells sixth
unfolding accepts reckon
on-job cells sixth a = loads 0 cells 0 (image_of sixth) true 10 (eqb-true _ 0 a)

on-jobs : (xs cells : List ℕ) → accepts_all cells xs ≡ true → after_jobs cells xs ≡ reckon_all cells xs
unfolding accepts_all reckon_all
on-jobs [] cells a = refl
on-jobs (x ∷ xs) cells a =
    let b = both (accepts cells x) (accepts_all (reckon cells x).cells xs) a in
    ap (λ (l : Loaded). after_jobs l.cells xs) (on-job cells x b.0) ∙ on-jobs xs (reckon cells x).cells b.1

-- ---- the list
computes : Marked → Bool
computes (Bus k) = holds_on k
computes (Load k) =
    pick (accepts_all blank_bench k.earlier)
    (pick (accepts (reckon_all blank_bench k.earlier) k.sixth) (same_bill (reckon (reckon_all blank_bench k.earlier) k.sixth).bill k.bill) false)
    false

on-marked : (k : Marked) → computes k ≡ true → holds_marked k ≡ true
unfolding computes
on-marked (Bus k) c = on-case k ∙ c
on-marked (Load k) c =
    let cells = reckon_all blank_bench k.earlier in
    let e = both (accepts_all blank_bench k.earlier) _ c in
    let f = both (accepts cells k.sixth) _ e.1 in
    ap (λ (l : List ℕ). same_bill (load_sixth l k.sixth).bill k.bill) (on-jobs k.earlier blank_bench e.0)
    ∙ (ap (λ (l : Loaded). same_bill l.bill k.bill) (on-job cells k.sixth f.0) ∙ f.1)

on-every : (ks : List Marked) → every computes ks ≡ true → every holds_marked ks ≡ true
on-every [] c = refl
on-every (k ∷ ks) c = let b = both (computes k) (every computes ks) c in rw (on-marked k b.0) (on-every ks b.1)

computed : every computes cases ≡ true
unfolding computes holds_on ran_on cycle_on reckon reckon_all accepts accepts_all row_of part_refusal fits_in sector_size holdsb has_blocks sector_of block_of protected_of has_command time_of valid_operation suspendable barred runs_in_range valid_suspended held_in_range
    core_in_range stage_in_range device_in_range cells_of complete_on cut_on effect_of ignored passed_over written_of action_refusal cycle_refusal settled_of tells veils read_of cut_of accepted_of last_write
    is_interval rounded_up fit_all meets protection_refusal sectors_refusal range_refusal job_refusal total_of confirm_after full_of filling looking deciding deciding_all
computed = refl

-- Every marked case of the list holds of the definitions that the promises of bus_cycle and load cite.
pub marked : every holds_marked cases ≡ true
marked = on-every cases computed

-- ---- the cases beside
on-cases : (ks : List Case) → every holds_on ks ≡ true → every holds_case ks ≡ true
on-cases [] c = refl
on-cases (k ∷ ks) c = let b = both (holds_on k) (every holds_on ks) c in rw (on-case k ∙ b.0) (on-cases ks b.1)

computed-beside : every holds_on (shown_all sheets ++ ((protected_ends ++ compared_bits) ++ (sentences ++ (edges ++ holds)))) ≡ true
unfolding holds_on ran_on cycle_on row_of part_refusal fits_in sector_size holdsb has_blocks sector_of block_of protected_of has_command time_of valid_operation suspendable barred runs_in_range valid_suspended held_in_range core_in_range
    stage_in_range device_in_range cells_of complete_on cut_on effect_of ignored passed_over written_of action_refusal cycle_refusal settled_of tells veils read_of cut_of accepted_of
computed-beside = refl

-- of two lists each, and so of each of the lists beside
each : (ks ls : List Case) → every holds_on (ks ++ ls) ≡ true → (every holds_case ks ≡ true) × (every holds_on ls ≡ true)
each [] ls c = (refl, c)
each (k ∷ ks) ls c =
    let b = both (holds_on k) (every holds_on (ks ++ ls)) c in
    let w = each ks ls b.1 in
    (rw (on-case k ∙ b.0) w.0, w.1)

but-sheets : (every holds_case (shown_all sheets) ≡ true) × (every holds_on ((protected_ends ++ compared_bits) ++ (sentences ++ (edges ++ holds))) ≡ true)
but-sheets = each (shown_all sheets) ((protected_ends ++ compared_bits) ++ (sentences ++ (edges ++ holds))) computed-beside

but-ends : (every holds_case (protected_ends ++ compared_bits) ≡ true) × (every holds_on (sentences ++ (edges ++ holds)) ≡ true)
but-ends = each (protected_ends ++ compared_bits) (sentences ++ (edges ++ holds)) but-sheets.1

but-sentences : (every holds_case sentences ≡ true) × (every holds_on (edges ++ holds) ≡ true)
but-sentences = each sentences (edges ++ holds) but-ends.1

but-edges : (every holds_case edges ≡ true) × (every holds_on holds ≡ true)
but-edges = each edges holds but-sentences.1

-- The part table, entry by entry, as the chip shows it; both ends of the protected blocks and the compared bits; and sentences that no marked case touches.
pub sheets-shown : every holds_case (shown_all sheets) ≡ true
sheets-shown = but-sheets.0

pub ends-shown : every holds_case (protected_ends ++ compared_bits) ≡ true
ends-shown = but-ends.0

pub sentences-shown : every holds_case sentences ≡ true
sentences-shown = but-sentences.0

-- Document 02, Wish 1: the word at its edge.
pub edges-shown : every holds_case edges ≡ true
edges-shown = but-edges.0

-- Document 02, Wish 2: an erase that is held.
pub holds-shown : every holds_case holds ≡ true
holds-shown = on-cases holds but-edges.1

-- The figures of every part are document 01's.
pub figures-shown : parts_are 0 figures ≡ true
unfolding figure_of row_of part_refusal
figures-shown = refl
