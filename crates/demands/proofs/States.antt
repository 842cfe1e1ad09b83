-- The calls listed in specs/States.antt answer as they say, each list by one computed test.
use mathlib.Core.Path.{◌≡◌, refl}
use mathlib.Core.Bool.{true}
use mathlib.Core.List.{[], ◌∷◌, ◌++◌}
use Rattle.parts.specs.Width.{fits_in, sector_size}
use Rattle.parts.specs.Table.{row_of, part_refusal}
use Rattle.parts.specs.Span.{holdsb, has_blocks, sector_of, block_of, protected_of}
use Rattle.parts.specs.Time.{has_command, time_of, is_interval, rounded_up}
use Rattle.parts.proofs.Every.{every}
use Rattle.device.specs.Device.{suspendable, barred, valid_operation, runs_in_range, valid_suspended, held_in_range, core_in_range, stage_in_range, device_in_range}
use Rattle.device.specs.Operation.{cells_of}
use Rattle.device.specs.Cycle.{action_refusal, cycle_refusal, settled_of, cut_of, accepted_of, cycle_of}
use Rattle.driver.specs.Refusals.{data_refusal, target_refusal, start_refusal}
use Rattle.driver.specs.Writes.{write_count}
use Rattle.driver.specs.Machine.{start_of, most_polls, in_range, after_write, writing_of, matches, polling_of, confirming_of, step_of, start_writing}
use Rattle.values.specs.Fit.{fit_all}
use Rattle.request.specs.Refusal.{meets, protection_refusal, sectors_refusal, range_refusal, begin_refusal, standing_refusal}
use Rattle.job.specs.Loader.{next_sector, look_of, begin_of, burn_of, driven_of, scanned_of, in_job, turn_of}
use Rattle.job.specs.Loading.{begin_load, is_ending, same_asked, loader_in_range, loading_in_range, stops_with, load_turn_of}
use Rattle.numbers.specs.Machine.{phase_at, stepped_of}
use Rattle.bus.specs.Cycle.{has_bits, device_of, reply_numbers}
use Rattle.numbers.specs.Loading.{task_at, stage_at, progress_at, turn_numbers, turned_of}
use Rattle.demands.specs.States.{gives_so, steps, cycles, begins, waiting_turns, reading_turns, driving_turns, wide_turn}

pub steps-answer : every gives_so steps ≡ true
unfolding row_of part_refusal fits_in has_blocks has_command time_of is_interval rounded_up data_refusal target_refusal start_refusal write_count most_polls in_range
    after_write writing_of matches polling_of confirming_of step_of phase_at stepped_of
steps-answer = refl

pub cycles-answer : every gives_so cycles ≡ true
unfolding row_of part_refusal fits_in has_blocks has_command time_of sector_size holdsb sector_of cells_of valid_operation suspendable barred runs_in_range valid_suspended held_in_range core_in_range stage_in_range device_in_range action_refusal cycle_refusal settled_of cut_of accepted_of
    cycle_of has_bits device_of reply_numbers
cycles-answer = refl

pub begins-answer : every gives_so begins ≡ true
unfolding row_of part_refusal fits_in sector_size holdsb has_blocks block_of protected_of is_interval fit_all meets protection_refusal sectors_refusal range_refusal begin_refusal begin_load
begins-answer = refl

pub turns-answer : every gives_so (waiting_turns ++ (reading_turns ++ (driving_turns ++ (wide_turn ∷ [])))) ≡ true
unfolding row_of part_refusal fits_in sector_size holdsb has_blocks block_of protected_of has_command time_of is_interval rounded_up data_refusal target_refusal start_refusal write_count
    start_of most_polls in_range after_write writing_of matches polling_of confirming_of step_of start_writing meets protection_refusal sectors_refusal standing_refusal
    next_sector look_of begin_of burn_of driven_of scanned_of in_job turn_of is_ending same_asked loader_in_range loading_in_range stops_with load_turn_of
    phase_at task_at stage_at progress_at turn_numbers turned_of
turns-answer = refl
