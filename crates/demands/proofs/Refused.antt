-- The refusals listed in specs/Refused.antt are given as they say, each list by one computed test; and the job file is read as it says.
use mathlib.Core.Path.{◌≡◌, refl}
use mathlib.Core.Bool.{true}
use mathlib.Core.List.{◌++◌}
use Rattle.parts.specs.Width.{fits_in, sector_size}
use Rattle.parts.specs.Table.{row_of, part_refusal}
use Rattle.parts.specs.Span.{holdsb, has_blocks, sector_of, block_of, protected_of}
use Rattle.parts.specs.Time.{has_command, time_of, is_interval}
use Rattle.parts.proofs.Every.{every}
use Rattle.device.specs.Device.{suspendable, barred, valid_operation, runs_in_range, valid_suspended, held_in_range, core_in_range, stage_in_range, device_in_range}
use Rattle.device.specs.Operation.{cells_of}
use Rattle.device.specs.Cycle.{action_refusal, cycle_refusal}
use Rattle.driver.specs.Refusals.{data_refusal, target_refusal, command_refusal, start_refusal}
use Rattle.driver.specs.Writes.{write_count}
use Rattle.values.specs.Fit.{fit_all}
use Rattle.request.specs.Refusal.{meets, protection_refusal, sectors_refusal, range_refusal, job_refusal}
use Rattle.jobfile.specs.Bytes.{number, field}
use Rattle.jobfile.specs.JobFile.{wrong, malformed, job_of, values_of}
use Rattle.demands.specs.Refused.{answered_so, figures, writes, starts, cycles, jobs, file_bytes, file_asks, file_values}

pub calls-refused : every answered_so (figures ++ (writes ++ (starts ++ cycles))) ≡ true
unfolding row_of part_refusal fits_in has_blocks has_command time_of is_interval sector_size holdsb sector_of cells_of valid_operation suspendable barred runs_in_range valid_suspended held_in_range core_in_range stage_in_range device_in_range action_refusal cycle_refusal data_refusal target_refusal
    command_refusal start_refusal write_count
calls-refused = refl

pub jobs-refused : every answered_so jobs ≡ true
unfolding row_of part_refusal fits_in sector_size holdsb has_blocks block_of protected_of is_interval fit_all meets protection_refusal sectors_refusal range_refusal job_refusal
jobs-refused = refl

pub file-read : job_of file_bytes ≡ file_asks
unfolding number field wrong malformed job_of
file-read = refl

pub file-values : values_of file_bytes 1 2 ≡ file_values
unfolding number field values_of
file-values = refl
