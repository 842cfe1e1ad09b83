-- For every input a promise determines the full result and each lent value afterwards, refusals too: of each exported
-- function, any two outcomes that its promise allows on the same arguments are equal. On the promises as they are made from
-- the source.
use Rattle.std.specs.Prelude.{ℕ, ◌≡◌, List}
use contract.Lifetimes.{Lfts}
use borrow.Fn.Kinds.{ParamKind, ResultKind, Out, Dens, ended_of, res_t}
use denote.Triple.Clauses.{AtExit}
use Rattle.parts.proofs.refusal.Refusal.number.Kinds as number-kinds
use Rattle.parts.proofs.refusal.Refusal.number.Reads as number-reads
use Rattle.parts.proofs.value.Kinds as value-kinds
use Rattle.parts.proofs.value.Reads as value-reads
use Rattle.parts.proofs.blank.Kinds as blank-kinds
use Rattle.parts.proofs.blank.Reads as blank-reads
use Rattle.parts.proofs.fits.Kinds as fits-kinds
use Rattle.parts.proofs.fits.Reads as fits-reads
use Rattle.table.proofs.part_row.Kinds as part-row-kinds
use Rattle.table.proofs.part_row.Reads as part-row-reads
use Rattle.table.proofs.part_figure.Kinds as part-figure-kinds
use Rattle.table.proofs.part_figure.Reads as part-figure-reads
use Rattle.values.proofs.decision_of.Kinds as decision-of-kinds
use Rattle.values.proofs.decision_of.Reads as decision-of-reads
use Rattle.values.proofs.leading.Kinds as leading-kinds
use Rattle.values.proofs.leading.Reads as leading-reads
use Rattle.values.proofs.sum.Kinds as sum-kinds
use Rattle.values.proofs.sum.Reads as sum-reads
use Rattle.values.proofs.all_fit.Kinds as all-fit-kinds
use Rattle.values.proofs.all_fit.Reads as all-fit-reads
use Rattle.request.proofs.check_job.Kinds as check-job-kinds
use Rattle.request.proofs.check_job.Reads as check-job-reads
use Rattle.request.proofs.check_begin.Kinds as check-begin-kinds
use Rattle.request.proofs.check_begin.Reads as check-begin-reads
use Rattle.request.proofs.check_standing.Kinds as check-standing-kinds
use Rattle.request.proofs.check_standing.Reads as check-standing-reads
use Rattle.request.proofs.check_standing_on.Kinds as check-standing-on-kinds
use Rattle.request.proofs.check_standing_on.Reads as check-standing-on-reads
use Rattle.parts.proofs.span.Span.holds.Kinds as span-holds-kinds
use Rattle.parts.proofs.span.Span.holds.Reads as span-holds-reads
use Rattle.parts.proofs.table.Row.sector_size.Kinds as sector-size-kinds
use Rattle.parts.proofs.table.Row.sector_size.Reads as sector-size-reads
use Rattle.parts.proofs.table.Row.sector_of.Kinds as sector-of-kinds
use Rattle.parts.proofs.table.Row.sector_of.Reads as sector-of-reads
use Rattle.parts.proofs.table.Row.has_blocks.Kinds as has-blocks-kinds
use Rattle.parts.proofs.table.Row.has_blocks.Reads as has-blocks-reads
use Rattle.parts.proofs.table.Row.block_of.Kinds as block-of-kinds
use Rattle.parts.proofs.table.Row.block_of.Reads as block-of-reads
use Rattle.parts.proofs.table.Row.protected_range.Kinds as protected-range-kinds
use Rattle.parts.proofs.table.Row.protected_range.Reads as protected-range-reads
use Rattle.parts.proofs.table.Row.time.Kinds as time-kinds
use Rattle.parts.proofs.table.Row.time.Reads as time-reads
use Rattle.parts.proofs.table.Row.has_command.Kinds as has-command-kinds
use Rattle.parts.proofs.table.Row.has_command.Reads as has-command-reads
use Rattle.parts.proofs.is_interval.Kinds as is-interval-kinds
use Rattle.parts.proofs.is_interval.Reads as is-interval-reads
use Rattle.parts.proofs.rounded_up.Kinds as rounded-up-kinds
use Rattle.parts.proofs.rounded_up.Reads as rounded-up-reads
use Rattle.commands.proofs.effect_of.Kinds as effect-of-kinds
use Rattle.commands.proofs.effect_of.Reads as effect-of-reads
use Rattle.device.proofs.no_operation.Kinds as no-operation-kinds
use Rattle.device.proofs.no_operation.Reads as no-operation-reads
use Rattle.device.proofs.fresh.Kinds as fresh-kinds
use Rattle.device.proofs.fresh.Reads as fresh-reads
use Rattle.chip.proofs.bus_cycle.Kinds as bus-cycle-kinds
use Rattle.chip.proofs.bus_cycle.Reads as bus-cycle-reads
use Rattle.driver.proofs.start.Kinds as start-kinds
use Rattle.driver.proofs.start.Reads as start-reads
use Rattle.driver.proofs.start_writing.Kinds as start-writing-kinds
use Rattle.driver.proofs.start_writing.Reads as start-writing-reads
use Rattle.driver.proofs.machine.Driver.step.Kinds as step-kinds
use Rattle.driver.proofs.machine.Driver.step.Reads as step-reads
use Rattle.driver.proofs.command_writes.Kinds as command-writes-kinds
use Rattle.driver.proofs.command_writes.Reads as command-writes-reads
use Rattle.driver.proofs.kth_write.Kinds as kth-write-kinds
use Rattle.driver.proofs.kth_write.Reads as kth-write-reads
use Rattle.bus.proofs.cycled.Kinds as n-cycled-kinds
use Rattle.bus.proofs.cycled.Reads as n-cycled-reads
use Rattle.job.proofs.load.Kinds as load-kinds
use Rattle.job.proofs.load.Reads as load-reads
use Rattle.job.proofs.load_first.Kinds as load-first-kinds
use Rattle.job.proofs.load_first.Reads as load-first-reads
use Rattle.job.proofs.is_ending.Kinds as is-ending-kinds
use Rattle.job.proofs.is_ending.Reads as is-ending-reads
use Rattle.job.proofs.begin_load.Kinds as begin-load-kinds
use Rattle.job.proofs.begin_load.Reads as begin-load-reads
use Rattle.job.proofs.loading.Loading.turn.Kinds as turn-kinds
use Rattle.job.proofs.loading.Loading.turn.Reads as turn-reads
use Rattle.numbers.proofs.start_numbers.Kinds as n-start-kinds
use Rattle.numbers.proofs.start_numbers.Reads as n-start-reads
use Rattle.numbers.proofs.stepped.Kinds as n-stepped-kinds
use Rattle.numbers.proofs.stepped.Reads as n-stepped-reads
use Rattle.numbers.proofs.begin_numbers.Kinds as n-begin-kinds
use Rattle.numbers.proofs.begin_numbers.Reads as n-begin-reads
use Rattle.numbers.proofs.turned.Kinds as n-turned-kinds
use Rattle.numbers.proofs.turned.Reads as n-turned-reads
use Rattle.jobfile.proofs.read_job.Kinds as read-job-kinds
use Rattle.jobfile.proofs.read_job.Reads as read-job-reads
use Rattle.jobfile.proofs.read_image.Kinds as read-image-kinds
use Rattle.jobfile.proofs.read_image.Reads as read-image-reads
use Rattle.billing.proofs.bill_file.Kinds as bill-file-kinds
use Rattle.billing.proofs.bill_file.Reads as bill-file-reads
use Rattle.bus.proofs.cycle.OperationNumbersFromOperation.from.Kinds as operation-numbers-kinds
use Rattle.bus.proofs.cycle.OperationNumbersFromOperation.from.Reads as operation-numbers-reads
use Rattle.bus.proofs.cycle.DeviceNumbersFromDevice.from.Kinds as device-numbers-kinds
use Rattle.bus.proofs.cycle.DeviceNumbersFromDevice.from.Reads as device-numbers-reads
use Rattle.bus.proofs.cycle.OperationFromOperationNumbers.from.Kinds as operation-kinds
use Rattle.bus.proofs.cycle.OperationFromOperationNumbers.from.Reads as operation-reads
use Rattle.bus.proofs.cycle.DeviceFromDeviceNumbers.from.Kinds as device-kinds
use Rattle.bus.proofs.cycle.DeviceFromDeviceNumbers.from.Reads as device-reads
use Rattle.numbers.proofs.machine.DriverNumbersFromDriver.from.Kinds as driver-numbers-kinds
use Rattle.numbers.proofs.machine.DriverNumbersFromDriver.from.Reads as driver-numbers-reads
use Rattle.numbers.proofs.machine.DriverFromDriverNumbers.from.Kinds as driver-kinds
use Rattle.numbers.proofs.machine.DriverFromDriverNumbers.from.Reads as driver-reads
use Rattle.numbers.proofs.machine.CycleNumbersFromOptionTuple2U32Action.from.Kinds as next-numbers-kinds
use Rattle.numbers.proofs.machine.CycleNumbersFromOptionTuple2U32Action.from.Reads as next-numbers-reads
use Rattle.numbers.proofs.machine.StepNumbersFromStep.from.Kinds as step-numbers-kinds
use Rattle.numbers.proofs.machine.StepNumbersFromStep.from.Reads as step-numbers-reads
use Rattle.numbers.proofs.loading.LoadingNumbersFromLoading.from.Kinds as loading-numbers-kinds
use Rattle.numbers.proofs.loading.LoadingNumbersFromLoading.from.Reads as loading-numbers-reads
use Rattle.numbers.proofs.loading.LoadingFromLoadingNumbers.from.Kinds as loading-kinds
use Rattle.numbers.proofs.loading.LoadingFromLoadingNumbers.from.Reads as loading-reads
use Rattle.numbers.proofs.loading.CycleNumbersFromOptionTuple2PurposeCycle.from.Kinds as sending-numbers-kinds
use Rattle.numbers.proofs.loading.CycleNumbersFromOptionTuple2PurposeCycle.from.Reads as sending-numbers-reads
use Rattle.job.proofs.bill.BillFromRefusal.from.Kinds as refused-bill-kinds
use Rattle.job.proofs.bill.BillFromRefusal.from.Reads as refused-bill-reads
use Rattle.job.proofs.bill.ReportFromRefusal.from.Kinds as refused-report-kinds
use Rattle.job.proofs.bill.ReportFromRefusal.from.Reads as refused-report-reads
use Rattle.random.proofs.Random.word.Kinds as word-kinds
use Rattle.random.proofs.Random.word.Reads as word-reads
use Rattle.station.proofs.station_figure.Kinds as c-figure-kinds
use Rattle.station.proofs.station_figure.Reads as c-figure-reads
use Rattle.station.proofs.station_figure_answer.Kinds as c-answer-kinds
use Rattle.station.proofs.station_figure_answer.Reads as c-answer-reads
use Rattle.station.proofs.station_write_address.Kinds as c-address-kinds
use Rattle.station.proofs.station_write_address.Reads as c-address-reads
use Rattle.station.proofs.station_write_data.Kinds as c-data-kinds
use Rattle.station.proofs.station_write_data.Reads as c-data-reads
use Rattle.station.proofs.station_write_answer.Kinds as c-write-answer-kinds
use Rattle.station.proofs.station_write_answer.Reads as c-write-answer-reads
use Rattle.station.proofs.station_start.Kinds as c-start-kinds
use Rattle.station.proofs.station_start.Reads as c-start-reads
use Rattle.station.proofs.station_step.Kinds as c-step-kinds
use Rattle.station.proofs.station_step.Reads as c-step-reads
use Rattle.station.proofs.station_fresh.Kinds as c-fresh-kinds
use Rattle.station.proofs.station_fresh.Reads as c-fresh-reads
use Rattle.station.proofs.station_read.Kinds as c-read-kinds
use Rattle.station.proofs.station_read.Reads as c-read-reads
use Rattle.station.proofs.station_write.Kinds as c-write-kinds
use Rattle.station.proofs.station_write.Reads as c-write-reads
use Rattle.station.proofs.station_idle.Kinds as c-idle-kinds
use Rattle.station.proofs.station_idle.Reads as c-idle-reads
use Rattle.station.proofs.station_cut.Kinds as c-cut-kinds
use Rattle.station.proofs.station_cut.Reads as c-cut-reads
use Rattle.alone.proofs.station_load_alone.Kinds as alone-kinds
use Rattle.alone.proofs.station_load_alone.Reads as alone-reads
use Rattle.station.proofs.station_load.Kinds as c-load-kinds
use Rattle.station.proofs.station_load.Reads as c-load-reads
use Rattle.station.proofs.station_load_first.Kinds as c-load-first-kinds
use Rattle.station.proofs.station_load_first.Reads as c-load-first-reads
use Rattle.station.proofs.station_begin.Kinds as c-begin-kinds
use Rattle.station.proofs.station_begin.Reads as c-begin-reads
use Rattle.station.proofs.station_turn.Kinds as c-turn-kinds
use Rattle.station.proofs.station_turn.Reads as c-turn-reads
use Rattle.station.proofs.station_job.Kinds as c-job-kinds
use Rattle.station.proofs.station_job.Reads as c-job-reads
use Rattle.station.proofs.station_image.Kinds as c-image-kinds
use Rattle.station.proofs.station_image.Reads as c-image-reads
use Rattle.station.proofs.station_bill.Kinds as c-bill-kinds
use Rattle.station.proofs.station_bill.Reads as c-bill-reads

-- any two results that the promise allows are equal
abbrev pub OneResult : (n : ℕ) (ps : List (ParamKind n)) (r : ResultKind n) → Out n ps r → Type 0
OneResult n ps r Post =
    (κs : Lfts n) (a : Dens κs ps) (x y : (res_t r κs).Denot) (s t : AtExit (ended_of n ps r) κs)
    → Post κs a x s → Post κs a y t → x ≡ y

-- and so is what is lent afterwards: a slice's values, or the place in a row of random words
abbrev pub OneOutcome : {A : Type 0} (n : ℕ) (ps : List (ParamKind n)) (r : ResultKind n) → Out n ps r
    → ((κs : Lfts n) → AtExit (ended_of n ps r) κs → A) → Type 0
OneOutcome n ps r Post held =
    (κs : Lfts n) (a : Dens κs ps) (x y : (res_t r κs).Denot) (s t : AtExit (ended_of n ps r) κs)
    → Post κs a x s → Post κs a y t → (x ≡ y) × (held κs s ≡ held κs t)

pub record Unique : Type 0 where
  -- the part table
  pub number : OneResult 0 number-kinds.ps number-kinds.r number-reads.Post
  pub value : OneResult 0 value-kinds.ps value-kinds.r value-reads.Post
  pub blank : OneResult 0 blank-kinds.ps blank-kinds.r blank-reads.Post
  pub fits : OneResult 0 fits-kinds.ps fits-kinds.r fits-reads.Post
  pub part-row : OneResult 0 part-row-kinds.ps part-row-kinds.r part-row-reads.Post
  pub part-figure : OneResult 0 part-figure-kinds.ps part-figure-kinds.r part-figure-reads.Post
  pub span-holds : OneResult 0 span-holds-kinds.ps span-holds-kinds.r span-holds-reads.Post
  pub sector-size : OneResult 0 sector-size-kinds.ps sector-size-kinds.r sector-size-reads.Post
  pub sector-of : OneResult 0 sector-of-kinds.ps sector-of-kinds.r sector-of-reads.Post
  pub has-blocks : OneResult 0 has-blocks-kinds.ps has-blocks-kinds.r has-blocks-reads.Post
  pub block_of : OneResult 0 block-of-kinds.ps block-of-kinds.r block-of-reads.Post
  pub protected-range : OneResult 0 protected-range-kinds.ps protected-range-kinds.r protected-range-reads.Post
  pub time : OneResult 0 time-kinds.ps time-kinds.r time-reads.Post
  pub has-command : OneResult 0 has-command-kinds.ps has-command-kinds.r has-command-reads.Post
  pub is-interval : OneResult 0 is-interval-kinds.ps is-interval-kinds.r is-interval-reads.Post
  pub rounded-up : OneResult 0 rounded-up-kinds.ps rounded-up-kinds.r rounded-up-reads.Post
  -- what values say
  pub decision-of : OneResult 2 decision-of-kinds.ps decision-of-kinds.r decision-of-reads.Post
  pub leading : OneResult 1 leading-kinds.ps leading-kinds.r leading-reads.Post
  pub sum : OneResult 1 sum-kinds.ps sum-kinds.r sum-reads.Post
  pub all_fit : OneResult 1 all-fit-kinds.ps all-fit-kinds.r all-fit-reads.Post
  -- the refusals of a job
  pub check-job : OneResult 1 check-job-kinds.ps check-job-kinds.r check-job-reads.Post
  pub check-begin : OneResult 1 check-begin-kinds.ps check-begin-kinds.r check-begin-reads.Post
  pub check-standing : OneResult 0 check-standing-kinds.ps check-standing-kinds.r check-standing-reads.Post
  pub check-standing-on : OneResult 0 check-standing-on-kinds.ps check-standing-on-kinds.r check-standing-on-reads.Post
  -- the table of commands
  pub effect_of : OneResult 0 effect-of-kinds.ps effect-of-kinds.r effect-of-reads.Post
  -- the chip
  pub no-operation : OneResult 0 no-operation-kinds.ps no-operation-kinds.r no-operation-reads.Post
  pub fresh : OneResult 0 fresh-kinds.ps fresh-kinds.r fresh-reads.Post
  pub bus-cycle : OneOutcome 1 bus-cycle-kinds.ps bus-cycle-kinds.r bus-cycle-reads.Post (λ κs s. s.1.0.now)
  -- the driver
  pub start : OneResult 0 start-kinds.ps start-kinds.r start-reads.Post
  pub start_writing : OneResult 0 start-writing-kinds.ps start-writing-kinds.r start-writing-reads.Post
  pub step : OneResult 0 step-kinds.ps step-kinds.r step-reads.Post
  pub command-writes : OneResult 0 command-writes-kinds.ps command-writes-kinds.r command-writes-reads.Post
  pub kth-write : OneResult 0 kth-write-kinds.ps kth-write-kinds.r kth-write-reads.Post
  -- the job
  pub load : OneOutcome 2 load-kinds.ps load-kinds.r load-reads.Post (λ κs s. s.1.0.now)
  pub load-first : OneOutcome 2 load-first-kinds.ps load-first-kinds.r load-first-reads.Post (λ κs s. s.1.0.now)
  pub is-ending : OneResult 0 is-ending-kinds.ps is-ending-kinds.r is-ending-reads.Post
  pub begin-load : OneResult 1 begin-load-kinds.ps begin-load-kinds.r begin-load-reads.Post
  pub turn : OneOutcome 2 turn-kinds.ps turn-kinds.r turn-reads.Post (λ κs s. s.1.1.0.now)
  -- the states as numbers
  pub start-numbers : OneResult 0 n-start-kinds.ps n-start-kinds.r n-start-reads.Post
  pub stepped : OneResult 0 n-stepped-kinds.ps n-stepped-kinds.r n-stepped-reads.Post
  pub cycled : OneOutcome 1 n-cycled-kinds.ps n-cycled-kinds.r n-cycled-reads.Post (λ κs s. s.1.0.now)
  pub begin-numbers : OneResult 0 n-begin-kinds.ps n-begin-kinds.r n-begin-reads.Post
  pub turned : OneOutcome 2 n-turned-kinds.ps n-turned-kinds.r n-turned-reads.Post (λ κs s. s.1.1.0.now)
  -- the conversions: of a state to its numbers and back, of what is named, of a refusal
  pub operation-numbers : OneResult 0 operation-numbers-kinds.ps operation-numbers-kinds.r operation-numbers-reads.Post
  pub device-numbers : OneResult 0 device-numbers-kinds.ps device-numbers-kinds.r device-numbers-reads.Post
  pub operation : OneResult 0 operation-kinds.ps operation-kinds.r operation-reads.Post
  pub device : OneResult 0 device-kinds.ps device-kinds.r device-reads.Post
  pub driver-numbers : OneResult 0 driver-numbers-kinds.ps driver-numbers-kinds.r driver-numbers-reads.Post
  pub driver : OneResult 0 driver-kinds.ps driver-kinds.r driver-reads.Post
  pub next-numbers : OneResult 0 next-numbers-kinds.ps next-numbers-kinds.r next-numbers-reads.Post
  pub step-numbers : OneResult 0 step-numbers-kinds.ps step-numbers-kinds.r step-numbers-reads.Post
  pub loading-numbers : OneResult 0 loading-numbers-kinds.ps loading-numbers-kinds.r loading-numbers-reads.Post
  pub loading : OneResult 0 loading-kinds.ps loading-kinds.r loading-reads.Post
  pub sending-numbers : OneResult 0 sending-numbers-kinds.ps sending-numbers-kinds.r sending-numbers-reads.Post
  pub refused-bill : OneResult 0 refused-bill-kinds.ps refused-bill-kinds.r refused-bill-reads.Post
  pub refused-report : OneResult 0 refused-report-kinds.ps refused-report-kinds.r refused-report-reads.Post
  -- the job file
  pub read-job : OneResult 1 read-job-kinds.ps read-job-kinds.r read-job-reads.Post
  pub read-image : OneOutcome 2 read-image-kinds.ps read-image-kinds.r read-image-reads.Post (λ κs s. s.1.1.0.now)
  -- the bill of a job file
  pub bill-file : OneResult 1 bill-file-kinds.ps bill-file-kinds.r bill-file-reads.Post
  -- the random words of the programs that are timed
  pub word : OneOutcome 1 word-kinds.ps word-kinds.r word-reads.Post (λ κs s. s.0.now.state)
  -- the C controller
  pub station-figure : OneResult 0 c-figure-kinds.ps c-figure-kinds.r c-figure-reads.Post
  pub station-figure-answer : OneResult 0 c-answer-kinds.ps c-answer-kinds.r c-answer-reads.Post
  pub station-write-address : OneResult 0 c-address-kinds.ps c-address-kinds.r c-address-reads.Post
  pub station-write-data : OneResult 0 c-data-kinds.ps c-data-kinds.r c-data-reads.Post
  pub station-write-answer : OneResult 0 c-write-answer-kinds.ps c-write-answer-kinds.r c-write-answer-reads.Post
  pub station-start : OneResult 0 c-start-kinds.ps c-start-kinds.r c-start-reads.Post
  pub station-step : OneResult 0 c-step-kinds.ps c-step-kinds.r c-step-reads.Post
  pub station-fresh : OneResult 0 c-fresh-kinds.ps c-fresh-kinds.r c-fresh-reads.Post
  pub station-read : OneOutcome 1 c-read-kinds.ps c-read-kinds.r c-read-reads.Post (λ κs s. s.1.0.now)
  pub station-write : OneOutcome 1 c-write-kinds.ps c-write-kinds.r c-write-reads.Post (λ κs s. s.1.0.now)
  pub station-idle : OneOutcome 1 c-idle-kinds.ps c-idle-kinds.r c-idle-reads.Post (λ κs s. s.1.0.now)
  pub station-cut : OneOutcome 1 c-cut-kinds.ps c-cut-kinds.r c-cut-reads.Post (λ κs s. s.1.0.now)
  pub station-load : OneOutcome 2 c-load-kinds.ps c-load-kinds.r c-load-reads.Post (λ κs s. s.1.0.now)
  pub station-load-alone : OneOutcome 2 alone-kinds.ps alone-kinds.r alone-reads.Post (λ κs s. s.1.0.now)
  pub station-load-first : OneOutcome 2 c-load-first-kinds.ps c-load-first-kinds.r c-load-first-reads.Post (λ κs s. s.1.0.now)
  pub station-begin : OneResult 1 c-begin-kinds.ps c-begin-kinds.r c-begin-reads.Post
  pub station-turn : OneOutcome 2 c-turn-kinds.ps c-turn-kinds.r c-turn-reads.Post (λ κs s. s.1.1.0.now)
  pub station-job : OneResult 1 c-job-kinds.ps c-job-kinds.r c-job-reads.Post
  pub station-image : OneOutcome 2 c-image-kinds.ps c-image-kinds.r c-image-reads.Post (λ κs s. s.1.1.0.now)
  pub station-bill : OneResult 1 c-bill-kinds.ps c-bill-kinds.r c-bill-reads.Post
