-- Every promise determines its outcome. What is proved stands in specs/Unique.antt; each is proved in the crate that exports the function.
use Rattle.parts.proofs.Determined as parts
use Rattle.table.proofs.Determined as table
use Rattle.values.proofs.Determined as values
use Rattle.request.proofs.Determined as request
use Rattle.commands.proofs.Determined as commands
use Rattle.device.proofs.Determined as device
use Rattle.chip.proofs.Determined as chip
use Rattle.driver.proofs.Determined as driver
use Rattle.bus.proofs.Determined as bus
use Rattle.job.proofs.Determined as job
use Rattle.numbers.proofs.Determined as numbers
use Rattle.jobfile.proofs.Determined as jobfile
use Rattle.billing.proofs.Determined as billing
use Rattle.alone.proofs.Determined as alone
use Rattle.station.proofs.Determined as station
use Rattle.random.proofs.Determined as random
use Rattle.demands.specs.Unique.{Unique}

pub unique : Unique
unique =
    record {
      number = parts.number-unique;
      value = parts.value-unique;
      blank = parts.blank-unique;
      fits = parts.fits-unique;
      part-row = table.part-row-unique;
      part-figure = table.part-figure-unique;
      span-holds = parts.holds-unique;
      sector-size = parts.sector-size-unique;
      sector-of = parts.sector-of-unique;
      has-blocks = parts.has-blocks-unique;
      block_of = parts.block-of-unique;
      protected-range = parts.protected-range-unique;
      time = parts.time-unique;
      has-command = parts.has-command-unique;
      is-interval = parts.is-interval-unique;
      rounded-up = parts.rounded-up-unique;
      decision-of = values.decision-of-unique;
      leading = values.leading_unique;
      sum = values.sum-unique;
      all_fit = values.all-fit-unique;
      check-job = request.check-job-unique;
      check-begin = request.check-begin-unique;
      check-standing = request.check-standing-unique;
      check-standing-on = request.check-standing-on-unique;
      effect_of = commands.effect-of-unique;
      no-operation = device.no-operation-unique;
      fresh = device.fresh-unique;
      bus-cycle = chip.bus-cycle-unique;
      start = driver.start-unique;
      start_writing = driver.start-writing-unique;
      step = driver.step-unique;
      command-writes = driver.command-writes-unique;
      kth-write = driver.kth-write-unique;
      load = job.load-unique;
      load-first = job.load-first-unique;
      is-ending = job.is-ending-unique;
      begin-load = job.begin-load-unique;
      turn = job.turn-unique;
      start-numbers = numbers.start-numbers-unique;
      stepped = numbers.stepped-unique;
      cycled = bus.cycled-unique;
      begin-numbers = numbers.begin-numbers-unique;
      turned = numbers.turned-unique;
      operation-numbers = bus.operation-numbers-unique;
      device-numbers = bus.device-numbers-unique;
      operation = bus.operation-unique;
      device = bus.device-unique;
      driver-numbers = numbers.driver-numbers-unique;
      driver = numbers.driver-unique;
      next-numbers = numbers.next-numbers-unique;
      step-numbers = numbers.step-numbers-unique;
      loading-numbers = numbers.loading-numbers-unique;
      loading = numbers.loading-unique;
      sending-numbers = numbers.sending-numbers-unique;
      refused-bill = job.refused-bill-unique;
      refused-report = job.refused-report-unique;
      read-job = jobfile.read-job-unique;
      read-image = jobfile.read-image-unique;
      bill-file = billing.bill-file-unique;
      word = random.word-unique;
      station-figure = station.figure-unique;
      station-figure-answer = station.answer-unique;
      station-write-address = station.write-address-unique;
      station-write-data = station.write-data-unique;
      station-write-answer = station.write-answer-unique;
      station-start = station.start-unique;
      station-step = station.step-unique;
      station-fresh = station.fresh-unique;
      station-read = station.read-unique;
      station-write = station.write-unique;
      station-idle = station.idle-unique;
      station-cut = station.cut-unique;
      station-load = station.load-unique;
      station-load-alone = alone.load-alone-unique;
      station-load-first = station.load-first-unique;
      station-begin = station.begin-unique;
      station-turn = station.turn-unique;
      station-job = station.job-unique;
      station-image = station.image-unique;
      station-bill = station.bill-unique;
    }
