-- What the customer pays for: what is said of every accepted job.
use Rattle.std.specs.Prelude.{ℕ, zero, suc, ◌+◌, ◌*◌, ◌/◌, ◌≤◌, ◌<◌, ◌≡◌, Bool, true, false, List, [], ◌++◌, length, get_or, take, drop}
use Rattle.parts.specs.Names.{PROGRAM, SECTOR, BLOCK, CHIP}
use Rattle.parts.specs.Width.{value_of, sector_size}
use Rattle.parts.specs.Table.{row_of}
use Rattle.parts.specs.Time.{polls_of}
use Rattle.device.specs.declared.state.Device.{Device}
use Rattle.device.specs.declared.state.Operation.{Operation}
use Rattle.device.specs.declared.cycle.Cycle.{Cycle}
use Rattle.device.specs.Device.{fresh_device, idle}
use Rattle.device.specs.Cycle.{chip}
use Rattle.device.specs.Trace.{play, started_in, uncut as uncutAll}
use Rattle.device.specs.Recent.{later}
use Rattle.driver.specs.Reads.{Scans, Polls, Confirms, Place, places_in, how_many}
use Rattle.values.specs.Total.{sum_of}
use Rattle.job.specs.Sent.{sent_of}
use Rattle.job.specs.Bill.{job_from, played_all, Loaded, Reported}
use Rattle.invoice.specs.Started.{cycles_in, time_in, showing, last_in, last_shown, told_last, many}

-- the job's bus cycles
abbrev pub sent_cycles : ℕ → List ℕ → ℕ → List ℕ → Bool → ℕ → List Cycle
sent_cycles part cells first image wp p = cycles_in (sent_of (job_from part first (length image) wp p) image cells)

-- the bus cycles of n jobs of one sector each, from first on, every one on the same cells
abbrev pub sectors_alone : ℕ → List ℕ → Bool → ℕ → ℕ → ℕ → List ℕ → List Cycle
sectors_alone part cells wp p zero first image = []
sectors_alone part cells wp p (suc n) first image =
    sent_cycles part cells first (take (sector_size (row_of part).width) image) wp p
    ++ sectors_alone part cells wp p n (first + sector_size (row_of part).width) (drop (sector_size (row_of part).width) image)

-- the operations that they start, from a fresh device on
abbrev pub started : ℕ → List ℕ → ℕ → List ℕ → Bool → ℕ → List Operation
started part cells first image wp p = started_in part (chip cells fresh_device) (sent_cycles part cells first image wp p)

-- what each of them is, told by its place on the chip
abbrev pub places_sent : ℕ → List ℕ → ℕ → List ℕ → Bool → ℕ → List Place
places_sent part cells first image wp p = places_in part Scans (chip cells fresh_device) (sent_cycles part cells first image wp p)

-- what is said of the cells and the bill that a job came to
pub record Invoice (part : ℕ) (cells : List ℕ) (first : ℕ) (image : List ℕ) (wp : Bool) (p : ℕ) (l : Loaded) : Type 0 where
  -- the range holds the image, meant of values; every other cell is the word that it was; the device ends fresh, and so idle
  pub holds : (i : ℕ) → i < length image → value_of (row_of part).width (get_or l.cells (first + i) 0) ≡ get_or image i 0
  pub below : (i : ℕ) → i < first → get_or l.cells i 0 ≡ get_or cells i 0
  pub above : (i : ℕ) → first + length image ≤ i → get_or l.cells i 0 ≡ get_or cells i 0
  pub rests : (played_all part cells first image wp p).held.device ≡ fresh_device
  -- the cells are what the cycles sent leave, played from a fresh device on
  pub played : l.cells ≡ (play part (chip cells fresh_device) (sent_cycles part cells first image wp p)).cells
  -- the erases and programs are the operations that the cycles sent start on the chip; they start no other
  pub erases : l.bill.erases ≡ many SECTOR (started part cells first image wp p)
  pub programs : l.bill.programs ≡ many PROGRAM (started part cells first image wp p)
  pub only : length (started part cells first image wp p) ≡ l.bill.erases + l.bill.programs
  pub blocks : many BLOCK (started part cells first image wp p) ≡ 0
  pub chips : many CHIP (started part cells first image wp p) ≡ 0
  -- the polls, the scans and the confirming reads are those of the cycles sent, told by their places; and the time is theirs
  pub polled : l.bill.polls ≡ how_many Polls (places_sent part cells first image wp p)
  pub scanned : l.bill.scans ≡ how_many Scans (places_sent part cells first image wp p)
  pub confirmed : l.bill.confirms ≡ how_many Confirms (places_sent part cells first image wp p)
  pub timed : l.bill.spent ≡ time_in (sent_cycles part cells first image wp p)
  -- of the scans and of the confirming reads as many show the value of their cell, so all do: no inverted word is taken for one
  pub scans-show : l.bill.scans ≡ showing part Scans Scans (chip cells fresh_device) (sent_cycles part cells first image wp p)
  pub confirms-show : l.bill.confirms ≡ showing part Confirms Scans (chip cells fresh_device) (sent_cycles part cells first image wp p)
  -- polls = sum of N over operations; spent = polls times p, and a µs for each confirming read; confirms = erases + programs
  pub polls : l.bill.polls ≡ l.bill.erases * polls_of (row_of part) SECTOR p + l.bill.programs * polls_of (row_of part) PROGRAM p
  pub spent : l.bill.spent ≡ l.bill.polls * p + l.bill.confirms
  pub confirms : l.bill.confirms ≡ l.bill.erases + l.bill.programs
  -- scans = cells in range plus cells of unerased sectors: with the cells of erased sectors they are twice the range's
  pub scans : l.bill.scans + l.bill.erases * sector_size (row_of part).width ≡ length image + length image
  -- saved = (every sector erased and every cell programmed, each at N times p and 1 µs) less spent
  pub saved : l.bill.saved + l.bill.spent
      ≡ length image / sector_size (row_of part).width * (polls_of (row_of part) SECTOR p * p + 1) + length image * (polls_of (row_of part) PROGRAM p * p + 1)
  -- sum = the range's values added in 16 bits, wrapping; and the answer is 0
  pub sum : l.bill.sum ≡ sum_of (row_of part).width (take (length image) (drop first l.cells))
  pub answer : l.bill.answer ≡ 0

-- the first k of them, all if fewer
abbrev pub first_sent : ℕ → List ℕ → ℕ → List ℕ → Bool → ℕ → ℕ → List Cycle
first_sent part cells first image wp p k = take k (sent_cycles part cells first image wp p)

-- what is said of the cells and the report that a second call came to: the first k of the job's bus cycles, all if fewer, played and counted
pub record Partly (part : ℕ) (cells : List ℕ) (first : ℕ) (image : List ℕ) (wp : Bool) (p k : ℕ) (l : Reported) : Type 0 where
  -- the cells are what these cycles leave, played from a fresh device on
  pub played : l.cells ≡ (play part (chip cells fresh_device) (first_sent part cells first image wp p k)).cells
  -- the last cycle is the last of them, the k-th unless there are fewer; the reply is what it shows on the chip that those before it leave; zeros for none
  pub last : told_last l.report.last ≡ last_in (first_sent part cells first image wp p k)
  pub zeros : first_sent part cells first image wp p k ≡ [] → l.report.last ≡ record { kind = 0; elapsed = 0; wp = false; address = 0; «data» = 0 }
  pub reply : l.report.reply ≡ last_shown part (chip cells fresh_device) (first_sent part cells first image wp p k)
  -- the erases and programs are the operations that these cycles start on the chip; they start no other
  pub erases : l.report.erases ≡ many SECTOR (started_in part (chip cells fresh_device) (first_sent part cells first image wp p k))
  pub programs : l.report.programs ≡ many PROGRAM (started_in part (chip cells fresh_device) (first_sent part cells first image wp p k))
  pub only : length (started_in part (chip cells fresh_device) (first_sent part cells first image wp p k)) ≡ l.report.erases + l.report.programs
  -- the polls, the scans and the confirming reads are those of these cycles, told by their places; and the time and the number sent are theirs
  pub polled : l.report.polls ≡ how_many Polls (places_in part Scans (chip cells fresh_device) (first_sent part cells first image wp p k))
  pub scanned : l.report.scans ≡ how_many Scans (places_in part Scans (chip cells fresh_device) (first_sent part cells first image wp p k))
  pub confirmed : l.report.confirms ≡ how_many Confirms (places_in part Scans (chip cells fresh_device) (first_sent part cells first image wp p k))
  pub timed : l.report.time ≡ time_in (first_sent part cells first image wp p k)
  pub sent : l.report.sent ≡ length (first_sent part cells first image wp p k)
  pub answer : l.report.answer ≡ 0

-- a list of bus cycles that also loads the image: from the same cells and an idle device, without cut, block or chip erase, to a device that is idle, or is so
-- some time later, as it is where the last operation has just completed. It may suspend erases and resume them
pub record Rival (part : ℕ) (cells : List ℕ) (first : ℕ) (image : List ℕ) (d : Device) (cs : List Cycle) : Type 0 where
  pub begins : idle d ≡ true
  pub uncut : uncutAll cs ≡ true
  pub blocks : many BLOCK (started_in part (chip cells d) cs) ≡ 0
  pub chips : many CHIP (started_in part (chip cells d) cs) ≡ 0
  pub ends : idle (later (play part (chip cells d) cs).device) ≡ true
  pub holds : (i : ℕ) → i < length image → value_of (row_of part).width (get_or (play part (chip cells d) cs).cells (first + i) 0) ≡ get_or image i 0
