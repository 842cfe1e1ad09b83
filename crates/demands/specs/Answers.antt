-- What each exported function answers where it does not refuse. The bus cycle's is in Demand2, the job's in Demand3; the part's
-- small questions (value, blank, sector and block of an address ..) and those of a slice of values refuse nothing; a job's refusals
-- are themselves what Demand1 and Socket have the job and its begin answer.
use Rattle.std.specs.Prelude.{ℕ, ◌-◌, ◌≡◌, true, false, length, get_or}
use Rattle.parts.specs.Table.{row_of, part_refusal}
use Rattle.table.specs.Figures.{figure, columns}
use Rattle.driver.specs.Writes.{no_write, write_count, writes_of, writes, kth}
use Rattle.driver.specs.Machine.{begun, in_range, writing}
use Rattle.jobfile.specs.JobFile.{malformed, trailer_of, asked, values_of}
use Rattle.demands.specs.Calls.{StartCall, to_start, refused_start, StepCall, to_step, WritesCall, ToWrite, to_write, writes_told, refused_writes, KthCall, kth_told, StationAddressCall, StationDataCall, KthAsked, kth_asked, refused_kth, RowCall, row_asked, row_told, FigureCall, figure_told, StationFigureCall, FigureAsked, figure_asked, refused_figure, FileCall, to_read, ImageCall, to_read_image, image_left}

-- the entry of a part's line in a column
abbrev pub entry : FigureAsked → ℕ
entry g = get_or (columns (row_of g.part)) g.column 0

-- the command whose k-th write is asked for
abbrev pub without_k : KthAsked → ToWrite
without_k g = record { part = g.part; command = g.command; address = g.address; word = g.word }

pub record Answers : Type 0 where
  -- A part's row and figures are its line of the table.
  pub row-given : (c : RowCall) → let n = (row_asked c).part in part_refusal n ≡ 0
      → row_told c ≡ record { answer = 0; row = row_of n }
  pub figure-given : (c : FigureCall) → let g = figure_asked c.given in refused_figure g ≡ 0 → figure_told c ≡ figure 0 (entry g)
  pub station-figure-given : (c : StationFigureCall) → let g = figure_asked c.given in refused_figure g ≡ 0 → c.back ≡ entry g
  -- A command's writes together: their number, and they in six places.
  pub writes-given : (c : WritesCall) → let g = to_write c in refused_writes g ≡ 0
      → writes_told c ≡ writes 0 (write_count g.command) (writes_of (row_of g.part) g.command g.address g.word)
  -- The k-th write is the k-th of them, from 0.
  pub kth-given : (c : KthCall) → let g = kth_asked c.given in refused_kth g ≡ 0
      → let w = get_or (writes_of (row_of g.part) g.command g.address g.word) g.k no_write in
      kth_told c ≡ record { answer = 0; address = w.address; «data» = w.«data» }
  -- So it is the k-th of the writes that are returned together, where both are asked of the same command.
  pub kth-among : (c : KthCall) (w : WritesCall) → let g = kth_asked c.given in without_k g ≡ to_write w → refused_kth g ≡ 0
      → kth_told c ≡ kth 0 (get_or (writes_told w).writes g.k no_write)
  pub station-address-given : (c : StationAddressCall) → let g = kth_asked c.given in refused_kth g ≡ 0
      → c.back ≡ (get_or (writes_of (row_of g.part) g.command g.address g.word) g.k no_write).address
  pub station-data-given : (c : StationDataCall) → let g = kth_asked c.given in refused_kth g ≡ 0
      → c.back ≡ (get_or (writes_of (row_of g.part) g.command g.address g.word) g.k no_write).«data»
  -- A start hands back a driver that has named nothing yet.
  pub start-given : (c : StartCall) → let g = to_start c.given in refused_start g ≡ 0
      → c.back ≡ record { answer = 0; driver = begun g.part g.command g.address g.word g.p }
  -- A step's polls are those named so far, this one among them, as they stand in the state handed back; 0 while it writes.
  pub polls-given : (c : StepCall) → let d = (to_step c).driver in in_range d ≡ true
      → (writing d.phase ≡ true → c.back.polls ≡ 0) × (writing d.phase ≡ false → c.back.polls ≡ c.back.driver.count)
  -- A job file that is not malformed: what its trailer asks. An image: the file's values from a byte on, over all that is lent.
  pub file-given : (c : FileCall) → let f = (to_read c).file in malformed f ≡ false → c.back ≡ asked (trailer_of f) (length f - 16)
  pub image-given : (c : ImageCall) → let g = to_read_image c in image_left c ≡ values_of g.file g.start g.room
