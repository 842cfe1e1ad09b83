-- The loader for a real socket: `begin_load` and `turn`. It has a bus and no cells. Refusals come exactly when stated and
-- change nothing; driven against the model it sends the job's one list and leaves what `load` leaves; and whatever is
-- replied it ends after a stated number of cycles with 0, 11 or 12, so that a dead chip releases the socket in the middle
-- of a job too.
use Rattle.std.specs.Prelude.{ℕ, ◌≤◌, ◌≡◌, false, List, length, take, None}
use Rattle.parts.specs.Names.{BAD-STATE}
use Rattle.parts.specs.Table.{row_of}
use Rattle.device.specs.Device.{fresh_device}
use Rattle.device.specs.Cycle.{chip}
use Rattle.bus.specs.Cycle.{device_numbers}
use Rattle.job.specs.declared.loader.Job.{Job}
use Rattle.job.specs.declared.loading.Progress.TheVariants.{Waiting}
use Rattle.job.specs.declared.loading.Loading.{Loading}
use Rattle.job.specs.declared.loading.Begun.{Begun}
use Rattle.job.specs.Sent.{sent_of}
use Rattle.job.specs.Bill.{job_from, report_of}
use Rattle.job.specs.Loading.{loading, is_ending, loading_in_range, load_turn, LoadTurned, load_turned}
use Rattle.job.specs.Socket.{load_talk, load_heard, cycles_most, HasLoaded, HasEnded}
use Rattle.demands.specs.Calls.{BeginCall, ToBegin, to_begin, refused_begin, zero_loading, TurnCall, to_turn, turn_left}
use Rattle.numbers.specs.declared.loading.BeginNumbers.{BeginNumbers}
use Rattle.numbers.specs.Loading.{loading_numbers, loading_of, no_turn, no_state_turned, turned_of}
use Rattle.numbers.specs.JobLoop.{turns_with, job_told_numbers, job_loop, job_heard_numbers, job_hearing}
use Rattle.demands.specs.Controller.{StationBeginCall, station_to_begin, StationTurnCall, numbers_to_turn, loading_numbers_in_range, station_turn_left}
use Rattle.demands.specs.Demand1.{Refuses}

-- the job that is begun
abbrev pub job_begun : ToBegin → Job
job_begun g = job_from g.part g.first (length g.image) g.wp g.p

-- a controller: for each state, kept readings and value read it calls turn, always with one image
pub record Controller (image : List ℕ) : Type 0 where
  pub calls : Loading → List ℕ → ℕ → TurnCall
  pub given : (g : Loading) (seen : List ℕ) (read : ℕ) → to_turn (calls g seen read) ≡ record { loading = g; image = image; seen = seen; read = read }

-- what such a call hands back
abbrev pub turns : (image : List ℕ) → Controller image → Loading → List ℕ → ℕ → LoadTurned
turns image k g seen read = turn_left (k.calls g seen read)

pub record Socket : Type 0 where
  -- A refused begin answers its number and hands back an all-zero state;
  pub begin-refuses : (c : BeginCall) → let n = refused_begin (to_begin c) in
      Refuses Begun c.back.answer n c.back (record { answer = n; loading = zero_loading })
  -- which a turn answers with 5, whatever the image, the kept readings and the value read.
  pub zero-refused : (c : TurnCall) → let g = to_turn c in g.loading ≡ zero_loading
      → turn_left c ≡ load_turned g.seen (load_turn BAD-STATE zero_loading None)
  -- A begin that is not refused hands back the job, with no cycle named yet.
  pub begin-given : (c : BeginCall) → let g = to_begin c in refused_begin g ≡ 0
      → c.back ≡ record { answer = 0; loading = loading g.part g.first (length g.image) g.wp g.p Waiting }
  -- A turn answers 5 for a state that is out of range for its part and image (`loading_in_range`).
  pub out_of_range : (c : TurnCall) → let g = to_turn c in loading_in_range g.loading g.image ≡ false
      → turn_left c ≡ load_turned g.seen (load_turn BAD-STATE g.loading None)
  -- A turn that refuses, with a number other than 0, 11 and 12, names no cycle, and hands back the state and the kept
  -- readings as they came.
  pub turn-refuses : (c : TurnCall) → let g = to_turn c in is_ending c.back.answer ≡ false
      → turn_left c ≡ load_turned g.seen (load_turn c.back.answer g.loading None)
  -- There is such a controller for every image.
  pub some-controller : (image : List ℕ) → Controller image
  -- A begun job, driven against the model from a fresh device and the part's number of cells (`load_talk`), whatever was kept
  -- before: after n cycles it has sent the first n of the job's one list, and left the cells as the second call of n does;
  pub sends-first : (c : BeginCall) → let g = to_begin c in refused_begin g ≡ 0
      → (k : Controller g.image) (cells : List ℕ) → length cells ≡ (row_of g.part).cells
      → (seen : List ℕ) → length seen ≡ 4096 → (read n : ℕ)
      → let t = load_talk (turns g.image k) g.part n (turns g.image k c.back.loading seen read) (chip cells fresh_device) in
      (t.sent ≡ take n (sent_of (job_begun g) g.image cells)) × (t.chip.cells ≡ (report_of g.part cells g.first g.image g.wp g.p n).cells)
  -- and after as many as a job can have it has sent the list, left what `load` leaves, and ended with 0.
  pub loads : (c : BeginCall) → let g = to_begin c in refused_begin g ≡ 0
      → (k : Controller g.image) (cells : List ℕ) → length cells ≡ (row_of g.part).cells
      → (seen : List ℕ) → length seen ≡ 4096 → (read n : ℕ) → cycles_most (job_begun g) ≤ n
      → HasLoaded g.part cells g.first g.image g.wp g.p
      (load_talk (turns g.image k) g.part n (turns g.image k c.back.loading seen read) (chip cells fresh_device))
  -- Whatever is replied (f), a dead chip's constant among it, a begun job has ended after that many cycles with 0, 11 or 12,
  -- and repeats its ending; and it has named no cycle but reads of its range and the writes of programs of the image's
  -- values and of erases of its range's sectors, at its level.
  pub ends : (c : BeginCall) → let g = to_begin c in refused_begin g ≡ 0
      → (k : Controller g.image) (f : ℕ → ℕ) (seen : List ℕ) (read n : ℕ) → cycles_most (job_begun g) ≤ n
      → HasEnded (turns g.image k) (job_begun g) g.image
      (load_heard (turns g.image k) f n (turns g.image k c.back.loading seen read))
  -- The C controller's: a refused begin answers its number and hands back zeros;
  pub station-begin-refuses : (c : StationBeginCall) → let n = refused_begin (station_to_begin c) in
      Refuses BeginNumbers c.back.answer n c.back (record { answer = n; loading = loading_numbers zero_loading })
  -- a turn answers 5 for numbers that are no state in range;
  pub station-out-of-range : (c : StationTurnCall) → let g = numbers_to_turn c in loading_numbers_in_range g.loading g.image ≡ false
      → station_turn_left c ≡ no_state_turned g.loading g.seen
  -- and one that refuses hands back the numbers and the kept readings as they came.
  pub station-turn-refuses : (c : StationTurnCall) → let g = numbers_to_turn c in is_ending c.back.answer ≡ false
      → station_turn_left c ≡ record { seen = g.seen; turn = no_turn c.back.answer g.loading }
  -- A C controller that turns from its begin on, sends each cycle that is named to the chip and gives what it was shown to the
  -- next turn (`job_loop`): after n cycles its numbers are those of the loader that the sentences above speak of;
  pub station-loops : (c : StationBeginCall) → let g = station_to_begin c in (cells seen : List ℕ) (read n : ℕ)
      → job_loop g.image g.part n (turned_of c.back.loading g.image seen read) cells (device_numbers fresh_device)
      ≡ job_told_numbers (load_talk (turns_with g.image) g.part n (turns_with g.image (loading_of c.back.loading) seen read) (chip cells fresh_device))
  -- so it has sent the list, left what `load` leaves, and ended with 0.
  pub station-loads : (c : StationBeginCall) → let g = station_to_begin c in refused_begin g ≡ 0
      → (cells : List ℕ) → length cells ≡ (row_of g.part).cells → (seen : List ℕ) → length seen ≡ 4096 → (read n : ℕ) → cycles_most (job_begun g) ≤ n
      → HasLoaded g.part cells g.first g.image g.wp g.p
      (load_talk (turns_with g.image) g.part n (turns_with g.image (loading_of c.back.loading) seen read) (chip cells fresh_device))
  -- And so whatever is replied: it has ended after as many cycles as the loader, with what the loader ends with.
  pub station-ends : (c : StationBeginCall) → let g = station_to_begin c in refused_begin g ≡ 0
      → (f : ℕ → ℕ) (seen : List ℕ) (read n : ℕ) → cycles_most (job_begun g) ≤ n
      → let t = load_heard (turns_with g.image) f n (turns_with g.image (loading_of c.back.loading) seen read) in
      HasEnded (turns_with g.image) (job_begun g) g.image t
      × (job_hearing g.image f n (turned_of c.back.loading g.image seen read) ≡ job_heard_numbers t)
