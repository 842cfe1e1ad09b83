-- What is said of the loader for a real socket is proved. It stands in specs/Socket.antt.
use Rattle.std.specs.Prelude.{None}
use Prim.Native.Nat.{ℕ}
use mathlib.Core.Path.{◌≡◌, refl, sym, ap, ◌∙◌}
use mathlib.Core.Bool.{Bool, true, false}
use mathlib.Core.List.{List, []}
use borrow.Author.Tests.{ne_eqb, eqb-true}
use lib.Dec.{eqb, ltb}
use lib.ListN.{length}
use Rattle.parts.proofs.Every.{split}
use Rattle.parts.specs.Pick.{◌when◌, ◌else◌}
use Rattle.device.specs.Device.{fresh_device}
use Rattle.device.specs.Cycle.{Chip, chip}
use Rattle.bus.specs.Cycle.{device_numbers}
use Rattle.job.specs.declared.loading.Progress.TheVariants.{Waiting}
use Rattle.job.specs.declared.loading.Loading.{Loading}
use Rattle.job.specs.declared.loading.Begun.{Begun}
use Rattle.request.specs.Refusal.{job_refusal}
use Rattle.job.specs.Bill.{played, report_of}
use Rattle.job.specs.Loading.{loading, begin_load, is_ending, loading_in_range, load_turn, load_turned, load_turn_of}
use Rattle.request.proofs.Accepts.{not-refused}
use Rattle.job.proofs.Rest.{chip_of}
use Rattle.job.proofs.AsItCame.{none-begun, as-it-came}
use Rattle.job.proofs.OnBus.{sends-first, leaves-played, loads-list, ends-whatever}
use Rattle.numbers.specs.declared.loading.LoadingNumbers.{LoadingNumbers}
use Rattle.numbers.specs.declared.loading.BeginNumbers.{BeginNumbers}
use Rattle.numbers.specs.Loading.{loading_numbers, loading_of, begin_numbers, told_turned, turn_numbers, TurnedNumbers, no_state_turned, turned_numbers, turned_of}
use Rattle.numbers.specs.JobLoop.{turns_with, job_loop, job_hearing}
use Rattle.numbers.proofs.Back.{loading-back, turn-of-loading, refused-turn}
use Rattle.numbers.proofs.Names.{sending-back}
use Rattle.numbers.proofs.JobLoop.{job-loop-is-talk, job-hearing-is-heard}
use Rattle.demands.specs.Calls.{ToBegin, to_begin, refused_begin, zero_loading, TurnCall, to_turn, turn_left}
use Rattle.demands.specs.Controller.{StationBeginCall, station_to_begin, numbers_to_turn, loading_numbers_in_range}
use Rattle.demands.specs.Socket.{Controller, turns, Socket}
use Rattle.demands.proofs.Controller.{turn_asked, turn-left, station-turn-left}

keeps : (image : List ℕ) (k : Controller image) (g : Loading) (seen : List ℕ) (read : ℕ) → turns image k g seen read ≡ load_turn_of g image seen read
keeps image k g seen read =
    turn-left (k.calls g seen read) ∙ ap turn_asked (k.given g seen read)

-- the calls whose every result is the definition's
by-definition : (image : List ℕ) → Controller image
by-definition image =
    record {
      calls = λ g seen read. let t = load_turn_of g image seen read in
          record {
            lifetimes = ([], ([], tt));
            given = (g, (record { ref_ptr = (0, 0); now = image }, (record { ref_ptr = (0, 0); ghost_name = 0; now = seen }, (read, tt))));
            back = t.turn;
            ends = (g, (record { ref_ptr = (0, 0); now = image }, (record { ref_ptr = (0, 0); ghost_name = 0; now = t.seen }, (read, tt))));
            promise = (refl, refl);
          };
      given = λ g seen read. refl;
    }

-- what a begin hands back
abbrev beginning : ToBegin → Begun
beginning g = begin_load g.part g.first g.image g.wp g.p

-- its answer, and beside a refusal
begin-answers : (g : ToBegin) → (beginning g).answer ≡ refused_begin g
unfolding begin_load
begin-answers g = let n = refused_begin g in split (λ (b : Begun). b.answer ≡ n) (eqb n 0) _ _ (λ t. sym (eqb-true n 0 t)) (λ _. refl)

begin-beside : (g : ToBegin) → (refused_begin g ≡ 0 → ⊥) → beginning g ≡ record { answer = refused_begin g; loading = zero_loading }
unfolding begin_load
begin-beside g h = rw (ne_eqb (refused_begin g) 0 h)

begin-taken : (g : ToBegin) → refused_begin g ≡ 0
    → beginning g ≡ record { answer = 0; loading = loading g.part g.first (length g.image) g.wp g.p Waiting }
unfolding begin_load
begin-taken g z = rw z

out_of : (g : Loading) (image seen : List ℕ) (read : ℕ) → loading_in_range g image ≡ false → load_turn_of g image seen read ≡ load_turned seen (load_turn 5 g None)
unfolding load_turn_of
out_of g image seen read e = rw e

-- a turn that refuses
turn-refusing : (c : TurnCall) → let g = to_turn c in is_ending c.back.answer ≡ false → turn_left c ≡ load_turned g.seen (load_turn c.back.answer g.loading None)
turn-refusing c h =
    let g = to_turn c in
    let e = sym (turn-left c) in
    let t : is_ending (load_turn_of g.loading g.image g.seen g.read).turn.answer ≡ false = rw e h in
    rw e at (as-it-came g.loading g.image g.seen g.read t)

-- the cells that a second call leaves
report-cells : (g : ToBegin) (cells : List ℕ) (n : ℕ) {h : Chip} → job_refusal g.part (length cells) g.first g.image g.wp g.p ≡ 0
    → h ≡ chip_of (played g.part cells g.first g.image g.wp g.p n) → h.cells ≡ (report_of g.part cells g.first g.image g.wp g.p n).cells
unfolding report_of
report-cells g cells n z e = rw z (ap (λ (h : Chip). h.cells) e)

-- ---- the C controller's
station-out : (n : LoadingNumbers) (image seen : List ℕ) (read : ℕ) → loading_numbers_in_range n image ≡ false → turned_of n image seen read ≡ no_state_turned n seen
unfolding turned_of turn_numbers is_ending
station-out n image seen read = by (ltb 6 n.progress) (ltb 5 n.driver.phase)
  where
    by : (b d : Bool) → (false when b else false when d else loading_in_range (loading_of n) image) ≡ false
        → (no_state_turned n seen when b else no_state_turned n seen when d else turned_numbers n (load_turn_of (loading_of n) image seen read)) ≡ no_state_turned n seen
    by true d e = refl
    by false true e = refl
    by false false e = rw (out_of (loading_of n) image seen read e)

-- the numbers that a begin hands back mean its job
begun-back : (c : StationBeginCall) → c.back.loading ≡ loading_numbers (beginning (station_to_begin c)).loading
begun-back c = ap (λ (b : BeginNumbers). b.loading) c.promise

begun-meant : (c : StationBeginCall) → loading_of c.back.loading ≡ (beginning (station_to_begin c)).loading
begun-meant c = ap loading_of (begun-back c) ∙ loading-back (beginning (station_to_begin c)).loading

-- so its first turn is the numbers of the job's
begun-turns : (c : StationBeginCall) (seen : List ℕ) (read : ℕ) → let image = (station_to_begin c).image in
    turned_of c.back.loading image seen read ≡ told_turned (turns_with image (loading_of c.back.loading) seen read)
begun-turns c seen read =
    let g = station_to_begin c in
    let b = (beginning g).loading in
    ap (λ (n : LoadingNumbers). turned_of n g.image seen read) (begun-back c)
    ∙ (turn-of-loading b g.image seen read ∙ sym (ap (λ (l : Loading). told_turned (turns_with g.image l seen read)) (begun-meant c)))

pub socket : Socket
socket =
    record {
      begin-refuses = λ c. let g = to_begin c in
          record { exactly = ap (λ (b : Begun). b.answer) c.promise ∙ begin-answers g; beside = λ h. c.promise ∙ begin-beside g h };
      zero-refused = λ c e. let g = to_turn c in
          turn-left c ∙ (ap (λ (l : Loading). load_turn_of l g.image g.seen g.read) e ∙ none-begun g.image g.seen g.read);
      begin-given = λ c z. c.promise ∙ begin-taken (to_begin c) z;
      out_of_range = λ c e. let g = to_turn c in turn-left c ∙ out_of g.loading g.image g.seen g.read e;
      turn-refuses = turn-refusing;
      some-controller = by-definition;
      sends-first = λ c accepted k cells whole seen long read n. let g = to_begin c in
          let T = turns g.image k in
          rw c.promise (
            sends-first g.part g.first g.image g.wp g.p accepted T (keeps g.image k) cells whole seen long read n,
            report-cells g cells n (not-refused g.part g.first g.image g.wp g.p accepted (length cells) whole)
                (leaves-played g.part g.first g.image g.wp g.p accepted T (keeps g.image k) cells whole seen long read n),
          );
      loads = λ c accepted k cells whole seen long read n h. let g = to_begin c in
          rw c.promise (loads-list g.part g.first g.image g.wp g.p accepted (turns g.image k) (keeps g.image k) cells whole seen long read n h);
      ends = λ c accepted k f seen read n h. let g = to_begin c in
          rw c.promise (ends-whatever g.part g.first g.image g.wp g.p accepted (turns g.image k) (keeps g.image k) f seen read n h);
      station-begin-refuses = λ c. let g = station_to_begin c in
          record { exactly = ap (λ (b : BeginNumbers). b.answer) c.promise ∙ begin-answers g; beside = λ h. c.promise ∙ ap begin_numbers (begin-beside g h) };
      station-out-of-range = λ c e. let g = numbers_to_turn c in station-turn-left c ∙ station-out g.loading g.image g.seen g.read e;
      station-turn-refuses = λ c h. let g = numbers_to_turn c in
          let e = sym (station-turn-left c) in
          let t : is_ending (turned_of g.loading g.image g.seen g.read).turn.answer ≡ false = rw e h in
          rw e at (refused-turn g.loading g.image g.seen g.read t);
      station-loops = λ c cells seen read n. let g = station_to_begin c in let b = loading_of c.back.loading in
          ap (λ (t : TurnedNumbers). job_loop g.image g.part n t cells (device_numbers fresh_device)) (begun-turns c seen read)
          ∙ job-loop-is-talk g.image g.part n (turns_with g.image b seen read) (sending-back b g.image seen read) (chip cells fresh_device);
      station-loads = λ c accepted cells whole seen long read n h. let g = station_to_begin c in
          rw (begun-meant c) (loads-list g.part g.first g.image g.wp g.p accepted (turns_with g.image) (λ _ _ _. refl) cells whole seen long read n h);
      station-ends = λ c accepted f seen read n h. let g = station_to_begin c in let b = loading_of c.back.loading in (
        rw (begun-meant c) (ends-whatever g.part g.first g.image g.wp g.p accepted (turns_with g.image) (λ _ _ _. refl) f seen read n h),
        ap (job_hearing g.image f n) (begun-turns c seen read)
            ∙ job-hearing-is-heard g.image f n (turns_with g.image b seen read) (sending-back b g.image seen read),
      );
    }
