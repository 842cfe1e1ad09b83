-- A driver's talk with the model: the writes, the polls while the operation runs and once it has completed, and the end.
use Rattle.std.specs.Prelude.{Some, None}
use Prim.Native.Nat.{ℕ, zero, suc, zero-le, ◌+◌, ◌-◌, ◌*◌, ◌/◌, ◌%◌, ◌≤◌, ◌<◌}
use mathlib.Core.Path.{◌≡◌, refl, sym, ap, subst, ◌∙◌}
use mathlib.Core.Bool.{Bool, true, false, not}
use mathlib.Core.List.{List, [], ◌∷◌, ◌++◌, append-nil}
use native.Mathlib.Nat.{suc-mul, one-mul, zero-mul, not-suc-le-zero, le_of_suc-le-suc}
use native.Mathlib.Numerals.{add-one}
use native.Mathlib.Omega.{arith}
use borrow.Author.Tests.{lt-ltb, le-ltb, le-leb, eq-eqb, ne_eqb, eqb-true, eqb-false}
use lib.Dec.{eqb, ltb}
use lib.ListN.{length, get_or, drop, replicate, replicate-append-replicate}
use Rattle.parts.specs.Pick.{pick}
use Rattle.parts.specs.Width.{value_of}
use Rattle.parts.specs.Table.{row_of, part_refusal}
use Rattle.parts.specs.Time.{time_of, polls_of}
use Rattle.parts.specs.declared.table.Row.{Row}
use Rattle.parts.proofs.Every.{split}
use Rattle.parts.proofs.Values.{value-value}
use Rattle.parts.proofs.Sound.{width-least, cells-some, time-some}
use Rattle.parts.proofs.Rounding.{reaches, below, positive}
use Rattle.device.specs.declared.state.Operation.{Operation}
use Rattle.device.specs.declared.state.Core.{Core}
use Rattle.device.specs.declared.state.Device.{Device}
use Rattle.device.specs.declared.cycle.Action.{Action}
use Rattle.device.specs.declared.cycle.Action.TheVariants.{Read}
use Rattle.device.specs.declared.cycle.Cycle.{Cycle}
use Rattle.device.specs.Device.{operation, with_turned, busy_with, at_rest, busy, held, device, core_idle}
use Rattle.device.specs.Operation.{cells_of, complete_on}
use Rattle.device.specs.Sequence.{ignored}
use Rattle.device.specs.Cycle.{cycle, Chip, chip, Outcome, outcome, cycle_of, bit7, bit6, bit2, tells, status, outputs_of}
use Rattle.device.specs.Trace.{leaves, after, play, started_by, started_in}
use Rattle.device.proofs.Accepted.{Valid, valid-range}
use Rattle.device.proofs.Bits.{bit6-le, bit2-le}
use Rattle.device.proofs.Settled.{complete-length}
use Rattle.device.proofs.Idle.{idle-rests, idle-free}
use Rattle.device.proofs.Outputs.{keeps-seven}
use Rattle.device.proofs.Started.{last-starts-all, Leads}
use Rattle.device.proofs.Cases.{read-later, read-busy, read_done, none-barred}
use Rattle.commands.specs.declared.write.Write.{Write}
use Rattle.driver.specs.declared.machine.Phase.{Phase}
use Rattle.driver.specs.declared.machine.Phase.TheVariants.{Writing, Polling, Confirming, Done, GaveUp, Differs}
use Rattle.driver.specs.declared.machine.Driver.{Driver}
use Rattle.driver.specs.Machine.{Next}
use Rattle.driver.specs.declared.machine.Step.{Step}
use Rattle.driver.specs.Refusals.{start_refusal}
use Rattle.driver.specs.Writes.{write, no_write, last_write, writes_of, write_count, nth_write}
use Rattle.driver.specs.Machine.{most_polls, count_fits, in_range, moved, step, ended, address_of, bit_seven, bit_wanted, value_wanted}
use Rattle.driver.specs.Machine.{after_write, writing_of, polls, confirms, confirm_after, matches, polling_of, confirming_of, phase_of, step_of}
use Rattle.driver.specs.Talk.{write_cycle, write_cycles, operation_of, Told, told, led, shows, talk}
use Rattle.driver.specs.Reads.{Due, Scans, Polls, Confirms, begins, passes, Place, ARead, NoRead, places_in}
use Rattle.driver.proofs.Asked.{Begun, begun}
use Rattle.driver.proofs.Ready.{write-count-some}
use Rattle.driver.proofs.Steps.{goes, most}
use Rattle.driver.proofs.Commands.{command-le, last-there, last_fits, command-leads}

-- two tests that hold together
same_test : (a b c d : ℕ) → (a ≡ b → c ≡ d) → (c ≡ d → a ≡ b) → eqb a b ≡ eqb c d
same_test a b c d f g = by (eqb c d) refl
  where
    by : (t : Bool) → eqb c d ≡ t → eqb a b ≡ t
    by true e = eq-eqb a b (g (eqb-true c d e))
    by false e = ne_eqb a b (λ q. eqb-false c d e (f q))

-- cycles in front of a talk
abbrev pub sent : List Cycle → Told → Told
sent cs t = told (cs ++ t.cycles) t.chip t.last

-- as many writes as are counted
pub write-length : (r : Row) (command a x : ℕ) → length (writes_of r command a x) ≡ write_count command
unfolding writes_of write_count
write-length r command a x = by (eqb command 0) _ _ refl refl
  where
    by : (b : Bool) (ws vs : List Write) → length ws ≡ 4 → length vs ≡ 6 → length (pick b ws vs) ≡ pick b 4 6
    by true ws vs e f = e
    by false ws vs e f = f

drop-writes : (wp : Bool) (ws : List Write) (k : ℕ) → k < length ws → drop k (write_cycles wp ws) ≡ write_cycle wp (get_or ws k no_write) ∷ drop (suc k) (write_cycles wp ws)
drop-writes wp [] k h = absurd (not-suc-le-zero h)
drop-writes wp (w ∷ ws) zero h = refl
drop-writes wp (w ∷ ws) (suc k) h = drop-writes wp ws k (le_of_suc-le-suc h)

drop-done : (wp : Bool) (ws : List Write) (k : ℕ) → length ws ≤ k → drop k (write_cycles wp ws) ≡ []
drop-done wp [] zero h = refl
drop-done wp [] (suc k) h = refl
drop-done wp (w ∷ ws) zero h = absurd (not-suc-le-zero h)
drop-done wp (w ∷ ws) (suc k) h = drop-done wp ws k (le_of_suc-le-suc h)

-- n cycles of a kind and one more
play-last : (part n : ℕ) (h : Chip) (c : Cycle) → play part h (replicate (suc n) c) ≡ after part (play part h (replicate n c)) c
play-last part zero h c = refl
play-last part (suc n) h c = play-last part n (after part h c) c

-- ---- a talk, turn by turn
pub silent : {A : Type 0} (e : ℕ) (a : Action) → ◌≡◌ {A = Next} None (Some (e, a)) → A
silent {A} e a q = let z : ◌≡◌ {A = ℕ} 0 1 = cc in absurd (omega arith)

module _ (part : ℕ) (wp : Bool) (m : ℕ) (t : Step) (h : Chip) where
  pub talk-stops : t.next ≡ None → talk step_of part wp (suc m) t h ≡ told [] h t
  unfolding talk
  talk-stops q = by t.next _ q
    where
      by : (x : Next) (f : ℕ → Action → Told) → x ≡ None → ◌≡◌ {A = Told} (elim x [ None ↦ told [] h t | Some (e, a) ↦ f e a ]) (told [] h t)
      by None f q = refl
      by (Some (e, a)) f q = silent e a (sym q)

  pub talk-goes : (e : ℕ) (a : Action) → t.next ≡ Some (e, a)
      → talk step_of part wp (suc m) t h ≡ led (cycle e wp a) (talk step_of part wp m (step_of t.driver (shows part h (cycle e wp a))) (after part h (cycle e wp a)))
  unfolding talk
  talk-goes e a q = rw (q, talk)

module _ (part : ℕ) (wp : Bool) where
  pub sends : (n k e q : ℕ) (d : Driver) (a : Action) (h : Chip) (o : Outcome) → cycle_of part h.cells h.device (cycle e wp a) ≡ o
      → talk step_of part wp (suc n) (step k d (Some (e, a)) q) h ≡ led (cycle e wp a) (talk step_of part wp n (step_of d o.reply.value) (leaves o))
  unfolding talk after
  sends n k e q d a h o eq = ap (λ (o : Outcome). led (cycle e wp a) (talk step_of part wp n (step_of d o.reply.value) (leaves o))) eq

  pub rests-told : (n k q : ℕ) (d : Driver) (h : Chip) → talk step_of part wp n (step k d None q) h ≡ told [] h (step k d None q)
  unfolding talk
  rests-told zero k q d h = refl
  rests-told (suc n) k q d h = refl

-- ---- cycles by their places
-- a read that leaves the chip h'
read-placed : (part : ℕ) (u : Due) (h : Chip) (e : ℕ) (wp : Bool) (a : ℕ) (cs : List Cycle) (o : Outcome) → cycle_of part h.cells h.device (cycle e wp (Read a)) ≡ o
    → places_in part u h (cycle e wp (Read a) ∷ cs) ≡ ARead u ∷ places_in part (passes u (busy o.reply.device.core)) (leaves o) cs
unfolding after
read-placed part u h e wp a cs o q = rw q

-- writes are no reads; one that starts an operation makes polls due
begins-append : (u : Due) (os ps : List Operation) → begins (begins u os) ps ≡ begins u (os ++ ps)
begins-append u [] ps = refl
begins-append u (o ∷ os) [] = refl
begins-append u (o ∷ os) (q ∷ ps) = refl

writes-placed : (part : ℕ) (u : Due) (h : Chip) (wp : Bool) (ws : List Write) (cs : List Cycle)
    → places_in part u h (write_cycles wp ws ++ cs) ≡ replicate (length ws) NoRead ++ places_in part (begins u (started_in part h (write_cycles wp ws))) (play part h (write_cycles wp ws)) cs
writes-placed part u h wp [] cs = refl
writes-placed part u h wp (w ∷ ws) cs =
    let c = write_cycle wp w in
    let v = begins u (started_by part h c) in
    ap (λ (ps : List Place). NoRead ∷ ps)
    (writes-placed part v (after part h c) wp ws cs
    ∙ ap (λ (u : Due). replicate (length ws) NoRead ++ places_in part u (play part (after part h c) (write_cycles wp ws)) cs)
    (begins-append u (started_by part h c) (started_in part (after part h c) (write_cycles wp ws))))

-- ---- a driver whose start is accepted
module _ (b : Driver) (accepted : start_refusal b.part b.command b.address b.«data» b.p ≡ 0) (wp : Bool) where
  abbrev r : Row
  r = row_of b.part

  valid : Begun b.part b.command b.address b.«data» b.p
  valid = begun b.part b.command b.address b.«data» b.p accepted

  known : part_refusal b.part ≡ 0
  known = valid.asked.known

  few-commands : b.command ≤ 3
  few-commands = command-le r b.command valid.asked.target.has

  some-time : 0 < time_of r b.command
  some-time = time-some b.part known b.command few-commands

  pub some-polls : 0 < most b
  unfolding most_polls
  some-polls = omega (arith, positive (time_of r b.command) b.p valid.some some-time)

  -- its step in each phase
  takes : (f : Phase) (n read : ℕ) → count_fits f (write_count b.command) (most b) n ≡ true → step_of (moved b f n) read ≡ phase_of r f (moved b f n) read
  unfolding in_range
  takes f n read c = goes (moved b f n) read (rw accepted c)

  -- after q polls: one more, the confirming read, or the end; and the end that the confirming read brings
  abbrev hits : ℕ → Bool
  hits read = eqb (bit_seven read) (bit_wanted b.command b.«data»)

  module _ (q read : ℕ) (some : 0 < q) (few : q ≤ most b) where
    pub poll-again : hits read ≡ false → q < most b → step_of (moved b Polling q) read ≡ polls (moved b Polling q)
    unfolding polling_of matches
    poll-again miss more = takes Polling q read (le-leb q (most b) few) ∙ rw (lt-ltb 0 q some, miss, lt-ltb q (most b) more)

    pub confirm-then : hits read ≡ true → step_of (moved b Polling q) read ≡ confirms (moved b Polling q)
    unfolding polling_of matches
    confirm-then hit = takes Polling q read (le-leb q (most b) few) ∙ rw (lt-ltb 0 q some, hit)

    pub give-up : hits read ≡ false → most b ≤ q → step_of (moved b Polling q) read ≡ ended (moved b Polling q) GaveUp
    unfolding polling_of matches
    give-up miss all = takes Polling q read (le-leb q (most b) few) ∙ rw (lt-ltb 0 q some, miss, le-ltb q (most b) all)

    pub compare : step_of (moved b Confirming q) read
        ≡ ended (moved b Polling q) (pick (eqb (value_of r.width read) (value_wanted r b.command b.«data»)) Done Differs)
    unfolding confirming_of
    compare = takes Confirming q read (rw (lt-ltb 0 q some) (le-leb q (most b) few)) ∙ one_end (eqb (value_of r.width read) (value_wanted r b.command b.«data»))
      where
        one_end : (z : Bool) → pick z (ended (moved b Polling q) Done) (ended (moved b Polling q) Differs) ≡ ended (moved b Polling q) (pick z Done Differs)
        one_end true = refl
        one_end false = refl

  -- ---- the writes
  abbrev write_list : List Cycle
  write_list = write_cycles wp (writes_of r b.command b.address b.«data»)

  -- the driver after k writes
  unfoldable pub driver_at : ℕ → Driver
  driver_at k = pick (ltb k (write_count b.command)) (moved b Writing k) (moved b Polling 0)

  pub first-poll : (read : ℕ) → step_of (moved b Polling 0) read ≡ polls (moved b Polling 0)
  unfolding polling_of matches
  first-poll read = takes Polling 0 read (le-leb 0 (most b) zero-le) ∙ rw (lt-ltb 0 (most b) some-polls)

  pub write_step : (k read : ℕ) → k < write_count b.command
      → step_of (moved b Writing k) read ≡ step 0 (driver_at (suc k)) (Some (0, (write_cycle wp (nth_write r b.command b.address b.«data» k)).action)) 0
  unfolding writing_of after_write driver_at
  write_step k read h = takes Writing k read (lt-ltb k (write_count b.command) h) ∙ rw (add-one k)

  writes-talk : (j k n m read : ℕ) (h : Chip) → k + j ≡ write_count b.command → n ≡ j + m
      → talk step_of b.part wp n (step_of (driver_at k) read) h
      ≡ sent (drop k write_list) (talk step_of b.part wp m (polls (moved b Polling 0)) (play b.part h (drop k write_list)))
  unfolding driver_at after
  writes-talk zero k n m read h e q =
      let w : write_count b.command ≤ k = omega arith in
      let s : n ≡ m = omega arith in
      rw (le-ltb k (write_count b.command) w, first-poll read, drop-done wp (writes_of r b.command b.address b.«data») k (rw write-length w), s)
  writes-talk (suc j) k zero m read h e q = absurd (omega arith)
  writes-talk (suc j) k (suc n) m read h e q =
      let l : k < write_count b.command = omega arith in
      let w = nth_write r b.command b.address b.«data» k in
      rw (lt-ltb k (write_count b.command) l, write_step k read l, drop-writes wp (writes_of r b.command b.address b.«data») k (rw write-length l))
      (sends b.part wp n 0 0 0 (driver_at (suc k)) (write_cycle wp w).action h _ refl
      ∙ ap (led (write_cycle wp w)) (writes-talk j (suc k) n m _ _ (omega arith) (omega arith)))

  -- ---- the polls
  abbrev at : ℕ
  at = address_of b.command b.address

  abbrev poll : Cycle
  poll = cycle b.p wp (Read at)

  -- the operation, with so much time left and this bit 6 to come
  abbrev running : ℕ → Bool → Operation
  running l t =
      operation b.command (last_write r b.command b.address b.«data»).address (last_write r b.command b.address b.«data»).«data» l t

  at_there : at < r.cells
  at_there =
      split (λ (n : ℕ). n < r.cells) (eqb b.command 3) 0 b.address (λ _. cells-some b.part known) (λ n. valid.asked.target.there (eqb-false b.command 3 n))

  -- bit 7 of a busy read does not match, whatever bits 6 and 2 are
  busy-differs : (l : ℕ) (t : Bool) (two : ℕ) → two ≤ 1 → bit_seven (bit7 (running l t) * 128 + bit6 (running l t) * 64 + two * 4) ≡ bit_wanted b.command b.«data» → ⊥
  unfolding last_write
  busy-differs l t two low = by (eqb b.command 0) _
    where
      by : (z : Bool) (ws : Write)
          → bit_seven (pick z (1 - (pick z (write b.address b.«data») ws).«data» / 128 % 2) 0 * 128 + bit6 (running l t) * 64 + two * 4) ≡ pick z (bit_seven b.«data») 1 → ⊥
      by true ws e = omega (arith, bit6-le (running l t))
      by false ws e = omega (arith, bit6-le (running l t))

  -- the cells once it has completed, and what a read at the address shows then
  module _ (cells : List ℕ) (whole : length cells ≡ r.cells) (core : Core) (idles : core_idle core ≡ true) where
    abbrev done : List ℕ
    done = complete_on r (operation_of r b.command b.address b.«data») cells

    abbrev shown : ℕ
    shown = value_of r.width (get_or done at 0)

    -- at rest, the completion being 0 µs old or not: the chip, and what a read shows
    abbrev finished : Bool → Core
    finished now = at_rest (busy_with core (operation_of r b.command b.address b.«data»)) now

    abbrev rested_at : Bool → Chip
    rested_at now = chip done (device (finished now) 0)

    abbrev rested : Chip
    rested = rested_at false

    abbrev shown_at : Bool → ℕ
    shown_at now = outputs_of r.width now shown

    -- bit 7 is the word's in either case
    same-hit : (now : Bool) → hits (shown_at now) ≡ hits shown
    same-hit true = ap (λ (n : ℕ). eqb n (bit_wanted b.command b.«data»)) (keeps-seven r.width (width-least b.part known) shown)
    same-hit false = refl

    -- while it runs: bit 6 to come, and whether bit 2 has turned
    abbrev busy_core : ℕ → Bool → Bool → Core
    busy_core l t u = with_turned (busy_with core (running l t)) u

    abbrev busy_at : ℕ → Bool → Bool → Device
    busy_at l t u = device (busy_core l t u) 0

    -- and after a poll, which shows bit 2 or does not
    abbrev turns_to : ℕ → Bool → Bool → Bool
    turns_to l t u = pick (tells r (running l t) at) (not u) u

    -- nothing is suspended
    free : held core ≡ false
    free = idle-free core idles

    running-valid : (l : ℕ) (t u : Bool) → l ≤ time_of r b.command → Valid r (busy_core l t u)
    running-valid l t u h =
        record {
          command = valid.asked.target.has;
          time = h;
          there = last-there b.part known b.command b.address b.«data» valid.asked.target;
          fits = last_fits b.part known b.command b.address b.«data» valid.asked.target;
          mode = refl;
          old = refl;
          free = none-barred core free r (running l t).kind (running l t).address;
        }

    -- a poll while it runs
    abbrev busy_shows : ℕ → Bool → Bool → ℕ
    busy_shows l t u = status r (busy_core l t u) at

    read-waits : (l : ℕ) (t u : Bool) → l ≤ time_of r b.command → b.p < l
        → cycle_of b.part cells (busy_at l t u) poll ≡ outcome cells (busy_shows l t u) (busy_at (l - b.p) (not t) (turns_to l t u))
    read-waits l t u most-time early =
        read-busy b.part cells known whole at at_there (busy_core l t u) b.p wp (valid-range r (busy_core l t u) free (running-valid l t u most-time)) early

    -- what completes does not hang on the time left, nor on bit 6
    same-done : (l : ℕ) (t : Bool) → complete_on r (running l t) cells ≡ done
    unfolding complete_on cells_of
    same-done l t = refl

    -- the read in which it completes
    read-completes : (l : ℕ) (t u : Bool) → 0 < l → l ≤ b.p → l ≤ time_of r b.command
        → cycle_of b.part cells (busy_at l t u) poll ≡ outcome done (shown_at (eqb b.p l)) (device (finished (eqb b.p l)) 0)
    read-completes l t u some late most-time =
        read_done b.part cells known whole at at_there (busy_core l t u) b.p wp free (running-valid l t u most-time) some late
        ∙ ap (λ (xs : List ℕ). outcome xs (outputs_of r.width (eqb b.p l) (value_of r.width (get_or xs at 0))) (device (finished (eqb b.p l)) 0)) (same-done l t)

    -- one poll less, and as much less is left
    just-less : (k l : ℕ) (now : Bool) → b.p ≤ l → eqb (suc (suc k) * b.p) l ≡ now → eqb (suc k * b.p) (l - b.p) ≡ now
    just-less k l now h just =
        let e : suc (suc k) * b.p ≡ suc k * b.p + b.p = suc-mul (suc k) b.p in
        same_test (suc k * b.p) (l - b.p) (suc (suc k) * b.p) l (λ q. omega arith) (λ q. omega arith) ∙ just

    waiting : (l q n : ℕ) (t u : Bool) → b.p < l → l ≤ time_of r b.command → q + 1 < most b
        → talk step_of b.part wp (suc n) (polls (moved b Polling q)) (chip cells (busy_at l t u))
        ≡ led poll (talk step_of b.part wp n (polls (moved b Polling (q + 1))) (chip cells (busy_at (l - b.p) (not t) (turns_to l t u))))
    waiting l q n t u early most-time more =
        sends b.part wp n 0 b.p (q + 1) (moved b Polling (q + 1)) (Read at) (chip cells (busy_at l t u)) _ (read-waits l t u most-time early)
        ∙ ap (λ (s : Step). led poll (talk step_of b.part wp n s (chip cells (busy_at (l - b.p) (not t) (turns_to l t u)))))
        (poll-again (q + 1) (busy_shows l t u) (omega arith) (omega arith)
        (ne_eqb (bit_seven (busy_shows l t u)) (bit_wanted b.command b.«data») (busy-differs l t (bit2 (busy_core l t u) (tells r (running l t) at)) (bit2-le (busy_core l t u) (tells r (running l t) at)))) more)

    completing : (l q n : ℕ) (t u : Bool) → 0 < l → l ≤ b.p → l ≤ time_of r b.command
        → talk step_of b.part wp (suc n) (polls (moved b Polling q)) (chip cells (busy_at l t u))
        ≡ led poll (talk step_of b.part wp n (step_of (moved b Polling (q + 1)) (shown_at (eqb b.p l))) (rested_at (eqb b.p l)))
    completing l q n t u some late most-time =
        sends b.part wp n 0 b.p (q + 1) (moved b Polling (q + 1)) (Read at) (chip cells (busy_at l t u)) _ (read-completes l t u some late most-time)

    -- k polls come too early, and one more does not: it comes 0 µs after the completion where it has taken just what was left
    polling : (k l q n m : ℕ) (t u now : Bool) → k * b.p < l → l ≤ suc k * b.p → eqb (suc k * b.p) l ≡ now → l ≤ time_of r b.command → q + suc k ≤ most b → n ≡ suc k + m
        → talk step_of b.part wp n (polls (moved b Polling q)) (chip cells (busy_at l t u))
        ≡ sent (replicate (suc k) poll) (talk step_of b.part wp m (step_of (moved b Polling (q + suc k)) (shown_at now)) (rested_at now))
    polling k l q zero m t u now early enough just most-time within fuel = absurd (omega arith)
    polling zero l q (suc n) m t u now early enough just most-time within fuel =
        let e : n ≡ m = omega arith in
        completing l q n t u (omega (arith, zero-mul b.p)) (omega (arith, one-mul b.p)) most-time ∙ rw (e, rw (one-mul b.p) at just)
    polling (suc k) l q (suc n) m t u now early enough just most-time within fuel =
        let e : suc k * b.p ≡ k * b.p + b.p = suc-mul k b.p in
        let e' : suc (suc k) * b.p ≡ suc k * b.p + b.p = suc-mul (suc k) b.p in
        let c : q + 1 + suc k ≡ q + suc (suc k) = omega arith in
        waiting l q n t u (omega arith) most-time (omega arith)
        ∙ ap (led poll) (polling k (l - b.p) (q + 1) n m (not t) (turns_to l t u) now (omega arith) (omega arith) (just-less k l now (omega arith) just) (omega arith) (omega arith) (omega arith) ∙ rw c)

    -- N polls, from the driver's first; the last of them comes just at the completion, or after it
    abbrev turns : ℕ
    turns = polls_of r b.command b.p

    abbrev just : Bool
    just = eqb (turns * b.p) (time_of r b.command)

    all-polls : (n m : ℕ) → n ≡ turns + m
        → talk step_of b.part wp n (polls (moved b Polling 0)) (chip cells (device (busy_with core (operation_of r b.command b.address b.«data»)) 0))
        ≡ sent (replicate turns poll) (talk step_of b.part wp m (step_of (moved b Polling turns) (shown_at just)) (rested_at just))
    unfolding most_polls
    all-polls n m fuel = by turns refl
      where
        T : ℕ
        T = time_of r b.command

        by : (k : ℕ) → turns ≡ k
            → talk step_of b.part wp n (polls (moved b Polling 0)) (chip cells (device (busy_with core (operation_of r b.command b.address b.«data»)) 0))
            ≡ sent (replicate turns poll) (talk step_of b.part wp m (step_of (moved b Polling turns) (shown_at just)) (rested_at just))
        by zero e = absurd (omega (arith, positive T b.p valid.some some-time))
        by (suc k) e =
            let c : 0 + suc k ≡ suc k = omega arith in
            let i : turns - 1 ≡ k = omega arith in
            let short : k * b.p < T = rw i at (below T b.p valid.some some-time) in
            let long : T ≤ suc k * b.p = rw e at (reaches T b.p valid.some) in
            polling k T 0 n m true false just short long (ap (λ (n : ℕ). eqb (n * b.p) T) (sym e)) (omega arith) (omega arith) (omega arith) ∙ rw (c, e)

    done-whole : length done ≡ r.cells
    done-whole =
        let o = operation_of r b.command b.address b.«data» in
        complete-length r o cells ∙ whole

    -- a read after some time at rest shows the value
    reads : (now : Bool) (e : ℕ) → 0 < e → cycle_of b.part done (device (finished now) 0) (cycle e wp (Read at)) ≡ outcome done shown (device (finished false) 0)
    reads now e some = read-later b.part done known done-whole at at_there (finished now) e wp refl free refl some

    -- and the confirming read is one
    confirm-later : 0 < confirm_after
    unfolding confirm_after
    confirm-later = omega arith

    -- ---- the same by their places, whatever follows
    polling-placed : (k l : ℕ) (t u now : Bool) (cs : List Cycle) → k * b.p < l → l ≤ suc k * b.p → eqb (suc k * b.p) l ≡ now → l ≤ time_of r b.command
        → places_in b.part Polls (chip cells (busy_at l t u)) (replicate (suc k) poll ++ cs) ≡ replicate (suc k) (ARead Polls) ++ places_in b.part Confirms (rested_at now) cs
    polling-placed zero l t u now cs early enough just most-time =
        read-placed b.part Polls (chip cells (busy_at l t u)) b.p wp at cs _ (read-completes l t u (omega (arith, zero-mul b.p)) (omega (arith, one-mul b.p)) most-time)
        ∙ rw (rw (one-mul b.p) at just)
    polling-placed (suc k) l t u now cs early enough just most-time =
        let e : suc k * b.p ≡ k * b.p + b.p = suc-mul k b.p in
        let e' : suc (suc k) * b.p ≡ suc k * b.p + b.p = suc-mul (suc k) b.p in
        read-placed b.part Polls (chip cells (busy_at l t u)) b.p wp at (replicate (suc k) poll ++ cs) _
        (read-waits l t u most-time (omega arith))
        ∙ rw (lt-ltb 0 (l - b.p) (omega arith)) (ap (λ (ps : List Place). ARead Polls ∷ ps) (polling-placed k (l - b.p) (not t) (turns_to l t u) now cs (omega arith) (omega arith) (just-less k l now (omega arith) just) (omega arith)))

    polls-placed : (cs : List Cycle) → places_in b.part Polls (chip cells (device (busy_with core (operation_of r b.command b.address b.«data»)) 0)) (replicate turns poll ++ cs)
        ≡ replicate turns (ARead Polls) ++ places_in b.part Confirms (rested_at just) cs
    polls-placed cs = by turns refl
      where
        T : ℕ
        T = time_of r b.command

        by : (k : ℕ) → turns ≡ k → places_in b.part Polls (chip cells (device (busy_with core (operation_of r b.command b.address b.«data»)) 0)) (replicate turns poll ++ cs)
            ≡ replicate turns (ARead Polls) ++ places_in b.part Confirms (rested_at just) cs
        by zero e = absurd (omega (arith, positive T b.p valid.some some-time))
        by (suc k) e =
            let i : turns - 1 ≡ k = omega arith in
            let short : k * b.p < T = rw i at (below T b.p valid.some some-time) in
            let long : T ≤ suc k * b.p = rw e at (reaches T b.p valid.some) in
            rw e (polling-placed k T true false (eqb (suc k * b.p) T) cs short long refl (omega arith))

    confirm-placed : (now : Bool) (cs : List Cycle) → places_in b.part Confirms (rested_at now) (cycle confirm_after wp (Read at) ∷ cs) ≡ ARead Confirms ∷ places_in b.part Scans rested cs
    confirm-placed now cs = read-placed b.part Confirms (rested_at now) confirm_after wp at cs _ (reads now confirm_after confirm-later)

    -- ---- what the last poll shows, on a chip, and the chip after it
    abbrev LastPoll : Bool → Chip → Type 0
    LastPoll now h = (shows b.part h poll ≡ shown_at now) × (after b.part h poll ≡ rested_at now)

    last-shows : (k l : ℕ) (t u now : Bool) → k * b.p < l → l ≤ suc k * b.p → eqb (suc k * b.p) l ≡ now → l ≤ time_of r b.command
        → LastPoll now (play b.part (chip cells (busy_at l t u)) (replicate k poll))
    unfolding after
    last-shows zero l t u now early enough just most-time =
        let o = read-completes l t u (omega (arith, zero-mul b.p)) (omega (arith, one-mul b.p)) most-time in
        let n : eqb b.p l ≡ now = rw (one-mul b.p) at just in
        (ap (λ (o : Outcome). o.reply.value) o ∙ ap shown_at n, ap leaves o ∙ ap rested_at n)
    last-shows (suc k) l t u now early enough just most-time =
        let e : suc k * b.p ≡ k * b.p + b.p = suc-mul k b.p in
        let e' : suc (suc k) * b.p ≡ suc k * b.p + b.p = suc-mul (suc k) b.p in
        let o = read-waits l t u most-time (omega arith) in
        subst (λ (h : Chip). LastPoll now (play b.part h (replicate k poll))) (sym (ap leaves o))
        (last-shows k (l - b.p) (not t) (turns_to l t u) now (omega arith) (omega arith) (just-less k l now (omega arith) just) (omega arith))

    -- ---- the end: bit 7 matches
    confirming : (q n : ℕ) (now : Bool) → 0 < q → q ≤ most b → hits shown ≡ true
        → talk step_of b.part wp (suc n) (step_of (moved b Polling q) (shown_at now)) (rested_at now)
        ≡ told (cycle confirm_after wp (Read at) ∷ []) rested (ended (moved b Polling q) (pick (eqb shown (value_wanted r b.command b.«data»)) Done Differs))
    confirming q n now some few hit =
        ap (λ (s : Step). talk step_of b.part wp (suc n) s (rested_at now)) (confirm-then q (shown_at now) some few (same-hit now ∙ hit))
        ∙ (sends b.part wp n 0 confirm_after q (moved b Confirming q) (Read at) (rested_at now) _ (reads now confirm_after confirm-later)
        ∙ ap (led (cycle confirm_after wp (Read at)))
        (ap (λ (s : Step). talk step_of b.part wp n s rested)
        (rw (value-value r.width (get_or done at 0)) at (compare q shown some few))
        ∙ rests-told b.part wp n _ q _ rested))

    -- ---- or it never does, and the driver gives up
    -- one more poll, to which the word is shown
    polls-on : (q n : ℕ) (now : Bool) → 0 < q → q < most b → hits shown ≡ false
        → talk step_of b.part wp (suc n) (step_of (moved b Polling q) (shown_at now)) (rested_at now) ≡ led poll (talk step_of b.part wp n (step_of (moved b Polling (q + 1)) shown) rested)
    polls-on q n now some more miss =
        ap (λ (s : Step). talk step_of b.part wp (suc n) s (rested_at now)) (poll-again q (shown_at now) some (omega arith) (same-hit now ∙ miss) more)
        ∙ sends b.part wp n 0 b.p (q + 1) (moved b Polling (q + 1)) (Read at) (rested_at now) _ (reads now b.p valid.some)

    giving-up : (j q n : ℕ) (now : Bool) → 0 < q → q + suc j ≡ most b → suc j ≤ n → hits shown ≡ false
        → talk step_of b.part wp n (step_of (moved b Polling q) (shown_at now)) (rested_at now) ≡ sent (replicate (suc j) poll) (told [] rested (ended (moved b Polling (most b)) GaveUp))
    giving-up j q zero now some all fuel miss = absurd (omega arith)
    giving-up zero q (suc n) now some all fuel miss =
        let e : q + 1 ≡ most b = omega arith in
        polls-on q n now some (omega arith) miss
        ∙ ap (led poll)
        (ap (λ (s : Step). talk step_of b.part wp n s rested) (give-up (q + 1) shown (omega arith) (omega arith) miss (omega arith))
        ∙ (rests-told b.part wp n 11 (q + 1) (moved b GaveUp (q + 1)) rested ∙ rw e))
    giving-up (suc j) q (suc n) now some all fuel miss =
        polls-on q n now some (omega arith) miss ∙ ap (led poll) (giving-up j (q + 1) n false (omega arith) (omega arith) (omega arith) miss)

    -- ---- from an idle core, at a WP# level that does not protect
    module _ (heeded : ignored r wp b.command b.address ≡ false) where
      abbrev o : Operation
      o = operation_of r b.command b.address b.«data»

      leads : Leads b.part (chip cells (device core 0)) write_list (chip cells (device (busy_with core o) 0)) (o ∷ [])
      leads = command-leads b.part known cells whole wp core (idle-rests core idles) free b.command b.address b.«data» valid.asked.target heeded

      played : play b.part (chip cells (device core 0)) write_list ≡ chip cells (device (busy_with core o) 0)
      played = leads.played

      starting : started_in b.part (chip cells (device core 0)) write_list ≡ o ∷ []
      starting = last-starts-all b.part (chip cells (device core 0)) write_list (o ∷ []) leads.last

      -- all of its cycles by their places: no reads, N polls, the confirming read
      pub placed : (cs : List Cycle) → places_in b.part Scans (chip cells (device core 0)) (write_list ++ (replicate turns poll ++ (cycle confirm_after wp (Read at) ∷ cs)))
          ≡ replicate (write_count b.command) NoRead ++ (replicate turns (ARead Polls) ++ (ARead Confirms ∷ places_in b.part Scans rested cs))
      placed cs =
          writes-placed b.part Scans (chip cells (device core 0)) wp (writes_of r b.command b.address b.«data») (replicate turns poll ++ (cycle confirm_after wp (Read at) ∷ cs))
          ∙ rw (starting, played, write-length r b.command b.address b.«data», polls-placed (cycle confirm_after wp (Read at) ∷ cs), confirm-placed just cs)

      -- the chip after the writes and so many polls
      abbrev polled : ℕ → Chip
      polled n = play b.part (play b.part (chip cells (device core 0)) write_list) (replicate n poll)

      nth-poll : LastPoll just (polled (turns - 1))
      nth-poll =
          let T = time_of r b.command in
          let some : 0 < turns = positive T b.p valid.some some-time in
          let e : suc (turns - 1) ≡ turns = omega arith in
          let long : T ≤ suc (turns - 1) * b.p = rw e (reaches T b.p valid.some) in
          rw played (last-shows (turns - 1) T true false just (below T b.p valid.some some-time) long (ap (λ (n : ℕ). eqb (n * b.p) T) e) (omega arith))

      -- the N-th poll shows the word as the outputs are 0 µs after the completion, or later
      pub nth-shows : shows b.part (polled (turns - 1)) poll ≡ shown_at just
      nth-shows = nth-poll.0

      -- and the confirming read the word
      pub confirm-shows : shows b.part (polled turns) (cycle confirm_after wp (Read at)) ≡ shown
      confirm-shows =
          let some : 0 < turns = positive (time_of r b.command) b.p valid.some some-time in
          let e : suc (turns - 1) ≡ turns = omega arith in
          let h = play b.part (chip cells (device core 0)) write_list in
          let at_rest : polled turns ≡ rested_at just = ap (λ (n : ℕ). play b.part h (replicate n poll)) (sym e) ∙ (play-last b.part (turns - 1) h poll ∙ nth-poll.1) in
          ap (λ (h : Chip). shows b.part h (cycle confirm_after wp (Read at))) at_rest ∙ ap (λ (o : Outcome). o.reply.value) (reads just confirm_after confirm-later)

      -- the writes, and N polls
      opening : (n m read : ℕ) → n ≡ write_count b.command + (turns + m)
          → talk step_of b.part wp n (step_of (moved b Writing 0) read) (chip cells (device core 0))
          ≡ sent write_list (sent (replicate turns poll) (talk step_of b.part wp m (step_of (moved b Polling turns) (shown_at just)) (rested_at just)))
      unfolding driver_at
      opening n m read fuel =
          let z : 0 + write_count b.command ≡ write_count b.command = omega arith in
          (rw (lt-ltb 0 (write_count b.command) (omega (arith, write-count-some b.command))) at (writes-talk (write_count b.command) 0 n (turns + m) read (chip cells (device core 0)) z fuel))
          ∙ ap (sent write_list) (rw played (all-polls (turns + m) m refl))

      pub performs : (n read : ℕ) → write_count b.command + turns + 1 ≤ n → eqb (bit_seven shown) (bit_wanted b.command b.«data») ≡ true
          → talk step_of b.part wp n (step_of (moved b Writing 0) read) (chip cells (device core 0))
          ≡ told (write_list ++ (replicate turns poll ++ (cycle confirm_after wp (Read at) ∷ []))) rested
          (ended (moved b Polling turns) (pick (eqb shown (value_wanted r b.command b.«data»)) Done Differs))
      unfolding most_polls
      performs n read enough hit =
          let m : ℕ = n - (write_count b.command + turns + 1) in
          opening n (suc m) read (omega arith)
          ∙ ap (λ (t : Told). sent write_list (sent (replicate turns poll) t)) (confirming turns m just (positive (time_of r b.command) b.p valid.some some-time) (omega arith) hit)

      pub gives_up : (n read : ℕ) → write_count b.command + turns * 2 ≤ n → eqb (bit_seven shown) (bit_wanted b.command b.«data») ≡ false
          → talk step_of b.part wp n (step_of (moved b Writing 0) read) (chip cells (device core 0))
          ≡ told (write_list ++ replicate (turns * 2) poll) rested (ended (moved b Polling (turns * 2)) GaveUp)
      unfolding most_polls
      gives_up n read enough miss =
          let m : ℕ = n - (write_count b.command + turns) in
          let some : 0 < turns = positive (time_of r b.command) b.p valid.some some-time in
          let e : suc (turns - 1) ≡ turns = omega arith in
          opening n m read (omega arith)
          ∙ (ap (λ (t : Told). sent write_list (sent (replicate turns poll) t))
          (giving-up (turns - 1) turns m just some (omega arith) (omega arith) miss ∙ ap (λ (j : ℕ). sent (replicate j poll) (told [] rested (ended (moved b Polling (turns * 2)) GaveUp))) e)
          ∙ ap (λ (cs : List Cycle). told (write_list ++ cs) rested (ended (moved b Polling (turns * 2)) GaveUp)) twice)
        where
          twice : replicate turns poll ++ (replicate turns poll ++ []) ≡ replicate (turns * 2) poll
          twice =
              let e : turns + turns ≡ turns * 2 = omega arith in
              ap (λ (cs : List Cycle). replicate turns poll ++ cs) (append-nil (replicate turns poll)) ∙ (replicate-append-replicate turns turns poll ∙ rw e)
