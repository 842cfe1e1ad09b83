-- "The rest": from a turn on, the cycles that the loader has yet to send are a list. An operation's are what its driver names.
use Rattle.std.specs.Prelude.{Some, None}
use Prim.Native.Nat.{ℕ, zero, suc, ◌+◌, ◌<◌, ◌≤◌}
use mathlib.Core.Path.{◌≡◌, refl, ap, ◌∙◌}
use mathlib.Core.List.{List, [], ◌∷◌, ◌++◌}
use native.Mathlib.Nat.{not-suc-le-zero, le_of_suc-le-suc}
use borrow.Author.Tests.{eq-eqb}
use lib.ListN.{length, take}
use Rattle.device.specs.declared.cycle.Action.{Action}
use Rattle.device.specs.declared.cycle.Cycle.{Cycle}
use Rattle.device.specs.Cycle.{cycle, Chip, chip}
use Rattle.device.specs.Trace.{after}
use Rattle.driver.specs.declared.machine.Phase.{Phase}
use Rattle.driver.specs.declared.machine.Driver.{Driver}
use Rattle.driver.specs.Machine.{Next}
use Rattle.driver.specs.declared.machine.Step.{Step}
use Rattle.driver.specs.Machine.{step_of}
use Rattle.driver.specs.Talk.{Told, talk}
use Rattle.driver.proofs.Steps.{asks-on}
use Rattle.driver.proofs.Talks.{talk-stops, talk-goes}
use Rattle.driver.proofs.Named.{spoken, spoken-stops, spoken-goes}
use Rattle.job.specs.declared.loader.Job.{Job}
use Rattle.job.specs.declared.loader.Stage.TheVariants.{Driving}
use Rattle.job.specs.declared.loader.Task.{Task}
use Rattle.job.specs.declared.loader.Loader.{Loader}
use Rattle.job.specs.declared.loader.Purpose.{Purpose}
use Rattle.job.specs.declared.loader.Turn.TheVariants.{Play, Stop}
use Rattle.job.specs.Loader.{Turned, turned, loader, purpose_of, driven_of, afterwards, turn_of}
use Rattle.job.specs.Run.{Sent, sent, World, send_of, play_of, run_of, stop_of}
use Rattle.job.proofs.InJob.{sector-in}

-- the chip of a world
abbrev pub chip_of : World → Chip
chip_of w = chip w.cells w.held.device

-- a cycle that a driver of a command names, with its purpose
abbrev pub as_sent : Job → ℕ → Phase → ℕ → Action → Sent
as_sent j command f e a = sent (purpose_of command f a) (cycle e j.wp a)

-- what a run of at most k cycles has sent, and the turn that stands then
pub record Pass : Type 0 where
  pub sent : List Sent
  pub turn : Turned

abbrev pub pass : List Sent → Turned → Pass
pass ss t = record { sent = ss; turn = t }

-- a cycle in front
abbrev pub ahead : Sent → Pass → Pass
ahead s r = pass (s ∷ r.sent) r.turn

abbrev pub pass_of : Job → List ℕ → ℕ → Turned → World → Pass
pass_of j image zero t w = pass [] t
pass_of j image (suc k) t w =
    elim t.turn [
      | Stop n ↦ pass [] t
      | Play l p c ↦ ahead (sent p c) (pass_of j image k (turn_of j image t.seen l (send_of j.part w p c).held.reply) (send_of j.part w p c))
    ]

module _ (j : Job) (image : List ℕ) where
  -- a run of k cycles sends the first k of L, and once all are sent stands at its end
  abbrev pub Passes : ℕ → Turned → World → List Sent → Type 0
  Passes k t w L = ((pass_of j image k t w).sent ≡ take k L) × (length L ≤ k → (pass_of j image k t w).turn.turn ≡ Stop 0)

  abbrev RunsTo : ℕ → Turned → World → List Sent → Type 0
  RunsTo k t w L = (run_of j image k t w ≡ play_of j.part w (take k L)) × ((stop_of j image k t w ≡ 0) × Passes k t w L)

  -- from a turn on, the cycles to come are L, and the loader stops with 0
  unfoldable pub Rest : Turned → World → List Sent → Type 0
  Rest t w L = (k : ℕ) → RunsTo k t w L

  pub rest-none : (seen : List ℕ) (w : World) → Rest (turned seen (Stop 0)) w []
  unfolding Rest
  rest-none seen w = λ k. by k
    where
      by : (k : ℕ) → RunsTo k (turned seen (Stop 0)) w []
      by zero = (refl, (refl, (refl, λ _. refl)))
      by (suc k) = (refl, (refl, (refl, λ _. refl)))

  pub rest_more : (seen : List ℕ) (l : Loader) (p : Purpose) (c : Cycle) (w : World) (L : List Sent)
      → Rest (turn_of j image seen l (send_of j.part w p c).held.reply) (send_of j.part w p c) L → Rest (turned seen (Play l p c)) w (sent p c ∷ L)
  unfolding Rest
  rest_more seen l p c w L h = λ k. by k
    where
      by : (k : ℕ) → RunsTo k (turned seen (Play l p c)) w (sent p c ∷ L)
      by zero = (refl, (refl, (refl, λ le. absurd (not-suc-le-zero le))))
      by (suc k) = let g = h k in (g.0, (g.1.0, (ap (λ (ss : List Sent). sent p c ∷ ss) g.1.1.0, λ le. g.1.1.1 (le_of_suc-le-suc le))))

  pub rest-is : (t t' : Turned) (w : World) (L L' : List Sent) → t ≡ t' → L ≡ L' → Rest t' w L' → Rest t w L
  unfolding Rest
  rest-is t t' w L L' e f h = rw (e, f) h

  -- ---- an operation that is driven at a cell of a sector
  module _ (task : Task) (base i : ℕ) (inside : base + j.size ≤ j.count) (there : i < j.size) (seen : List ℕ) (command : ℕ) where
    -- what its steps name, from one on, against the chip of a world
    abbrev pub saying : ℕ → Step → World → List Sent
    saying m t w = spoken Sent (as_sent j command) j.part j.wp m t (chip_of w)

    abbrev talking : ℕ → Step → World → Told
    talking m t w = talk step_of j.part j.wp m t (chip_of w)

    -- the loader's turn is the driver's step
    steps : (d : Driver) (r : ℕ) → turn_of j image seen (loader (Driving task d) base i) r ≡ turned seen (driven_of j image task base i (step_of d r))
    unfolding turn_of
    steps d r = rw (sector-in j (loader (Driving task d) base i) inside there)

    abbrev Goes : ℕ → Step → World → List Sent → Type 0
    Goes m t w L =
        (talking m t w).last.next ≡ None → (talking m t w).last.answer ≡ 0
        → ((w' : World) → chip_of w' ≡ (talking m t w).chip → Rest (turned seen (afterwards j image task base i)) w' L)
        → Rest (turned seen (driven_of j image task base i t)) w (saying m t w ++ L)

    -- nothing named: what follows
    ends : (t : Step) (w : World) (L : List Sent) → t.next ≡ None → t.answer ≡ 0 → Rest (turned seen (afterwards j image task base i)) w L
        → Rest (turned seen (driven_of j image task base i t)) w L
    unfolding driven_of
    ends t w L e z h = rw (e, eq-eqb t.answer 0 z) h

    -- a cycle named
    goes : (t : Step) (e : ℕ) (a : Action) → t.next ≡ Some (e, a) → t.driver.command ≡ command
        → driven_of j image task base i t ≡ Play (loader (Driving task t.driver) base i) (purpose_of command t.driver.phase a) (cycle e j.wp a)
    unfolding driven_of
    goes t e a q c = rw (q, c)

    turning : (m : ℕ) → ((t : Step) (w : World) (L : List Sent) → t.driver.command ≡ command → Goes m t w L)
        → (t : Step) (w : World) (L : List Sent) → t.driver.command ≡ command → (x : Next) → t.next ≡ x → Goes (suc m) t w L
    unfolding send_of after
    turning m ih t w L k None q e z h =
        let u = talk-stops j.part j.wp m t (chip_of w) q in
        rw (spoken-stops Sent (as_sent j command) j.part j.wp m t (chip_of w) q) (ends t w L q (rw u at z) ((rw u at h) w refl))
    turning m ih t w L k (Some (f, a)) q e z h =
        let c = cycle f j.wp a in
        let u = talk-goes j.part j.wp m t (chip_of w) f a q in
        let p = purpose_of command t.driver.phase a in
        let r = (send_of j.part w p c).held.reply in
        let on = loader (Driving task t.driver) base i in
        let same : (step_of t.driver r).driver.command ≡ command = ap (λ (d : Driver). d.command) (asks-on t.driver r) ∙ k in
        rest-is (turned seen (driven_of j image task base i t)) (turned seen (Play on p c)) w _ _ (ap (turned seen) (goes t f a q k))
        (ap (λ (l : List Sent). l ++ L) (spoken-goes Sent (as_sent j command) j.part j.wp m t (chip_of w) f a q))
        (rest_more seen on p c w _
        (rest-is (turn_of j image seen on r) _ (send_of j.part w p c) _ _ (steps t.driver r) refl
        (ih (step_of t.driver r) (send_of j.part w p c) L same (rw u at e) (rw u at z) (rw u at h))))

    pub talks : (m : ℕ) (t : Step) (w : World) (L : List Sent) → t.driver.command ≡ command → Goes m t w L
    unfolding talk spoken
    talks zero t w L k = λ e z h. ends t w L e z (h w refl)
    talks (suc m) t w L k = turning m (talks m) t w L k t.next refl
