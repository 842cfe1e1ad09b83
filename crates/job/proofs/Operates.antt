-- An operation of the job, whole: from a chip at rest the loader sends the cycles of `operated`, and goes on with the operation completed on the cells.
use Prim.Native.Nat.{ℕ, ◌+◌, ◌<◌, ◌≤◌}
use mathlib.Core.Path.{◌≡◌, refl, ap, ◌∙◌}
use mathlib.Core.Bool.{true, false}
use mathlib.Core.List.{List, [], ◌∷◌, ◌++◌, append-nil}
use native.Mathlib.Nat.{le_refl}
use native.Mathlib.Omega.{arith}
use borrow.Author.Tests.{ne_eqb}
use lib.ListN.{length}
use Rattle.parts.specs.Table.{row_of}
use Rattle.parts.specs.Time.{polls_of}
use Rattle.device.specs.declared.cycle.Action.TheVariants.{Write}
use Rattle.device.specs.declared.state.Device.{Device}
use Rattle.device.specs.Device.{fresh_device, rested}
use Rattle.device.specs.Sequence.{ignored}
use Rattle.device.specs.Cycle.{cycle, Chip, chip}
use Rattle.device.proofs.Idle.{fresh-idle}
use Rattle.commands.specs.declared.write.Write.{Write as Written}
use Rattle.driver.specs.declared.machine.Phase.TheVariants.{Polling, Done}
use Rattle.driver.specs.declared.machine.Driver.{Driver}
use Rattle.driver.specs.declared.machine.Step.{Step}
use Rattle.driver.specs.Refusals.{start_refusal}
use Rattle.driver.specs.Writes.{writes_of, write_count}
use Rattle.driver.specs.Machine.{address_of, value_wanted, begun, in_range, writing_of, step_of, moved, ended, start_writing}
use Rattle.driver.specs.Talk.{operation_cycles, Told, told, talk, completed, shown_after}
use Rattle.driver.proofs.Begins.{start_is, start-range, kept-address, kept-writes}
use Rattle.driver.proofs.Steps.{goes, keeps, asks-on}
use Rattle.driver.proofs.Named.{writes_named, named_in, names, spoken, talk-adds}
use Rattle.driver.proofs.Theorems.{succeeds}
use Rattle.job.specs.declared.loader.Job.{Job}
use Rattle.job.specs.declared.loader.Task.{Task}
use Rattle.job.specs.declared.loader.Purpose.TheVariants.{Lead}
use Rattle.job.specs.Loader.{turned, place_of, begin_of, driven_of, afterwards}
use Rattle.job.specs.Run.{Sent, sent, World}
use Rattle.job.specs.Sent.{writes_sent, operated}
use Rattle.job.proofs.Rest.{chip_of, Rest, as_sent, rest-is, talks}

-- an operation's writes, as its driver names them
writes_are : (j : Job) (command : ℕ) (ws : List Written) → writes_named Sent (as_sent j command) ws ≡ writes_sent j.wp command ws
writes_are j command [] = refl
writes_are j command (w ∷ []) = refl
writes_are j command (w ∷ (v ∷ ws)) = ap (λ (L : List Sent). sent Lead (cycle 0 j.wp (Write w.address w.«data»)) ∷ L) (writes_are j command (v ∷ ws))

-- ---- the operation
module _ (j : Job) (image : List ℕ) (right : j.row ≡ row_of j.part) (task : Task) (base i : ℕ) (inside : base + j.size ≤ j.count) (there : i < j.size) (seen : List ℕ)
    (command x : ℕ) (few : command ≤ 1) (accepted : start_refusal j.part command (place_of j base i) x j.p ≡ 0)
    (heeded : ignored (row_of j.part) j.wp command (place_of j base i) ≡ false) where
  abbrev at : ℕ
  at = place_of j base i

  abbrev n : ℕ
  n = polls_of (row_of j.part) command j.p

  abbrev b : Driver
  b = begun j.part command at x j.p

  abbrev first : Step
  first = step_of b 0

  abbrev fuel : ℕ
  fuel = write_count command + n + 1

  plain : address_of command at ≡ at
  plain = rw (ne_eqb command 3 (λ e. omega arith))

  ranged : in_range b ≡ true
  ranged = start-range j.part command at x j.p accepted

  -- the driver's first step, which names a write
  begins : begin_of j task base i command x ≡ driven_of j image task base i first
  unfolding begin_of driven_of start_writing writing_of
  begins = rw (start_is j.part command at x j.p accepted, goes b 0 ranged)

  -- the list is what it has named once it is done
  named : operated j command at x ≡ named_in Sent (as_sent j command) b Done n
  unfolding operated
  named =
      let r = row_of j.part in
      rw (right, ← writes_are j command (writes_of r command at x)) (rw (kept-writes r command at x (omega arith), kept-address command at, plain))

  -- the talk of it, from a world at rest whose cells are whole, where the value shown then is the wanted one
  module _ (w : World) (rest : w.held.device ≡ fresh_device) (whole : length w.cells ≡ (row_of j.part).cells)
      (same : shown_after (row_of j.part) command at x w.cells ≡ value_wanted (row_of j.part) command x) where
    talk-is : talk step_of j.part j.wp fuel first (chip_of w)
        ≡ told (operation_cycles (row_of j.part) j.wp command at x j.p n Done) (chip (completed (row_of j.part) command at x w.cells) fresh_device) (ended (moved b Polling n) Done)
    talk-is =
        (rw (start_is j.part command at x j.p accepted) at
        (succeeds j.part command at x j.p j.wp w.cells w.held.device accepted whole (rw rest fresh-idle) heeded same fuel 0 (le_refl fuel)))
        ∙ ap (λ (d : Device). told (operation_cycles (row_of j.part) j.wp command at x j.p n Done) (chip (completed (row_of j.part) command at x w.cells) d) (ended (moved b Polling n) Done))
        (ap rested rest)

    -- the driver has said it at its end
    listed : operated j command at x ≡ spoken Sent (as_sent j command) j.part j.wp fuel first (chip_of w)
    listed =
        let g = as_sent j command in
        let all = rw talk-is at (talk-adds Sent g j.part j.wp fuel [] first (chip_of w) (keeps b 0 ranged) (names Sent g b 0 ranged)) in
        named ∙ (all ∙ append-nil (spoken Sent g j.part j.wp fuel first (chip_of w)))

    pub operates : (L : List Sent)
        → ((w' : World) → w'.cells ≡ completed (row_of j.part) command at x w.cells → w'.held.device ≡ fresh_device → Rest j image (turned seen (afterwards j image task base i)) w' L)
        → Rest j image (turned seen (begin_of j task base i command x)) w (operated j command at x ++ L)
    operates L h =
        rest-is j image (turned seen (begin_of j task base i command x)) (turned seen (driven_of j image task base i first)) w _ _ (ap (turned seen) begins) (ap (λ (l : List Sent). l ++ L) listed)
        (talks j image task base i inside there seen command fuel first w L (ap (λ (d : Driver). d.command) (asks-on b 0))
        (ap (λ (t : Told). t.last.next) talk-is) (ap (λ (t : Told). t.last.answer) talk-is)
        (λ w' e. let c = e ∙ ap (λ (t : Told). t.chip) talk-is in h w' (ap (λ (h : Chip). h.cells) c) (ap (λ (h : Chip). h.device) c)))
