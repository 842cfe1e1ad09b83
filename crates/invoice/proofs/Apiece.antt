-- Cycles sent that are each what they are counted and told as: then a list of them is, and its first cycles.
use Prim.Native.Nat.{ℕ, zero, suc, ◌+◌, ◌≤◌}
use mathlib.Core.Path.{◌≡◌, refl, sym, ap, ap₂}
use mathlib.Core.Bool.{Bool, true, false}
use mathlib.Core.List.{List, [], ◌∷◌, ◌++◌, map}
use native.Mathlib.Nat.{zero-add}
use native.Mathlib.Omega.{arith}
use lib.ListN.{length, take}
use Rattle.parts.specs.Pick.{pick}
use Rattle.device.specs.declared.state.Operation.{Operation}
use Rattle.device.specs.declared.cycle.Action.TheVariants.{Read}
use Rattle.device.specs.declared.cycle.Cycle.{Cycle}
use Rattle.device.specs.Device.{fresh_device}
use Rattle.device.specs.Cycle.{cycle, Chip, chip}
use Rattle.device.specs.Trace.{after, started_by, started_in}
use Rattle.device.proofs.Started.{read-starts, LastStarts}
use Rattle.commands.specs.declared.write.Write.{Write}
use Rattle.driver.specs.Talk.{write_cycles}
use Rattle.driver.specs.Reads.{Due, Scans, Confirms, due_after, read_as, places_in, counting, how_many}
use Rattle.job.specs.declared.loader.Purpose.{Purpose}
use Rattle.job.specs.declared.loader.Purpose.TheVariants.{Begin, Poll}
use Rattle.job.specs.declared.run.Tally.{Tally}
use Rattle.job.specs.Run.{Sent, sent, World, world, counted_of, no_last, last_of, none_sent, send_of, play_of}
use Rattle.job.specs.Sent.{writes_sent}
use Rattle.job.specs.Formulas.{plus, no_tally, tally_of}
use Rattle.job.proofs.Rest.{chip_of}
use Rattle.invoice.specs.Started.{cycles_in, shows_cell, showing, told_last, last_in, last_shown, many}
use Rattle.invoice.proofs.Placed.{placed_as}

-- ---- counts
-- the erases and programs of t are the operations os, and no others are among these
pub record Counts (t : Tally) (os : List Operation) : Type 0 where
  pub erases : t.erases ≡ many 1 os
  pub programs : t.programs ≡ many 0 os
  pub blocks : many 2 os ≡ 0
  pub chips : many 3 os ≡ 0

many-append : (k : ℕ) (os ps : List Operation) → many k (os ++ ps) ≡ many k os + many k ps
many-append k [] ps = sym (zero-add (many k ps))
many-append k (o ∷ os) ps = omega (arith, many-append k os ps)

counts-plus : (t u : Tally) (os ps : List Operation) → Counts t os → Counts u ps → Counts (plus t u) (os ++ ps)
counts-plus t u os ps c d =
    record {
      erases = omega (arith, many-append 1 os ps, c.erases, d.erases);
      programs = omega (arith, many-append 0 os ps, c.programs, d.programs);
      blocks = omega (arith, many-append 2 os ps, c.blocks, d.blocks);
      chips = omega (arith, many-append 3 os ps, c.chips, d.chips);
    }

-- the last write of a program or a sector erase
counts-begun : (command e : ℕ) (o : Operation) → command ≤ 1 → o.kind ≡ command → Counts (counted_of no_tally (Begin command) e) (o ∷ [])
counts-begun zero e o few k = rw k (record { erases = refl; programs = refl; blocks = refl; chips = refl })
counts-begun (suc zero) e o few k = rw k (record { erases = refl; programs = refl; blocks = refl; chips = refl })
counts-begun (suc (suc c)) e o few k = absurd (omega arith)

-- ---- a scan or a confirming read shows the value of its cell
-- of one cycle, counted as u where it shows that: it is counted so all the same
abbrev Shows : ℕ → Chip → Sent → Due → Type 0
Shows part h s u = pick (shows_cell part h s.cycle s.cycle.action) (counting u (placed_as s)) 0 ≡ counting u (placed_as s)

abbrev pub ShowsBoth : ℕ → Chip → Sent → Type 0
ShowsBoth part h s = Shows part h s Scans × Shows part h s Confirms

-- it does,
pub cell-shows : (part : ℕ) (h : Chip) (s : Sent) → shows_cell part h s.cycle s.cycle.action ≡ true → ShowsBoth part h s
cell-shows part h s e = (rw e, rw e)

-- or is a poll
pub poll-shows : (part : ℕ) (h : Chip) (c : Cycle) → ShowsBoth part h (sent Poll c)
poll-shows part h c = (neither (shows_cell part h c c.action), neither (shows_cell part h c c.action))
  where
    neither : (b : Bool) → ◌≡◌ {A = ℕ} (pick b 0 0) 0
    neither true = refl
    neither false = refl

-- ---- one cycle, on the chip h: it counts the operations that it starts, as the last one it is told, and a scan or a confirming read shows the value of its cell
pub record Piece (part : ℕ) (h : Chip) (s : Sent) : Type 0 where
  pub counts : Counts (counted_of no_tally s.purpose s.cycle.elapsed) (started_by part h s.cycle)
  pub told : told_last (last_of s.cycle.elapsed s.cycle.wp s.cycle.action) ≡ s.cycle ∷ []
  pub shown : ShowsBoth part h s

-- a read, counted neither as an erase nor as a program
pub read-piece : (part : ℕ) (h : Chip) (p : Purpose) (e : ℕ) (wp : Bool) (a : ℕ) → (counted_of no_tally p e).erases ≡ 0 → (counted_of no_tally p e).programs ≡ 0
    → ShowsBoth part h (sent p (cycle e wp (Read a))) → Piece part h (sent p (cycle e wp (Read a)))
read-piece part h p e wp a ne np t = record { counts = rw (read-starts part h e wp a) (record { erases = ne; programs = np; blocks = refl; chips = refl }); told = refl; shown = t }

-- ---- a list, from the world w on
abbrev pub Apiece : ℕ → World → List Sent → Type 0
Apiece part w [] = Unit {0}
Apiece part w (s ∷ L) = Piece part (chip_of w) s × Apiece part (send_of part w s.purpose s.cycle) L

module _ (part : ℕ) where
  pub apiece-append : (w : World) (L M : List Sent) → Apiece part w L → Apiece part (play_of part w L) M → Apiece part w (L ++ M)
  apiece-append w [] M a b = b
  apiece-append w (s ∷ L) M a b = (a.0, apiece-append (send_of part w s.purpose s.cycle) L M a.1 b)

  pub apiece-take : (w : World) (k : ℕ) (L : List Sent) → Apiece part w L → Apiece part w (take k L)
  apiece-take w zero L a = tt
  apiece-take w (suc k) [] a = tt
  apiece-take w (suc k) (s ∷ L) a = (a.0, apiece-take (send_of part w s.purpose s.cycle) k L a.1)

  -- the writes of a program or a sector erase, of which only the last starts anything
  pub apiece-writes : (wp : Bool) (command : ℕ) (ws : List Write) (o : Operation) → command ≤ 1 → o.kind ≡ command
      → (w : World) → LastStarts part (chip_of w) (write_cycles wp ws) (o ∷ []) → Apiece part w (writes_sent wp command ws)
  unfolding send_of after
  apiece-writes wp command [] o few k w l = tt
  apiece-writes wp command (x ∷ []) o few k w l = (record { counts = rw l (counts-begun command 0 o few k); told = refl; shown = (refl, refl) }, tt)
  apiece-writes wp command (x ∷ (y ∷ ws)) o few k w l =
      (record { counts = rw l.0 (record { erases = refl; programs = refl; blocks = refl; chips = refl }); told = refl; shown = (refl, refl) }, apiece-writes wp command (y ∷ ws) o few k _ l.1)

  -- the counts are of the operations that the list starts
  pub apiece-counts : (w : World) (L : List Sent) → Apiece part w L → Counts (tally_of L) (started_in part (chip_of w) (cycles_in L))
  unfolding tally_of send_of after
  apiece-counts w [] a = record { erases = refl; programs = refl; blocks = refl; chips = refl }
  apiece-counts w (s ∷ L) a = counts-plus _ _ _ _ a.0.counts (apiece-counts (send_of part w s.purpose s.cycle) L a.1)

  -- of the scans and of the confirming reads, told by their places, all show the value of their cell
  pub apiece-shows : (v : Due) (w : World) (L : List Sent) → places_in part v (chip_of w) (cycles_in L) ≡ map placed_as L → Apiece part w L
      → (showing part Scans v (chip_of w) (cycles_in L) ≡ how_many Scans (map placed_as L)) × (showing part Confirms v (chip_of w) (cycles_in L) ≡ how_many Confirms (map placed_as L))
  unfolding send_of after
  apiece-shows v w [] e a = (refl, refl)
  apiece-shows v w (s ∷ L) e a =
      let next = due_after part v (chip_of w) s.cycle s.cycle.action in
      let first : read_as v s.cycle.action ≡ placed_as s = cc in
      let rest : places_in part next (after part (chip_of w) s.cycle) (cycles_in L) ≡ map placed_as L = cc in
      let q = apiece-shows next (send_of part w s.purpose s.cycle) L rest a.1 in
      (rw first (ap₂ ◌+◌ a.0.shown.0 q.0), rw first (ap₂ ◌+◌ a.0.shown.1 q.1))

  -- the last cycle is the list's, and the reply what that shows
  last-is : (w : World) (s : Sent) (L : List Sent) → Apiece part w (s ∷ L) → told_last (play_of part w (s ∷ L)).held.last ≡ last_in (cycles_in (s ∷ L))
  unfolding send_of
  last-is w s [] a = a.0.told
  last-is w s (t ∷ L) a = last-is (send_of part w s.purpose s.cycle) t L a.1

  reply-is : (w : World) (s : Sent) (L : List Sent) → (play_of part w (s ∷ L)).held.reply ≡ last_shown part (chip_of w) (cycles_in (s ∷ L))
  unfolding send_of after
  reply-is w s [] = refl
  reply-is w s (t ∷ L) = reply-is (send_of part w s.purpose s.cycle) t L

  -- from a fresh device on: zeros for none
  module _ (cells : List ℕ) where
    pub told-last : (L : List Sent) → Apiece part (world cells none_sent) L → told_last (play_of part (world cells none_sent) L).held.last ≡ last_in (cycles_in L)
    told-last [] a = refl
    told-last (s ∷ L) a = last-is (world cells none_sent) s L a

    pub no-last : (L : List Sent) → cycles_in L ≡ [] → (play_of part (world cells none_sent) L).held.last ≡ no_last
    no-last [] e = refl
    no-last (s ∷ L) e = absurd (omega (arith, ap length e))

    pub shown-last : (L : List Sent) → (play_of part (world cells none_sent) L).held.reply ≡ last_shown part (chip cells fresh_device) (cycles_in L)
    shown-last [] = refl
    shown-last (s ∷ L) = reply-is (world cells none_sent) s L
