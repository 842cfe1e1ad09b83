-- Sent cycles that are in their places what their purposes say: then what is counted by purpose is there by place, in a list and in its first cycles.
use Prim.Native.Nat.{ℕ, zero, suc}
use mathlib.Core.Path.{◌≡◌, refl, ap}
use mathlib.Core.List.{List, [], ◌∷◌, map}
use native.Mathlib.Omega.{arith}
use lib.Dec.{eqb}
use lib.ListN.{take}
use Rattle.parts.proofs.Every.{split}
use Rattle.device.specs.declared.cycle.Cycle.{Cycle}
use Rattle.device.specs.Cycle.{Chip}
use Rattle.device.specs.Trace.{after}
use Rattle.driver.specs.Reads.{Due, Scans, Polls, Confirms, due_after, Place, ARead, NoRead, read_as, places_in, counting, how_many}
use Rattle.job.specs.declared.loader.Purpose.{Purpose}
use Rattle.job.specs.declared.loader.Purpose.TheVariants.{Scan, Lead, Begin, Poll, Confirm}
use Rattle.job.specs.declared.run.Tally.{Tally}
use Rattle.job.specs.Run.{Sent, counted_of}
use Rattle.job.specs.Formulas.{no_tally, tally_of}
use Rattle.invoice.specs.Started.{cycles_in, time_in}

-- the place that a purpose names
abbrev pub purposed : Purpose → Place
purposed Scan = ARead Scans
purposed Lead = NoRead
purposed (Begin k) = NoRead
purposed Poll = ARead Polls
purposed Confirm = ARead Confirms

abbrev pub placed_as : Sent → Place
placed_as s = purposed s.purpose

-- one cycle
record Counted (t : Tally) (p : Place) (e : ℕ) : Type 0 where
  polls : t.polls ≡ counting Polls p
  scans : t.scans ≡ counting Scans p
  confirms : t.confirms ≡ counting Confirms p
  time : t.time ≡ e

counted : (p : Purpose) (e : ℕ) → Counted (counted_of no_tally p e) (purposed p) e
counted Scan e = record { polls = refl; scans = refl; confirms = refl; time = omega arith }
counted Lead e = record { polls = refl; scans = refl; confirms = refl; time = omega arith }
counted (Begin k) e =
    split (λ (t : Tally). Counted t NoRead e) (eqb k 0) _ _
    (λ _. record { polls = refl; scans = refl; confirms = refl; time = omega arith }) (λ _. record { polls = refl; scans = refl; confirms = refl; time = omega arith })
counted Poll e = record { polls = refl; scans = refl; confirms = refl; time = omega arith }
counted Confirm e = record { polls = refl; scans = refl; confirms = refl; time = omega arith }

-- a list
pub record Content (L : List Sent) : Type 0 where
  pub polls : (tally_of L).polls ≡ how_many Polls (map placed_as L)
  pub scans : (tally_of L).scans ≡ how_many Scans (map placed_as L)
  pub confirms : (tally_of L).confirms ≡ how_many Confirms (map placed_as L)
  pub time : (tally_of L).time ≡ time_in (cycles_in L)

pub contents : (L : List Sent) → Content L
unfolding tally_of
contents [] = record { polls = refl; scans = refl; confirms = refl; time = refl }
contents (s ∷ L) =
    let c = counted s.purpose s.cycle.elapsed in
    let r = contents L in
    record {
      polls = omega (arith, c.polls, r.polls);
      scans = omega (arith, c.scans, r.scans);
      confirms = omega (arith, c.confirms, r.confirms);
      time = omega (arith, c.time, r.time);
    }

-- the first k of a mapped list
pub map-take : (A : Type 0) (f : Sent → A) (k : ℕ) (L : List Sent) → map f (take k L) ≡ take k (map f L)
map-take A f zero L = refl
map-take A f (suc k) [] = refl
map-take A f (suc k) (s ∷ L) = ap (λ (l : List A). f s ∷ l) (map-take A f k L)

-- the first k cycles stand in their places as in the whole list
pub places-take : (part : ℕ) (u : Due) (h : Chip) (k : ℕ) (cs : List Cycle) → places_in part u h (take k cs) ≡ take k (places_in part u h cs)
places-take part u h zero cs = refl
places-take part u h (suc k) [] = refl
places-take part u h (suc k) (c ∷ cs) = ap (λ (ps : List Place). read_as u c.action ∷ ps) (places-take part (due_after part u h c c.action) (after part h c) k cs)
