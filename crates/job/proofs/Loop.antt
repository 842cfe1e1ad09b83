-- A turn of the run's loop, and its ends; the counts stay within the number of cycles sent.
use Prim.Native.Nat.{ℕ, zero, suc, zero-le, ◌+◌, ◌-◌, ◌*◌, ◌≤◌, ◌<◌}
use mathlib.Core.Path.{◌≡◌, refl, ap, ap₂, ◌∙◌}
use mathlib.Core.List.{List}
use native.Mathlib.Nat.{le_refl}
use native.Mathlib.Omega.{arith}
use lib.Dec.{eqb}
use lib.ListN.{replicate}
use Rattle.parts.proofs.Every.{split}
use Rattle.device.specs.declared.cycle.Cycle.{Cycle}
use Rattle.job.specs.declared.loader.Job.{Job}
use Rattle.job.specs.declared.loader.Loader.{Loader}
use Rattle.job.specs.declared.loader.Purpose.{Purpose}
use Rattle.job.specs.declared.loader.Purpose.TheVariants.{Scan, Lead, Begin, Poll, Confirm}
use Rattle.job.specs.declared.loader.Turn.{Turn}
use Rattle.job.specs.declared.loader.Turn.TheVariants.{Play, Stop}
use Rattle.job.specs.declared.run.Tally.{Tally}
use Rattle.job.specs.declared.run.Held.{Held}
use Rattle.job.specs.Loader.{Turned, turned, next_sector, turn_of}
use Rattle.job.specs.Fits.{CountsFit}
use Rattle.job.specs.Run.{World, world, none_sent, counted_of, send_of, run_of, run_from, stop_number, stop_of, stop_from, run_end}

-- ---- counts
pub counts_up : (t : Tally) (m n : ℕ) → m ≤ n → CountsFit t m → CountsFit t n
counts_up t m n h w =
    record {
      erases = omega (arith, w.erases);
      programs = omega (arith, w.programs);
      polls = omega (arith, w.polls);
      scans = omega (arith, w.scans);
      confirms = omega (arith, w.confirms);
      time = omega (arith, w.time);
    }

up : {m : ℕ} → m ≤ m + 1
up {m} = omega arith

module _ (t : Tally) (n e : ℕ) (w : CountsFit t n) (short : e ≤ 4294967295) where
  -- counts that are each at most one more
  more : (t' : Tally) → t'.erases ≤ t.erases + 1 → t'.programs ≤ t.programs + 1 → t'.polls ≤ t.polls + 1 → t'.scans ≤ t.scans + 1 → t'.confirms ≤ t.confirms + 1
      → t'.time ≡ t.time + e → CountsFit t' (n + 1)
  more t' a b c d f g =
      counts (omega (arith, w.erases)) (omega (arith, w.programs)) (omega (arith, w.polls)) (omega (arith, w.scans)) (omega (arith, w.confirms)) (omega (arith, w.time))
    where
      counts : t'.erases ≤ n + 1 → t'.programs ≤ n + 1 → t'.polls ≤ n + 1 → t'.scans ≤ n + 1 → t'.confirms ≤ n + 1 → t'.time ≤ (n + 1) * 4294967295 → CountsFit t' (n + 1)
      counts a b c d f g = record { erases = a; programs = b; polls = c; scans = d; confirms = f; time = g }

  pub counted-counts : (p : Purpose) → CountsFit (counted_of t p e) (n + 1)
  counted-counts Scan = more _ up up up (le_refl _) up refl
  counted-counts Lead = more _ up up up up up refl
  counted-counts (Begin c) = split (λ (t : Tally). CountsFit t (n + 1)) (eqb c 0) _ _ (λ _. more _ up (le_refl _) up up up refl) (λ _. more _ (le_refl _) up up up up refl)
  counted-counts Poll = more _ up up (le_refl _) up up refl
  counted-counts Confirm = more _ up up up up (le_refl _) refl

-- ---- the loop
-- where a run ends: the world, and the number with which the loader stopped
pub record AtEnd : Type 0 where
  pub place : World
  pub number : ℕ

abbrev end : World → ℕ → AtEnd
end w n = record { place = w; number = n }

abbrev pub end_of : Job → List ℕ → ℕ → Turned → World → AtEnd
end_of j image k t w = end (run_of j image k t w) (stop_of j image k t w)

abbrev pub end_from : Job → List ℕ → List ℕ → ℕ → AtEnd
end_from j image cells k = end (run_from j image cells k) (stop_from j image cells k)

-- a run under way, that ends at P: at most k cycles are sent, and the counts are within them
abbrev pub Going : Job → List ℕ → ℕ → AtEnd → List ℕ → Turn → List ℕ → Held → Type 0
Going j image k P seen t cells h = (h.sent ≤ k) × (CountsFit h.tally h.sent × (end_of j image (k - h.sent) (turned seen t) (world cells h) ≡ P))

-- what a run hands back where it ends
abbrev pub Handed : AtEnd → List ℕ → Held → ℕ → Type 0
Handed P cells h n = (run_end h n ≡ run_end P.place.held P.number) × (cells ≡ P.place.cells)

handed : (P : AtEnd) (cells : List ℕ) (h : Held) (n : ℕ) → end (world cells h) n ≡ P → Handed P cells h n
handed P cells h n e = (ap (λ (e : AtEnd). run_end e.place.held e.number) e, ap (λ (e : AtEnd). e.place.cells) e)

module _ (j : Job) (image : List ℕ) where
  -- nothing sent, the first sector's first read
  pub starts : (k : ℕ) (t : Turn) (cells : List ℕ) (h : Held) → h ≡ none_sent → t ≡ next_sector j 0 → Going j image k (end_from j image cells k) (replicate 4096 0) t cells h
  starts k t cells h e f =
      let z : k - 0 ≡ k = omega arith in
      rw (e, f) (zero-le, (record { erases = zero-le; programs = zero-le; polls = zero-le; scans = zero-le; confirms = zero-le; time = zero-le }, rw z))

  again : (k n : ℕ) (seen seen' : List ℕ) (t t' : Turn) (l : Loader) (p : Purpose) (c : Cycle) (cells cells' : List ℕ) (h h' : Held) (P : AtEnd) → n < k → t ≡ Play l p c
      → h' ≡ (send_of j.part (world cells h) p c).held → cells' ≡ (send_of j.part (world cells h) p c).cells
      → t' ≡ (turn_of j image seen l h'.reply).turn → seen' ≡ (turn_of j image seen l h'.reply).seen
      → end_of j image (k - n) (turned seen t) (world cells h) ≡ P → end_of j image (k - (n + 1)) (turned seen' t') (world cells' h') ≡ P
  again k n seen seen' t t' l p c cells cells' h h' P lt e qh qc qt qs r =
      let i : k - n ≡ suc (k - (n + 1)) = omega arith in
      let w : world cells' h' ≡ send_of j.part (world cells h) p c = ap₂ {A = List ℕ} {B = Held} {C = World} world qc qh in
      let m : turned seen' t' ≡ turn_of j image seen l h'.reply = ap₂ {A = List ℕ} {B = Turn} {C = Turned} turned qs qt in
      let x : turn_of j image seen l h'.reply ≡ turn_of j image seen l (send_of j.part (world cells h) p c).held.reply = ap (λ (h : Held). turn_of j image seen l h.reply) qh in
      ap₂ {A = Turned} {B = World} {C = AtEnd} (end_of j image (k - (n + 1))) (m ∙ x) w ∙ (rw (i, e) at r)

  -- a turn
  pub turns : (k : ℕ) (seen seen' : List ℕ) (t t' : Turn) (l : Loader) (p : Purpose) (c : Cycle) (cells cells' : List ℕ) (h h' : Held) (P : AtEnd) → h.sent < k → t ≡ Play l p c
      → h' ≡ (send_of j.part (world cells h) p c).held → cells' ≡ (send_of j.part (world cells h) p c).cells
      → t' ≡ (turn_of j image seen l h'.reply).turn → seen' ≡ (turn_of j image seen l h'.reply).seen
      → c.elapsed ≤ 4294967295 → Going j image k P seen t cells h → Going j image k P seen' t' cells' h'
  unfolding send_of
  turns k seen seen' t t' l p c cells cells' h h' P lt e qh qc qt qs short v =
      let s : h'.sent ≡ h.sent + 1 = ap (λ (h : Held). h.sent) qh in
      let y : h'.tally ≡ counted_of h.tally p c.elapsed = ap (λ (h : Held). h.tally) qh in
      let z : k - h'.sent ≡ k - (h.sent + 1) = ap (λ (n : ℕ). k - n) s in
      let n : CountsFit h'.tally h'.sent = rw (y, s) (counted-counts h.tally h.sent c.elapsed v.1.0 short p) in
      (omega arith, (n, rw z (again k h.sent seen seen' t t' l p c cells cells' h h' P lt e qh qc qt qs v.1.1)))

  -- the loader has stopped
  pub stopped : (k n m : ℕ) (seen : List ℕ) (t : Turn) (cells : List ℕ) (h : Held) (P : AtEnd) → t ≡ Stop n → m ≡ stop_number t → end_of j image k (turned seen t) (world cells h) ≡ P → Handed P cells h m
  stopped zero n m seen t cells h P e q r = handed P cells h m (ap (end (world cells h)) q ∙ r)
  stopped (suc k) n m seen t cells h P e q r = handed P cells h m (ap (end (world cells h)) (q ∙ ap stop_number e) ∙ (rw e at r))

  -- k cycles are sent
  pub passed : (k n m : ℕ) (seen : List ℕ) (t : Turn) (cells : List ℕ) (h : Held) (P : AtEnd) → k ≤ n → m ≡ stop_number t → end_of j image (k - n) (turned seen t) (world cells h) ≡ P → Handed P cells h m
  passed k n m seen t cells h P le q r =
      let z : k - n ≡ 0 = omega arith in
      handed P cells h m (ap (end (world cells h)) q ∙ (rw z at r))

-- a cycle more is sent
pub one_more : (part : ℕ) (w : World) (p : Purpose) (c : Cycle) (h : Held) → h ≡ (send_of part w p c).held → h.sent ≡ w.held.sent + 1
unfolding send_of
one_more part w p c h e = ap (λ (h : Held). h.sent) e
