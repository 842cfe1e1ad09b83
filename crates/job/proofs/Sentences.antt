-- Laws of the job's one list that each say a sentence of document 01: the level and the µs of every cycle, and a job of no values.
use Prim.Native.Nat.{ℕ, zero, suc, ◌+◌, ◌/◌}
use mathlib.Core.Path.{◌≡◌, refl}
use mathlib.Core.Bool.{Bool}
use mathlib.Core.List.{List, [], ◌∷◌, ◌++◌}
use native.Mathlib.Nat.{zero-div, zero-mul}
use lib.Dec.{eqb}
use lib.ListN.{length, take, drop, replicate}
use Rattle.parts.specs.Names.{PROGRAM, SECTOR}
use Rattle.parts.specs.Pick.{pick}
use Rattle.parts.specs.Width.{value_of, blank_of, sector_size}
use Rattle.parts.specs.Table.{row_of}
use Rattle.parts.specs.Time.{polls_of}
use Rattle.parts.proofs.Every.{split}
use Rattle.device.specs.declared.cycle.Action.TheVariants.{Read}
use Rattle.device.specs.Cycle.{cycle}
use Rattle.commands.specs.declared.write.Write.{Write as Written}
use Rattle.driver.specs.Writes.{writes_of}
use Rattle.driver.specs.Machine.{confirm_after}
use Rattle.job.specs.declared.loader.Job.{Job}
use Rattle.job.specs.declared.loader.Purpose.{Purpose}
use Rattle.job.specs.declared.loader.Purpose.TheVariants.{Scan, Lead, Begin, Poll, Confirm}
use Rattle.values.specs.declared.search.Decision.{Decision}
use Rattle.values.specs.declared.search.Decision.TheVariants.{NoErase, SectorErase}
use Rattle.request.specs.Refusal.{job_refusal}
use Rattle.job.specs.Run.{Sent, sent}
use Rattle.values.specs.Total.{total_of}
use Rattle.job.specs.Sent.{writes_sent, operated, scans, fills, looks, carries, decided_on, sector_sent, sectors_sent, sent_of}
use Rattle.job.specs.Bill.{full_of, refused_bill, load_of}

-- the µs in front of a cycle, by its purpose: all but polls and the confirming read carry 0
abbrev pub elapsed_for : Job → Purpose → ℕ
elapsed_for j Scan = 0
elapsed_for j Lead = 0
elapsed_for j (Begin c) = 0
elapsed_for j Poll = j.p
elapsed_for j Confirm = confirm_after

-- each cycle of a list is at the job's level, after the µs of its purpose
abbrev pub Ordered : Job → List Sent → Type 0
Ordered j [] = Unit {0}
Ordered j (s ∷ ss) = (s.cycle.wp ≡ j.wp) × ((s.cycle.elapsed ≡ elapsed_for j s.purpose) × Ordered j ss)

module _ (j : Job) where
  both_ordered : (ss ts : List Sent) → Ordered j ss → Ordered j ts → Ordered j (ss ++ ts)
  both_ordered [] ts a b = b
  both_ordered (s ∷ ss) ts a b = (a.0, (a.1.0, both_ordered ss ts a.1.1 b))

  writes-ordered : (command : ℕ) (ws : List Written) → Ordered j (writes_sent j.wp command ws)
  writes-ordered command [] = tt
  writes-ordered command (w ∷ []) = (refl, (refl, tt))
  writes-ordered command (w ∷ (v ∷ ws)) = (refl, (refl, writes-ordered command (v ∷ ws)))

  polls-ordered : (a n : ℕ) → Ordered j (replicate n (sent Poll (cycle j.p j.wp (Read a))))
  polls-ordered a zero = tt
  polls-ordered a (suc n) = (refl, (refl, polls-ordered a n))

  operated-ordered : (command a x : ℕ) → Ordered j (operated j command a x)
  unfolding operated
  operated-ordered command a x =
      both_ordered (writes_sent j.wp command (writes_of j.row command a x)) _ (writes-ordered command (writes_of j.row command a x))
      (both_ordered (replicate (polls_of j.row command j.p) (sent Poll (cycle j.p j.wp (Read a)))) _ (polls-ordered a (polls_of j.row command j.p)) (refl, (refl, tt)))

  scans-ordered : (n a : ℕ) → Ordered j (scans j a n)
  unfolding scans
  scans-ordered zero a = tt
  scans-ordered (suc n) a = (refl, (refl, scans-ordered n (a + 1)))

  -- none or a program, in front of others
  next-ordered : (b : Bool) (a x : ℕ) (ss : List Sent) → Ordered j ss → Ordered j (pick b [] (operated j PROGRAM a x) ++ ss)
  next-ordered b a x ss h =
      split (λ (front : List Sent). Ordered j (front ++ ss)) b [] (operated j PROGRAM a x) (λ _. h)
      (λ _. both_ordered (operated j PROGRAM a x) ss (operated-ordered PROGRAM a x) h)

  fills-ordered : (v : List ℕ) (a : ℕ) → Ordered j (fills j a v)
  unfolding fills
  fills-ordered [] a = tt
  fills-ordered (x ∷ v) a = next-ordered (eqb x (blank_of j.row.width)) a x (fills j (a + 1) v) (fills-ordered v (a + 1))

  looks-ordered : (l v : List ℕ) (a : ℕ) → Ordered j (looks j a l v)
  unfolding looks
  looks-ordered [] v a = tt
  looks-ordered (o ∷ l) [] a = tt
  looks-ordered (o ∷ l) (x ∷ v) a =
      (refl, (refl, next-ordered (eqb (value_of j.row.width o) x) a x (looks j (a + 1) l v) (looks-ordered l v (a + 1))))

  carries-ordered : (a : ℕ) (l v : List ℕ) (d : Decision) → Ordered j (carries j a l v d)
  carries-ordered a l v NoErase = looks-ordered l v a
  carries-ordered a l v SectorErase = both_ordered (operated j SECTOR a 0) (fills j a v) (operated-ordered SECTOR a 0) (fills-ordered v a)

  sector-ordered : (a : ℕ) (l v : List ℕ) → Ordered j (sector_sent j a l v)
  unfolding sector_sent
  sector-ordered a l v = both_ordered (scans j a j.size) _ (scans-ordered j.size a) (carries-ordered a l v (decided_on j l v))

  sectors-ordered : (n a : ℕ) (l v : List ℕ) → Ordered j (sectors_sent j a n l v)
  unfolding sectors_sent
  sectors-ordered zero a l v = tt
  sectors-ordered (suc n) a l v =
      both_ordered (sector_sent j a (take j.size l) (take j.size v)) _ (sector-ordered a (take j.size l) (take j.size v))
      (sectors-ordered n (a + j.size) (drop j.size l) (drop j.size v))

  -- WP# stays at the job's level; all reads but polls and the confirming read, and all writes, carry 0 µs.
  pub ordered : (image cells : List ℕ) → Ordered j (sent_of j image cells)
  ordered image cells = sectors-ordered (j.count / j.size) j.first (drop j.first cells) image

-- Count 0 is accepted with a bill of zeros, and changes no cell.
pub no-values : (part : ℕ) (cells : List ℕ) (first : ℕ) (wp : Bool) (p : ℕ) → job_refusal part (length cells) first [] wp p ≡ 0
    → load_of part cells first [] wp p ≡ record { cells = cells; bill = refused_bill 0 }
unfolding load_of sectors_sent full_of total_of
no-values part cells first wp p z = simp (z, zero-div (sector_size (row_of part).width), zero-mul)
