-- What a job does in a sector is what a job of that sector alone does: the one list is the lists of its sectors' own jobs, one after the other.
use Prim.Native.Nat.{ℕ, zero, suc, ◌+◌, ◌/◌}
use mathlib.Core.Path.{◌≡◌, refl, ap}
use mathlib.Core.Bool.{Bool}
use mathlib.Core.List.{List, [], ◌∷◌, ◌++◌, append-nil}
use native.Mathlib.Nat.{le_refl}
use Rattle.parts.proofs.Every.{split}
use lib.Dec.{eqb}
use lib.ListN.{length, take, drop}
use lib.Seq.{drop-drop, take-take}
use Rattle.parts.specs.Names.{PROGRAM}
use Rattle.parts.specs.Pick.{pick}
use Rattle.parts.specs.Width.{value_of, blank_of, sector_size}
use Rattle.parts.specs.Table.{row_of}
use Rattle.job.specs.declared.loader.Job.{Job}
use Rattle.values.specs.declared.search.Decision.{Decision}
use Rattle.values.specs.declared.search.Decision.TheVariants.{NoErase, SectorErase}
use Rattle.job.specs.Bill.{job_from}
use Rattle.job.specs.Run.{Sent}
use Rattle.job.specs.Sent.{operated, scan_read, scans, fills, looks, carries, decided_on, sector_sent, sectors_sent, sent_of}

-- a sector's cycles do not depend on where its job begins or ends
module _ (part : ℕ) (wp : Bool) (p f c g d : ℕ) where
  abbrev j : Job
  j = job_from part f c wp p

  abbrev k : Job
  k = job_from part g d wp p

  same-scans : (n a : ℕ) → scans j a n ≡ scans k a n
  unfolding scans
  same-scans zero a = refl
  same-scans (suc n) a = ap (λ (l : List Sent). scan_read j a ∷ l) (same-scans n (a + 1))

  same-fills : (v : List ℕ) (a : ℕ) → fills j a v ≡ fills k a v
  unfolding fills operated
  same-fills [] a = refl
  same-fills (x ∷ v) a = ap (λ (l : List Sent). pick (eqb x (blank_of j.row.width)) [] (operated j PROGRAM a x) ++ l) (same-fills v (a + 1))

  same-looks : (l v : List ℕ) (a : ℕ) → looks j a l v ≡ looks k a l v
  unfolding looks operated
  same-looks [] v a = refl
  same-looks (o ∷ l) [] a = refl
  same-looks (o ∷ l) (x ∷ v) a =
      ap (λ (m : List Sent). scan_read j a ∷ (pick (eqb (value_of j.row.width o) x) [] (operated j PROGRAM a x) ++ m)) (same-looks l v (a + 1))

  same-carries : (a : ℕ) (l v : List ℕ) (e : Decision) → carries j a l v e ≡ carries k a l v e
  unfolding operated
  same-carries a l v NoErase = same-looks l v a
  same-carries a l v SectorErase = ap (λ (m : List Sent). operated j 1 a 0 ++ m) (same-fills v a)

  same-sector : (a : ℕ) (l v : List ℕ) → sector_sent j a l v ≡ sector_sent k a l v
  unfolding sector_sent
  same-sector a l v = rw (same-scans j.size a, same-carries a l v (decided_on j l v)) refl

-- a sector is one sector long
one-sector : (w : ℕ) → sector_size w / sector_size w ≡ 1
unfolding sector_size
one-sector w = split (λ (n : ℕ). n / n ≡ 1) (eqb w 8) 4096 2048 (λ _. refl) (λ _. refl)

module _ (part : ℕ) (wp : Bool) (p : ℕ) (cells : List ℕ) where
  abbrev size : ℕ
  size = sector_size (row_of part).width

  -- the cycles of the jobs of n sectors, each alone, on the cells as they are lent
  unfoldable pub alone : ℕ → ℕ → List ℕ → List Sent
  alone zero first image = []
  alone (suc n) first image = sent_of (job_from part first size wp p) (take size image) cells ++ alone n (first + size) (drop size image)

  one-alone : (first : ℕ) (image : List ℕ)
      → sent_of (job_from part first size wp p) (take size image) cells ≡ sector_sent (job_from part first size wp p) first (take size (drop first cells)) (take size image)
  unfolding sectors_sent
  one-alone first image =
      rw (one-sector (row_of part).width, take-take size size image (le_refl size))
      (append-nil (sector_sent (job_from part first size wp p) first (take size (drop first cells)) (take size image)))

  sectors-alone : (f c n first : ℕ) (image : List ℕ) → sectors_sent (job_from part f c wp p) first n (drop first cells) image ≡ alone n first image
  unfolding sectors_sent alone
  sectors-alone f c zero first image = refl
  sectors-alone f c (suc n) first image =
      rw (drop-drop size first cells, sectors-alone f c n (first + size) (drop size image), one-alone first image)
      (ap (λ (l : List Sent). l ++ alone n (first + size) (drop size image))
      (same-sector part wp p f c first size first (take size (drop first cells)) (take size image)))

  -- The one list of a job is that of its sectors, each alone.
  pub by-sector : (first : ℕ) (image : List ℕ)
      → sent_of (job_from part first (length image) wp p) image cells ≡ alone (length image / size) first image
  by-sector first image = sectors-alone first (length image) (length image / size) first image
