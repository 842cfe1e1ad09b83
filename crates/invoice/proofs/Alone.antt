-- What a job does in a sector is what a job of that sector alone does, of bus cycles.
use Prim.Native.Nat.{ℕ, zero, suc, ◌+◌, ◌*◌, ◌/◌, ◌≤◌}
use mathlib.Core.Path.{◌≡◌, refl, ap, ◌∙◌}
use mathlib.Core.Bool.{Bool}
use mathlib.Core.List.{List, map-append}
use native.Mathlib.Nat.{suc-mul, div-add-mod'}
use native.Mathlib.Omega.{arith}
use lib.ListN.{length, take, drop, length-drop}
use lib.Seq.{length-take-le}
use Rattle.parts.specs.Width.{sector_size}
use Rattle.parts.specs.Table.{row_of}
use Rattle.request.specs.Refusal.{job_refusal}
use Rattle.job.specs.Run.{Sent}
use Rattle.job.specs.Bill.{job_from}
use Rattle.job.specs.Sent.{sent_of}
use Rattle.job.proofs.Accepts.{passed}
use Rattle.job.proofs.BySector.{alone, by-sector}
use Rattle.invoice.specs.Started.{cycles_in}
use Rattle.invoice.specs.Invoice.{sent_cycles, sectors_alone}

module _ (part : ℕ) (cells : List ℕ) (wp : Bool) (p : ℕ) where
  abbrev size : ℕ
  size = sector_size (row_of part).width

  cycles-alone : (n first : ℕ) (image : List ℕ) → n * size ≤ length image → cycles_in (alone part wp p cells n first image) ≡ sectors_alone part cells wp p n first image
  unfolding alone
  cycles-alone zero first image h = refl
  cycles-alone (suc n) first image h =
      let a : sent_of (job_from part first size wp p) (take size image) cells ≡ sent_of (job_from part first (length (take size image)) wp p) (take size image) cells =
      rw (length-take-le size image (omega (arith, suc-mul n size))) refl in
      let b : n * size ≤ length (drop size image) = omega (arith, suc-mul n size, length-drop size image) in
      map-append (λ (s : Sent). s.cycle) (sent_of (job_from part first size wp p) (take size image) cells) (alone part wp p cells n (first + size) (drop size image))
      ∙ rw (a, cycles-alone n (first + size) (drop size image) b) refl

  -- The bus cycles of a job are those of its sectors, each loaded alone.
  pub sector-by-sector : (first : ℕ) (image : List ℕ) → job_refusal part (length cells) first image wp p ≡ 0
      → sent_cycles part cells first image wp p ≡ sectors_alone part cells wp p (length image / size) first image
  sector-by-sector first image e =
      let w = (passed part (length cells) first image wp p e).right in
      let h : length image / size * size ≤ length image = omega (arith, div-add-mod' (length image) size, w.whole) in
      ap cycles_in (by-sector part wp p cells first image) ∙ cycles-alone (length image / size) first image h
