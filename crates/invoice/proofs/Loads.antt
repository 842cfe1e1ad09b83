-- What `load` hands back, reckoned from the job's operations alone: no cycle is played. By it the marked jobs are computed.
use Prim.Native.Nat.{ℕ, zero, suc, ◌+◌, ◌-◌, ◌*◌, ◌/◌}
use mathlib.Core.Path.{◌≡◌, refl, ap, ◌∙◌}
use mathlib.Core.Bool.{Bool, true}
use mathlib.Core.List.{List, [], ◌++◌}
use native.Mathlib.Omega.{arith}
use borrow.Author.Tests.{eq-eqb}
use lib.Dec.{ltb}
use lib.ListN.{length, take, drop}
use Rattle.parts.specs.Table.{row_of}
use Rattle.device.specs.declared.state.Operation.{Operation}
use Rattle.device.specs.Trace.{complete_all}
use Rattle.job.specs.declared.loader.Job.{Job}
use Rattle.job.specs.declared.run.Tally.{Tally}
use Rattle.values.specs.Total.{sum_of}
use Rattle.values.specs.Fit.{fit_all}
use Rattle.request.specs.Refusal.{job_refusal}
use Rattle.job.specs.Run.{tally}
use Rattle.job.specs.Sent.{sent_of}
use Rattle.job.specs.Formulas.{tally_of, N}
use Rattle.job.specs.Bill.{job_from, bill_of, Loaded, load_of}
use Rattle.job.proofs.Counts.{job-fair}
use Rattle.driver.specs.Machine.{confirm_after}
use Rattle.least.specs.LeastTime.{rising}
use Rattle.invoice.specs.Started.{many}
use Rattle.invoice.proofs.Listed.{carrying, sectoring, sectoring_all, operations_of}
use Rattle.invoice.proofs.Bits.{erases_if, decision-is}
use Rattle.invoice.proofs.Least.{fit-take, fit-drop, held-counts, cells_left}
use Rattle.invoice.proofs.Billed.{ok, tally-is}

-- ---- the job's operations, a sector's decision by how many of its cells have a bit that must rise: that is quick to compute
module _ (j : Job) where
  unfoldable pub deciding : ℕ → List ℕ → List ℕ → List Operation
  deciding a l v = carrying j a l v (erases_if (ltb 0 (rising j.row.width l v)))

  unfoldable pub deciding_all : ℕ → ℕ → List ℕ → List ℕ → List Operation
  deciding_all a zero l v = []
  deciding_all a (suc n) l v = deciding a (take j.size l) (take j.size v) ++ deciding_all (a + j.size) n (drop j.size l) (drop j.size v)

  decides : (n a : ℕ) (l v : List ℕ) → fit_all j.row.width v ≡ true → sectoring_all j a n l v ≡ deciding_all a n l v
  unfolding sectoring_all deciding_all sectoring deciding
  decides zero a l v f = refl
  decides (suc n) a l v f =
      let S = j.size in
      let W = j.row.width in
      rw (decision-is W (take S l) (take S v) (fit-take W S v f))
      (ap (λ (os : List Operation). deciding a (take S l) (take S v) ++ os) (decides n (a + S) (drop S l) (drop S v) (fit-drop W S v f)))

-- the counts that e erases and q programs come to
abbrev pub counted : Job → ℕ → ℕ → Tally
counted j e q = tally e q (e * N j 1 + q * N j 0) (j.count + j.count - e * j.size) (e + q) ((e * N j 1 + q * N j 0) * j.p + (e + q) * confirm_after)

-- the cells after operations, and the bill of them
abbrev pub billed_at : Job → List Operation → List ℕ → Loaded
billed_at j os after =
    record { cells = after; bill = bill_of j (counted j (many 1 os) (many 0 os)) (sum_of (row_of j.part).width (take j.count (drop j.first after))) 0 }

abbrev pub reckoned_by : Job → List ℕ → List Operation → Loaded
reckoned_by j cells os = billed_at j os (complete_all (row_of j.part) os cells)

-- so a job is reckoned
abbrev pub reckoned : Job → List ℕ → List ℕ → Loaded
reckoned j image cells = reckoned_by j cells (deciding_all j j.first (j.count / j.size) (drop j.first cells) image)

module _ (part : ℕ) (cells : List ℕ) (first : ℕ) (image : List ℕ) (wp : Bool) (p : ℕ) (accepted : job_refusal part (length cells) first image wp p ≡ 0) where
  abbrev j : Job
  j = job_from part first (length image) wp p

  abbrev os : List Operation
  os = operations_of j image cells

  counts-are : tally_of (sent_of j image cells) ≡ counted j (many 1 os) (many 0 os)
  counts-are =
      let w = ok part cells first image wp p accepted in
      let s = held-counts j image w.right cells w.whole in
      let f = job-fair j image w.right cells w.whole in
      rw (← s.erases, ← s.programs) (same (tally_of (sent_of j image cells)) f.polls f.spent f.confirms f.scans)
    where
      same : (t : Tally) → t.polls ≡ t.erases * N j 1 + t.programs * N j 0 → t.time ≡ t.polls * j.p + t.confirms * confirm_after → t.confirms ≡ t.erases + t.programs
          → t.scans + t.erases * j.size ≡ j.count + j.count → t ≡ counted j t.erases t.programs
      same t a b c d =
          let e : t.scans ≡ j.count + j.count - t.erases * j.size = omega arith in
          rw (← e, ← a, ← c, ← b)

  by-operations : load_of part cells first image wp p ≡ reckoned_by j cells os
  unfolding load_of
  by-operations =
      let w = ok part cells first image wp p accepted in
      rw (eq-eqb (job_refusal part (length cells) first image wp p) 0 accepted, tally-is part cells first image wp p accepted, counts-are, cells_left j image w.right cells w.whole)

  pub loads : load_of part cells first image wp p ≡ reckoned j image cells
  loads = by-operations ∙ ap (reckoned_by j cells) (decides j (j.count / j.size) first (drop first cells) image (ok part cells first image wp p accepted).right.fits)
