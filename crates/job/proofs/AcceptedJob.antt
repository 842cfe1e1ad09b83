-- A job that was not refused: what is known of it.
use Prim.Native.Nat.{ℕ, ◌+◌, ◌%◌, ◌≤◌, ◌<◌}
use mathlib.Core.Path.{◌≡◌, refl}
use mathlib.Core.Bool.{true, false}
use mathlib.Core.List.{List}
use native.Mathlib.Omega.{arith}
use lib.ListN.{length, get_or}
use Rattle.parts.specs.Width.{sector_size}
use Rattle.parts.specs.Table.{row_of, part_refusal}
use Rattle.parts.specs.Time.{has_command}
use Rattle.device.specs.Sequence.{ignored}
use Rattle.driver.specs.Refusals.{start_refusal}
use Rattle.driver.proofs.Asked.{beginning}
use Rattle.job.specs.declared.loader.Job.{Job}
use Rattle.values.specs.Fit.{fit_all}
use Rattle.values.proofs.Places.{fit_at}

pub record AcceptedJob (j : Job) (image : List ℕ) : Type 0 where
  pub known : part_refusal j.part ≡ 0
  pub row : j.row ≡ row_of j.part
  pub size : j.size ≡ sector_size (row_of j.part).width
  pub count : j.count ≡ length image
  pub range : j.first + j.count ≤ (row_of j.part).cells
  pub aligned : j.first % j.size ≡ 0
  pub whole : j.count % j.size ≡ 0
  pub fits : fit_all (row_of j.part).width image ≡ true
  pub some : 0 < j.p
  pub most : j.p ≤ 1000
  -- WP# protects no cell of the range from a program or a sector erase
  pub heeded : (command a : ℕ) → command ≤ 1 → j.first ≤ a → a < j.first + j.count → ignored (row_of j.part) j.wp command a ≡ false

-- the driver of a sector erase starts
pub erase-begins : (part a p : ℕ) → part_refusal part ≡ 0 → a < (row_of part).cells → 0 < p → p ≤ 1000 → start_refusal part 1 a 0 p ≡ 0
unfolding has_command
erase-begins part a p k t s m =
    beginning part 1 a 0 p
    (record { asked = record { known = k; target = record { has = refl; there = λ _. t; fits = λ e. absurd (omega arith) } }; some = s; most = m })

module _ (j : Job) (image : List ℕ) (R : AcceptedJob j image) where
  -- the driver of a program of a value of the image, and of a sector erase, starts
  pub program-starts : (a k : ℕ) → a < (row_of j.part).cells → k < length image → start_refusal j.part 0 a (get_or image k 0) j.p ≡ 0
  unfolding has_command
  program-starts a k t h =
      beginning j.part 0 a (get_or image k 0) j.p
      (record { asked = record { known = R.known; target = record { has = refl; there = λ _. t; fits = λ _. fit_at (row_of j.part).width image R.fits k h } }; some = R.some; most = R.most })

  pub erase-starts : (a : ℕ) → a < (row_of j.part).cells → start_refusal j.part 1 a 0 j.p ≡ 0
  erase-starts a t = erase-begins j.part a j.p R.known t R.some R.most
