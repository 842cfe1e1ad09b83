-- What a file asks for, as the functions come to it: where it is refused, how many values it has, and the job of these.
use mathlib.Core.Path.{◌≡◌, refl, sym, ap, ◌∙◌}
use mathlib.Core.Bool.{Bool, true, false, not}
use mathlib.Core.List.{List, [], ◌∷◌}
use Prim.Native.Nat.{ℕ, zero, suc, ◌≤◌, ◌<◌}
use native.Mathlib.Nat.{le_of_suc-le-suc}
use native.Mathlib.Omega.{arith}
use borrow.Author.Tests.{lt-ltb, le-ltb}
use lib.Dec.{eqb}
use lib.ListN.{length, get_or}
use Rattle.std.proofs.lemmas.List.{length-replicate}
use Rattle.parts.specs.Pick.{pick}
use Rattle.parts.specs.Table.{row_of, row_from, no_line, lines, part_refusal}
use Rattle.parts.specs.declared.table.Line.{Line}
use Rattle.parts.proofs.Every.{apart, every, at}
use Rattle.request.specs.Refusal.{job_refusal}
use Rattle.job.specs.declared.bill.Bill.{Bill}
use Rattle.job.specs.Bill.{load_of, refused_bill}
use Rattle.jobfile.specs.declared.trailer.JobFile.{JobFile}
use Rattle.jobfile.specs.JobFile.{malformed, job_of, values_of}
use Rattle.jobfile.proofs.Accepted.{is-sound, answer-of, image-ends}
use Rattle.billing.specs.File.{blank_bench, bill_of_job, bill_of_file}

-- a job of the values that a file holds
pub of_values : (file : List ℕ) (j : JobFile) (room image : List ℕ) (b : Bill) → length room ≡ j.count → image ≡ values_of file j.start (length room)
    → b ≡ (load_of j.part blank_bench j.first image j.wp j.p).bill → b ≡ bill_of_job file j
of_values file j room image b n v h =
    h ∙ ap (λ (l : List ℕ). (load_of j.part blank_bench j.first l j.wp j.p).bill) (v ∙ ap (λ (k : ℕ). values_of file j.start k) n)

-- ---- a job of another part than the bench part
negated : (b : Bool) → not b ≡ true → b ≡ false
negated true e = apart e
negated false e = refl

-- a test of the rows but the first
abbrev past-first : List Line → Bool
past-first [] = true
past-first (l ∷ ls) = every (λ (l : Line). not (eqb 8192 (row_from l).cells)) ls

later : (ls : List Line) → past-first ls ≡ true → (n : ℕ) → suc n < length ls → eqb 8192 (row_from (get_or ls (suc n) no_line)).cells ≡ false
later [] e n h = absurd (omega arith)
later (l ∷ ls) e n h = negated _ (at (λ (l : Line). not (eqb 8192 (row_from l).cells)) ls no_line e n (le_of_suc-le-suc h))

-- has other cells
other-cells : (part : ℕ) → 0 < part → part ≤ 10 → eqb 8192 (row_of part).cells ≡ false
unfolding row_of
other-cells zero h k = absurd (omega arith)
other-cells (suc n) h k = later lines refl n (omega arith)

-- a refused job's bill
refused : (part first : ℕ) (image : List ℕ) (wp : Bool) (p n : ℕ) → eqb n 0 ≡ false → job_refusal part (length blank_bench) first image wp p ≡ n
    → (load_of part blank_bench first image wp p).bill ≡ refused_bill n
unfolding load_of
refused part first image wp p n z e = rw (e, z) refl

unknown-job : (part lent first : ℕ) (image : List ℕ) (wp : Bool) (p : ℕ) → 10 < part → job_refusal part lent first image wp p ≡ 1
unfolding job_refusal part_refusal
unknown-job part lent first image wp p h = simp (lt-ltb _ _ h)

other-job : (part lent first : ℕ) (image : List ℕ) (wp : Bool) (p : ℕ) → lent ≡ 8192 → 0 < part → part ≤ 10 → job_refusal part lent first image wp p ≡ 2
unfolding job_refusal part_refusal
other-job part lent first image wp p l h k = simp (le-ltb _ _ k, l, other-cells part h k)

-- ---- where a file is refused
by_answer : (b : Bool) → 0 < pick {A = ℕ} b 13 0 → b ≡ true
by_answer true h = refl
by_answer false h = absurd (omega arith)

by-none : (b : Bool) → pick {A = ℕ} b 13 0 ≤ 0 → b ≡ false
by-none true h = absurd (omega arith)
by-none false h = refl

pub too_long : (file : List ℕ) → 20480 < length file → bill_of_file file ≡ refused_bill 13
unfolding bill_of_file
too_long file h = simp (lt-ltb _ _ h)

-- of a file that is not too long, and what it asks for
module _ (file : List ℕ) (j : JobFile) (asked : j ≡ job_of file) (short : length file ≤ 20480) where
  answered : j.answer ≡ pick (malformed file) 13 0
  answered = ap (λ (k : JobFile). k.answer) asked ∙ answer-of file

  pub wrong-file : 0 < j.answer → bill_of_file file ≡ refused_bill 13
  unfolding bill_of_file
  wrong-file h = simp (le-ltb _ _ short, by_answer (malformed file) (omega (arith, answered)))

  good : j.answer ≤ 0 → malformed file ≡ false
  good h = by-none (malformed file) (omega (arith, answered))

  pub right-file : j.answer ≤ 0 → bill_of_file file ≡ bill_of_job file j
  unfolding bill_of_file
  right-file h = simp (le-ltb _ _ short, good h) (ap (λ (k : JobFile). bill_of_job file k) (sym asked))

  -- it has at most 10,232 values
  pub few-values : j.answer ≤ 0 → j.count ≤ 10240
  few-values h = omega (arith, image-ends file (is-sound file (good h)), ap (λ (k : JobFile). k.count) asked)

  -- of a part that is none, and of one that is not the bench part
  pub no-part : j.answer ≤ 0 → 10 < j.part → bill_of_file file ≡ refused_bill 1
  no-part h k = right-file h ∙ refused j.part j.first (values_of file j.start j.count) j.wp j.p 1 refl (unknown-job j.part _ j.first _ j.wp j.p k)

  pub other-part : j.answer ≤ 0 → 0 < j.part → j.part ≤ 10 → bill_of_file file ≡ refused_bill 2
  other-part h k l = right-file h ∙ refused j.part j.first (values_of file j.start j.count) j.wp j.p 2 refl (other-job j.part _ j.first _ j.wp j.p (length-replicate {A = ℕ} 8192 0xffff) k l)

pub ruleset files = (too_long, wrong-file, right-file, few-values, no-part, other-part)
