-- The job's operations: what they take, and what they leave.
use mathlib.Core.Path.{◌≡◌, refl, sym, ap, ap₂, ◌∙◌}
use mathlib.Core.Bool.{Bool, true, false}
use mathlib.Core.List.{List, [], ◌∷◌, ◌++◌, map, map-append, append_assoc}
use Prim.Native.Nat.{ℕ, zero, suc, ◌+◌, ◌*◌, ◌≤◌}
use native.Mathlib.Nat.{zero-mul}
use native.Mathlib.Omega.{arith}
use lib.Bits.{bit_and}
use lib.ListN.{length, take, drop, length-map, length-drop, length-append, take-append-drop}
use lib.Seq.{take_at, drop_at, set_at, get_or_at, drop-drop, length-take-le}
use Rattle.parts.specs.Pick.{pick}
use Rattle.parts.specs.Width.{blank_of, value_of}
use Rattle.parts.proofs.Values.{value-value}
use Rattle.parts.proofs.Every.{split}
use Rattle.least.specs.Operations.{Op, Program, programmed, blanks, erased, operate, operate_all, cost_all}
use Rattle.least.specs.LeastTime.{differs, rises, rising, differing, sector_time, sectors_time}
use Rattle.least.specs.Job.{programs, sector_ops, sectors_ops, job_ops, after_job}
use Rattle.least.proofs.Lists.{drop-next, map_same}
use Rattle.least.proofs.Cell.{one-zero, same-value}
use Rattle.least.proofs.Sector.{choose, rising-blanks, sector-clear, sector-erase}

-- ---- what they take: a program for each value that differs, and so a sector's time, sector by sector
module _ (tp te : ℕ) where
  cost_all-append : (a b : List Op) → cost_all tp te (a ++ b) ≡ cost_all tp te a + cost_all tp te b
  cost_all-append [] b = omega arith
  cost_all-append (op ∷ a) b = omega (arith, cost_all-append a b)

module _ (w S tp te : ℕ) where
  programs-cost : (l v : List ℕ) (a : ℕ) → cost_all tp te (programs w a l v) ≡ differing w l v * tp
  programs-cost [] v a = omega arith
  programs-cost (o ∷ l) [] a = omega arith
  programs-cost (o ∷ l) (x ∷ v) a = go (differs w o x) (programs-cost l v (suc a))
    where
      go : (t : Bool) → cost_all tp te (programs w (suc a) l v) ≡ differing w l v * tp
          → cost_all tp te (pick t (Program a x ∷ []) [] ++ programs w (suc a) l v) ≡ (pick t 1 0 + differing w l v) * tp
      go true e = omega arith
      go false e = omega arith

  sector-cost : (s : ℕ) (l v : List ℕ) → cost_all tp te (sector_ops w S s l v) ≡ sector_time w tp te l v
  unfolding sector_ops
  sector-cost s l v =
      choose (λ ops. cost_all tp te ops ≡ sector_time w tp te l v) (rising w l v) _ _
      (λ r. omega (arith, programs-cost (blanks w v) v (s * S), sector-erase w tp te l v r))
      (λ r. programs-cost l v (s * S) ∙ sym (sector-clear w tp te l v r))

  pub sectors-cost : (n s : ℕ) (l v : List ℕ) → cost_all tp te (sectors_ops w S s n l v) ≡ sectors_time w S tp te n l v
  sectors-cost zero s l v = refl
  sectors-cost (suc n) s l v =
      cost_all-append tp te (sector_ops w S s (take S l) (take S v)) (sectors_ops w S (suc s) n (drop S l) (drop S v))
      ∙ ap₂ (λ (x y : ℕ). x + y) (sector-cost s (take S l) (take S v)) (sectors-cost n (suc s) (drop S l) (drop S v))

-- ---- what they leave
module _ (w S : ℕ) where
  -- the operations turn the cells into p, some cells with v's values, and q
  pub record Leaves (ops : List Op) (cells p v q : List ℕ) : Type 0 where
    pub found : List ℕ
    pub values : map (value_of w) found ≡ map (value_of w) v
    pub ends : operate_all w S ops cells ≡ p ++ (found ++ q)

  operate_all-append : (a b : List Op) (l : List ℕ) → operate_all w S (a ++ b) l ≡ operate_all w S b (operate_all w S a l)
  operate_all-append [] b l = refl
  operate_all-append (op ∷ a) b l = operate_all-append a b (operate w S op l)

  -- of which there are as many
  pub found-length : {ops : List Op} {cells p v q : List ℕ} (k : Leaves ops cells p v q) → length k.found ≡ length v
  found-length {v = v} k = sym (length-map k.found (value_of w)) ∙ ap length k.values ∙ length-map v (value_of w)

  -- operations that go on where others ended
  go_on : {a b : List Op} {cells p v r v' q u : List ℕ} → v ++ v' ≡ u → (k : Leaves a cells p v r)
      → Leaves b ((p ++ k.found) ++ r) (p ++ k.found) v' q → Leaves (a ++ b) cells p u q
  go_on {a} {b} {cells} {p} {v} {r} {v'} {q} {u} e k j =
      record {
        found = k.found ++ j.found;
        values = rw (← e) (simp map-append (cc (k.values, j.values)));
        ends = operate_all-append a b cells ∙ ap (operate_all w S b) (k.ends ∙ sym (append_assoc p k.found r)) ∙ j.ends ∙ simp append_assoc;
      }

  -- one cell
  program-run : (o x a : ℕ) (p q : List ℕ) → length p ≡ a → rises w o x ≡ false
      → Leaves (pick (differs w o x) (Program a x ∷ []) []) (p ++ o ∷ q) p (x ∷ []) q
  program-run o x a p q e r =
      split (λ ops. Leaves ops (p ++ o ∷ q) p (x ∷ []) q) (differs w o x) _ _
      (λ d. record {
        found = programmed w o x ∷ [];
        values = ap (λ (y : ℕ). y ∷ []) (value-value w (bit_and o x) ∙ same-value w (bit_and o x) x r);
        ends = set_at p o q _ a e ∙ ap (λ (y : ℕ). p ++ programmed w y x ∷ q) (get_or_at p o q 0 a e);
      })
      (λ d. record { found = o ∷ []; values = ap (λ (y : ℕ). y ∷ []) (same-value w o x d); ends = refl })

  -- the programs of a stretch in which nothing must rise
  programs-run : (l v : List ℕ) (a : ℕ) (p q : List ℕ) → length p ≡ a → length l ≡ length v → rising w l v ≡ 0
      → Leaves (programs w a l v) (p ++ (l ++ q)) p v q
  programs-run [] [] a p q e k r = record { found = []; values = refl; ends = refl }
  programs-run [] (x ∷ v) a p q e k r = absurd (omega arith)
  programs-run (o ∷ l) [] a p q e k r = absurd (omega arith)
  programs-run (o ∷ l) (x ∷ v) a p q e k r =
      let first = program-run o x a p (l ++ q) e (one-zero (rises w o x) (omega arith)) in
      let far : length (p ++ first.found) ≡ suc a = length-append p first.found ∙ omega (arith, found-length first) in
      go_on refl first (programs-run l v (suc a) (p ++ first.found) q far (omega arith) (omega arith))

  -- the cells between p and q erased
  erased-at : (a c : ℕ) (l p q : List ℕ) → length p ≡ a → length l ≡ c → erased w a c (p ++ (l ++ q)) ≡ p ++ (blanks w l ++ q)
  unfolding erased
  erased-at a c l p q e k =
      rw (← drop-drop c a (p ++ (l ++ q)), take_at p (l ++ q) a e, drop_at p (l ++ q) a e, take_at l q c k, drop_at l q c k)

  -- one sector
  sector-run : (s : ℕ) (l v p q : List ℕ) → length p ≡ s * S → length l ≡ S → length v ≡ S
      → Leaves (sector_ops w S s l v) (p ++ (l ++ q)) p v q
  unfolding sector_ops
  sector-run s l v p q e k j =
      choose (λ ops. Leaves ops (p ++ (l ++ q)) p v q) (rising w l v) _ _
      (λ r.
      let blank : erased w (s * S) S (p ++ (l ++ q)) ≡ p ++ (blanks w v ++ q) =
      rw (map_same (blank_of w) l v (k ∙ sym j)) at (erased-at (s * S) S l p q e k)
      in
      let after = programs-run (blanks w v) v (s * S) p q e (length-map v (λ x. blank_of w)) (rising-blanks w v v) in
      record {
        found = after.found;
        values = after.values;
        ends = ap (operate_all w S (programs w (s * S) (blanks w v) v)) blank ∙ after.ends;
      })
      (λ r. programs-run l v (s * S) p q e (omega arith) r)

  -- the job stands at sector s: p are the cells before it, l those from it on, and v the image of the n sectors that are left
  pub record Stands (n s : ℕ) (l v p : List ℕ) : Type 0 where
    pub before : length p ≡ s * S
    pub cells : n * S ≤ length l
    pub image : length v ≡ n * S

  -- its next sector, after which it stands one sector on
  first_run : {n s : ℕ} {l v p : List ℕ} → Stands (suc n) s l v p
      → Leaves (sector_ops w S s (take S l) (take S v)) (p ++ l) p (take S v) (drop S l)
  first_run {n} {s} {l} {v} {p} h =
      let k : length (take S l) ≡ S = length-take-le S l (omega arith) in
      let j : length (take S v) ≡ S = length-take-le S v (omega arith) in
      rw (take-append-drop S l) at (sector-run s (take S l) (take S v) p (drop S l) h.before k j)

  step-on : {n s : ℕ} {l v p : List ℕ} (h : Stands (suc n) s l v p) → Stands n (suc s) (drop S l) (drop S v) (p ++ (first_run h).found)
  step-on {n} {s} {l} {v} {p} h =
      record {
        before = length-append p (first_run h).found ∙ omega (arith, found-length (first_run h), length-take-le S v (omega arith));
        cells = rw length-drop (omega arith);
        image = rw length-drop (omega arith);
      }

  -- all its sectors
  pub sectors-run : (n : ℕ) {s : ℕ} {l v p : List ℕ} → Stands n s l v p → Leaves (sectors_ops w S s n l v) (p ++ l) p v (drop (n * S) l)
  sectors-run zero {v = []} h = record { found = []; values = refl; ends = rw (zero-mul S) }
  sectors-run zero {v = x ∷ v} h = absurd (omega arith)
  sectors-run (suc n) {l = l} {v = v} h =
      rw (drop-next S n l) (go_on (take-append-drop S v) (first_run h) (sectors-run n (step-on h)))

-- ---- the job on the n sectors from sector f on
module _ (w S f n : ℕ) (cells image : List ℕ) (inside : (f + n) * S ≤ length cells) (whole : length image ≡ n * S) where
  pub start : Stands w S n f (drop (f * S) cells) image (take (f * S) cells)
  start = record { before = length-take-le (f * S) cells (omega arith); cells = rw length-drop (omega arith); image = whole }

  pub job-run : Leaves w S (job_ops w S f n cells image) cells (take (f * S) cells) image (drop ((f + n) * S) cells)
  job-run =
      let e : f * S + n * S ≡ (f + n) * S = omega arith in
      rw (take-append-drop (f * S) cells, drop-drop (n * S) (f * S) cells, e) at (sectors-run w S n start)

  -- it begins and ends as it did
  pub job-begins : take (f * S) (after_job w S f n cells image) ≡ take (f * S) cells
  job-begins = rw job-run.ends (take_at (take (f * S) cells) _ (f * S) start.before)

  pub job-ends : drop ((f + n) * S) (after_job w S f n cells image) ≡ drop ((f + n) * S) cells
  job-ends =
      let p = take (f * S) cells in
      let m = job-run.found in
      let e : length (p ++ m) ≡ (f + n) * S = length-append p m ∙ omega (arith, found-length w S job-run, start.before) in
      rw (job-run.ends, ← append_assoc p m) (drop_at (p ++ m) (drop ((f + n) * S) cells) ((f + n) * S) e)
