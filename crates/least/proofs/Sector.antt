-- One sector: its counts, and that an operation lowers its time by no more than the operation takes.
use mathlib.Core.Path.{◌≡◌, refl, ap, ◌∙◌}
use mathlib.Core.Bool.{Bool, true, false}
use mathlib.Core.List.{List, [], ◌∷◌}
use Prim.Native.Nat.{ℕ, zero, suc, ◌+◌, ◌*◌, ◌≤◌, ◌<◌, zero-le, suc-le-suc}
use native.Mathlib.Nat.{mul-le-mul_right, zero-lt-suc, zero-mul}
use native.Mathlib.Omega.{arith}
use lib.Dec.{ltb}
use lib.ListN.{length, get_or, set, take}
use borrow.Author.Tests.{ltb-true, ltb-false, lt-ltb}
use Rattle.parts.specs.Pick.{pick}
use Rattle.parts.specs.Width.{value_of}
use Rattle.parts.proofs.Every.{split}
use Rattle.least.specs.Operations.{programmed, blanks}
use Rattle.least.specs.LeastTime.{count, differs, rises, rising, differing, non_blank, sector_time}
use Rattle.least.proofs.Cell.{one-le, one-mono, no_difference, rises-program, rises-blank, rises-same, differs-blank}

-- a choice by whether a bit must rise
pub choose : {A : Type 0} (P : A → Type 0) (r : ℕ) (x y : A) → (0 < r → P x) → (r ≡ 0 → P y) → P (pick (ltb 0 r) x y)
choose P r x y f g = split P (ltb 0 r) x y (λ e. f (ltb-true 0 r e)) (λ e. g (omega (arith, ltb-false 0 r e)))

-- ---- counts

-- one cell is replaced
count_set : (test : ℕ → ℕ → Bool) (c y : ℕ) (l v : List ℕ) (a : ℕ)
    → ((x : ℕ) → pick (test (get_or l a 0) x) 1 0 ≤ pick (test y x) 1 0 + c) → count test l v ≤ count test (set l a y) v + c
count_set test c y [] v a h = zero-le
count_set test c y (o ∷ l) [] zero h = zero-le
count_set test c y (o ∷ l) [] (suc a) h = zero-le
count_set test c y (o ∷ l) (x ∷ v) zero h = omega (arith, h x)
count_set test c y (o ∷ l) (x ∷ v) (suc a) h = omega (arith, count_set test c y l v a h)

-- the test holds at none of the first n positions
pub count_none : (test : ℕ → ℕ → Bool) (n : ℕ) (l v : List ℕ)
    → ((i : ℕ) → i < n → test (get_or l i 0) (get_or v i 0) ≡ false) → count test (take n l) (take n v) ≡ 0
count_none test zero l v h = refl
count_none test (suc n) [] v h = refl
count_none test (suc n) (o ∷ l) [] h = refl
count_none test (suc n) (o ∷ l) (x ∷ v) h =
    rw (h 0 (zero-lt-suc n)) (omega (arith, count_none test n l v (λ i k. h (suc i) (suc-le-suc k))))

-- the test holds at one of them
pub count-some : (test : ℕ → ℕ → Bool) (n i : ℕ) (l v : List ℕ) → n ≤ length l → n ≤ length v → i < n
    → test (get_or l i 0) (get_or v i 0) ≡ true → 0 < count test (take n l) (take n v)
count-some test zero i l v a b h t = absurd (omega arith)
count-some test (suc n) i [] v a b h t = absurd (omega arith)
count-some test (suc n) i (o ∷ l) [] a b h t = absurd (omega arith)
count-some test (suc n) zero (o ∷ l) (x ∷ v) a b h t = rw t (omega arith)
count-some test (suc n) (suc i) (o ∷ l) (x ∷ v) a b h t = omega (arith, count-some test n i l v (omega arith) (omega arith) (omega arith) t)

module _ (w : ℕ) where
  -- in an erased sector nothing must rise
  pub rising-blanks : (l v : List ℕ) → rising w (blanks w l) v ≡ 0
  rising-blanks [] v = refl
  rising-blanks (o ∷ l) [] = refl
  rising-blanks (o ∷ l) (x ∷ v) = rw (rises-blank w x) (omega (arith, rising-blanks l v))

  -- and what differs is what is not blank
  differing-blanks : (l v : List ℕ) → length v ≤ length l → differing w (blanks w l) v ≡ non_blank w v
  differing-blanks [] [] h = refl
  differing-blanks [] (x ∷ v) h = absurd (omega arith)
  differing-blanks (o ∷ l) [] h = refl
  differing-blanks (o ∷ l) (x ∷ v) h = omega (arith, differing-blanks l v (omega arith))

  -- a value that differs is not blank, or must rise
  differing-le : (l v : List ℕ) → differing w l v ≤ non_blank w v + rising w l v
  differing-le [] v = zero-le
  differing-le (o ∷ l) [] = zero-le
  differing-le (o ∷ l) (x ∷ v) = omega (arith, differing-le l v, one-mono _ _ _ (differs-blank w o x))

module _ (w tp te : ℕ) where
  -- the time by cases: where nothing must rise, and where something must
  pub sector-clear : (l v : List ℕ) → rising w l v ≡ 0 → sector_time w tp te l v ≡ differing w l v * tp
  unfolding sector_time
  sector-clear l v e = rw e

  pub sector-erase : (l v : List ℕ) → 0 < rising w l v → sector_time w tp te l v ≡ te + non_blank w v * tp
  unfolding sector_time
  sector-erase l v h = rw (lt-ltb 0 (rising w l v) h)

  -- nothing is to be done where each value is the image's
  pub sector-done : (S : ℕ) (l v : List ℕ) → ((i : ℕ) → i < S → value_of w (get_or l i 0) ≡ value_of w (get_or v i 0))
      → sector_time w tp te (take S l) (take S v) ≡ 0
  sector-done S l v h =
      sector-clear (take S l) (take S v) (count_none (rises w) S l v (λ i k. rises-same w _ _ (h i k)))
      ∙ ap (λ (d : ℕ). d * tp) (count_none (differs w) S l v (λ i k. no_difference w _ _ (h i k))) ∙ zero-mul tp

  -- an erase and a program for each value that is not blank is always enough
  sector-most : (l v : List ℕ) → sector_time w tp te l v ≤ te + non_blank w v * tp
  unfolding sector_time
  sector-most l v =
      choose (λ t. t ≤ te + non_blank w v * tp) (rising w l v) _ _ (λ r. omega arith)
      (λ r. let few : differing w l v ≤ non_blank w v = omega (arith, differing-le w l v) in omega (arith, mul-le-mul_right tp few))

  -- a program lowers the time by no more than tp
  pub sector-program : (l v : List ℕ) (a d : ℕ)
      → sector_time w tp te l v ≤ sector_time w tp te (set l a (programmed w (get_or l a 0) d)) v + tp
  unfolding sector_time
  sector-program l v a d =
      let o = get_or l a 0 in
      let m = set l a (programmed w o d) in
      let up : rising w l v ≤ rising w m v + 0 = count_set (rises w) 0 _ l v a (λ x. one-mono _ _ false (λ e z. rises-program w o d x e)) in
      let down : differing w l v ≤ differing w m v + 1 = count_set (differs w) 1 _ l v a (λ x. omega (arith, one-le (differs w o x))) in
      choose (λ t. sector_time w tp te l v ≤ t + tp) (rising w m v) _ _
      (λ s. omega (arith, sector-most l v))
      (λ s. rw (sector-clear l v (omega arith)) (omega (arith, mul-le-mul_right tp down)))

  -- and an erase by no more than te
  pub sector-blanks : (l v : List ℕ) → length v ≤ length l → sector_time w tp te l v ≤ sector_time w tp te (blanks w l) v + te
  sector-blanks l v h =
      rw (sector-clear (blanks w l) v (rising-blanks w l v), differing-blanks w l v h) (omega (arith, sector-most l v))
