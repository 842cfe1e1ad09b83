-- The range: an operation lowers its least time by no more than the operation takes, and where the range holds the image it is 0.
use mathlib.Core.Path.{◌≡◌, refl, sym, ap, ap₂, ◌∙◌}
use Prim.Native.Nat.{ℕ, zero, suc, ◌+◌, ◌-◌, ◌*◌, ◌≤◌, ◌<◌, zero-le}
use native.Mathlib.Nat.{zero-mul, zero-add}
use native.Mathlib.Omega.{arith}
use native.Mathlib.Decide.{dec_lt}
use mathlib.Core.List.{List, [], ◌∷◌, ◌++◌, append_assoc}
use lib.ListN.{length, get_or, set, take, drop, length-set, length-map, length-take, length-drop, length-append, take-append-drop}
use lib.Seq.{take_at, drop_at, take-set-le, take-set-lt, drop-set-lt, drop-set-add, get_or-drop, get_or-take, drop-drop, take-add, length-take-le}
use Rattle.parts.specs.Width.{blank_of, value_of}
use Rattle.least.specs.Operations.{Op, Program, Erase, programmed, blanks, erased, operate, operate_all, Holds, cost, cost_all}
use Rattle.least.specs.LeastTime.{sector_time, sectors_time, least_time}
use Rattle.least.proofs.Lists.{drop-next}
use Rattle.least.proofs.Sector.{sector-done, sector-program, sector-blanks}

-- what is erased after the first k cells
erased-onward : (w k a c : ℕ) (l : List ℕ) → erased w (k + a) c l ≡ take k l ++ erased w a c (drop k l)
unfolding erased
erased-onward w k a c l =
    let e : k + a + c ≡ k + (a + c) = omega arith in
    rw (e, drop-drop a k l, drop-drop (a + c) k l, take-add) (simp append_assoc)

module _ (w S : ℕ) where
  -- no operation changes the number of cells
  pub operate-length : (op : Op) (l : List ℕ) → length (operate w S op l) ≡ length l
  unfolding erased
  operate-length (Program a d) l = length-set l a _
  operate-length (Erase s) l = simp (length-append, length-map, length-take, length-drop) (omega arith)

  pub operate_all-length : (ops : List Op) (l : List ℕ) → length (operate_all w S ops l) ≡ length l
  operate_all-length [] l = refl
  operate_all-length (op ∷ ops) l = operate_all-length ops (operate w S op l) ∙ operate-length op l

  -- the same operation one sector on
  abbrev onward : Op → Op
  onward (Program a d) = Program (S + a) d
  onward (Erase s) = Erase (suc s)

  -- it leaves the first sector, and does to the rest what the operation does
  operate-onward : (op : Op) (l : List ℕ) → operate w S (onward op) l ≡ take S l ++ operate w S op (drop S l)
  operate-onward (Program a d) l =
      sym (take-append-drop S _)
      ∙ ap₂ (λ (p q : List ℕ). p ++ q) (take-set-le S l (S + a) _ (omega arith))
      (drop-set-add S l a _ ∙ ap (λ (o : ℕ). set (drop S l) a (programmed w o d)) (sym (get_or-drop S l a 0)))
  operate-onward (Erase s) l =
      let e : suc s * S ≡ S + s * S = omega arith in
      rw e (erased-onward w S (s * S) _ l)

module _ (w S tp te : ℕ) where
  -- an operation on the first sector: it leaves the rest, and lowers the sector's time by no more than it takes
  abbrev First : Op → List ℕ → List ℕ → Type 0
  First op l v =
      (drop S (operate w S op l) ≡ drop S l)
      × (sector_time w tp te (take S l) (take S v) ≤ sector_time w tp te (take S (operate w S op l)) (take S v) + cost tp te op)

  first-program : (a d : ℕ) (l v : List ℕ) → a < S → First (Program a d) l v
  first-program a d l v h =
      (drop-set-lt S l a _ h, rw (take-set-lt S l a _ h, ← get_or-take S l a 0 h) (sector-program w tp te (take S l) (take S v) a d))

  first-erase : (l v : List ℕ) → S ≤ length l → First (Erase 0) l v
  unfolding erased
  first-erase l v h =
      let k : length (take S l) ≡ S = length-take-le S l h in
      let b : length (blanks w (take S l)) ≡ S = length-map (take S l) (λ o. blank_of w) ∙ k in
      let e : operate w S (Erase 0) l ≡ blanks w (take S l) ++ drop S l = rw (zero-mul S, zero-add S) in (
        ap (drop S) e ∙ drop_at (blanks w (take S l)) (drop S l) S b,
        rw (e, take_at (blanks w (take S l)) (drop S l) S b) (sector-blanks w tp te (take S l) (take S v) (omega (arith, k, length-take S v))),
      )

  -- every operation is on the first sector, or one sector on
  by_place : (P : Op → Type 0) (l v : List ℕ) → S ≤ length l
      → ((op : Op) → First op l v → P op) → ((op : Op) → P (onward w S op)) → (op : Op) → P op
  by_place P l v h here later (Erase zero) = here (Erase 0) (first-erase l v h)
  by_place P l v h here later (Erase (suc s)) = later (Erase s)
  by_place P l v h here later (Program a d) = go (dec_lt a S)
    where
      go : Dec (a < S) → P (Program a d)
      go (yes k) = here (Program a d) (first-program a d l v k)
      go (no k) = let e : S + (a - S) ≡ a = omega arith in rw e at (later (Program (a - S) d))

  -- what an operation one sector on does to the first sector and to the rest, and what it takes
  module _ (op : Op) (l : List ℕ) (h : S ≤ length l) where
    onward-first : take S (operate w S (onward w S op) l) ≡ take S l
    onward-first = rw (operate-onward w S op l) (take_at (take S l) (operate w S op (drop S l)) S (length-take-le S l h))

    onward-rest : drop S (operate w S (onward w S op) l) ≡ operate w S op (drop S l)
    onward-rest = rw (operate-onward w S op l) (drop_at (take S l) (operate w S op (drop S l)) S (length-take-le S l h))

  onward-cost : (op : Op) → cost tp te (onward w S op) ≡ cost tp te op
  onward-cost (Program a d) = refl
  onward-cost (Erase s) = refl

  -- the first sector's time apart; and a range that does not begin with it
  least_first : (n : ℕ) (l v : List ℕ)
      → least_time w S tp te 0 (suc n) l v ≡ sector_time w tp te (take S l) (take S v) + least_time w S tp te 0 n (drop S l) (drop S v)
  least_first n l v = rw (zero-mul S)

  least-rest : (f n : ℕ) (l v : List ℕ) → least_time w S tp te (suc f) n l v ≡ least_time w S tp te f n (drop S l) v
  least-rest f n l v = rw (drop-next S f l)

  -- an operation lowers the least time by no more than it takes
  abbrev Lowers : ℕ → ℕ → List ℕ → List ℕ → Op → Type 0
  Lowers f n l v op = least_time w S tp te f n l v ≤ least_time w S tp te f n (operate w S op l) v + cost tp te op

  least_step : (f n : ℕ) (op : Op) (l v : List ℕ) → (f + n) * S ≤ length l → Lowers f n l v op
  least_step zero zero op l v h = zero-le
  least_step zero (suc n) op l v h =
      let k : S ≤ length l = omega arith in
      by_place (Lowers 0 (suc n) l v) l v k
      (λ o e. rw (least_first n l v, least_first n (operate w S o l) v, e.0) (omega (arith, e.1)))
      (λ o. rw (least_first n l v, least_first n (operate w S (onward w S o) l) v, onward-first o l k, onward-rest o l k, onward-cost o)
      (omega (arith, least_step zero n o (drop S l) (drop S v) (rw length-drop (omega arith)))))
      op
  least_step (suc f) n op l v h =
      let k : S ≤ length l = omega arith in
      by_place (Lowers (suc f) n l v) l v k
      (λ o e. rw (least-rest f n l v, least-rest f n (operate w S o l) v, e.0) (omega arith))
      (λ o. rw (least-rest f n l v, least-rest f n (operate w S (onward w S o) l) v, onward-rest o l k, onward-cost o)
      (least_step f n o (drop S l) v (rw length-drop (omega arith))))
      op

  -- nothing is needed where the range holds the image
  sectors-done : (n : ℕ) (l v : List ℕ) → ((i : ℕ) → i < n * S → value_of w (get_or l i 0) ≡ value_of w (get_or v i 0)) → sectors_time w S tp te n l v ≡ 0
  sectors-done zero l v h = refl
  sectors-done (suc n) l v h =
      omega (
        arith,
        sector-done w tp te S l v (λ i k. h i (omega arith)),
        sectors-done n (drop S l) (drop S v) (λ i k. rw (get_or-drop S l i 0, get_or-drop S v i 0) (h (S + i) (omega arith))),
      )

  -- so no operations that end with the image in the range take less
  pub bound : (f n : ℕ) (ops : List Op) (l v : List ℕ) → (f + n) * S ≤ length l
      → Holds w S f n (operate_all w S ops l) v → least_time w S tp te f n l v ≤ cost_all tp te ops
  bound f n [] l v h k = omega (arith, sectors-done n (drop (f * S) l) v (λ i j. rw (get_or-drop (f * S) l i 0) (k i j)))
  bound f n (op ∷ ops) l v h k =
      let h' : (f + n) * S ≤ length (operate w S op l) = rw (operate-length w S op l) h in
      omega (arith, least_step f n op l v h, bound f n ops (operate w S op l) v h' k)
