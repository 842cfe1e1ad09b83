-- Lists: the few laws that the library lacks.
use mathlib.Core.Path.{◌≡◌, refl, sym, ap, ◌∙◌}
use mathlib.Core.List.{List, [], ◌∷◌, ◌++◌, map}
use Prim.Native.Nat.{ℕ, suc, ◌+◌, ◌-◌, ◌*◌, ◌≤◌, ◌<◌}
use native.Mathlib.Omega.{arith}
use lib.ListN.{length, get_or, take, drop, get_or-append, get_or-map}
use lib.Seq.{drop-drop, get_or-take, get_or-drop, get_or-append-add}

-- to drop one sector more
pub drop-next : (S n : ℕ) (l : List ℕ) → drop (suc n * S) l ≡ drop (n * S) (drop S l)
drop-next S n l = let e : suc n * S ≡ S + n * S = omega arith in rw (e, drop-drop)

-- lists of one length, each entry replaced by c
pub map_same : (c : ℕ) (l m : List ℕ) → length l ≡ length m → map (λ x. c) l ≡ map (λ x. c) m
map_same c [] [] e = refl
map_same c [] (y ∷ m) e = absurd (omega arith)
map_same c (x ∷ l) [] e = absurd (omega arith)
map_same c (x ∷ l) (y ∷ m) e = ap (λ (r : List ℕ). c ∷ r) (map_same c l m (omega arith))

-- a list in the middle of another
pub middle : (p m q : List ℕ) (a i : ℕ) → length p ≡ a → i < length m → get_or (p ++ (m ++ q)) (a + i) 0 ≡ get_or m i 0
middle p m q a i e h = rw (← e, get_or-append-add p (m ++ q) i 0, get_or-append m q 0 i h)

-- lists of equal values have equal values at each place
pub map_at : (f : ℕ → ℕ) (l m : List ℕ) (i : ℕ) → map f l ≡ map f m → f (get_or l i 0) ≡ f (get_or m i 0)
map_at f l m i e = sym (get_or-map f l i 0) ∙ ap (λ (r : List ℕ). get_or r i (f 0)) e ∙ get_or-map f m i 0

-- lists that begin alike, and lists that end alike
module _ (l m : List ℕ) (k i : ℕ) where
  pub begin-alike : take k l ≡ take k m → i < k → get_or l i 0 ≡ get_or m i 0
  begin-alike e h = sym (get_or-take k l i 0 h) ∙ ap (λ (r : List ℕ). get_or r i 0) e ∙ get_or-take k m i 0 h

  pub end-alike : drop k l ≡ drop k m → k ≤ i → get_or l i 0 ≡ get_or m i 0
  end-alike e h =
      let j : k + (i - k) ≡ i = omega arith in
      rw j at (sym (get_or-drop k l (i - k) 0) ∙ ap (λ (r : List ℕ). get_or r (i - k) 0) e ∙ get_or-drop k m (i - k) 0)
