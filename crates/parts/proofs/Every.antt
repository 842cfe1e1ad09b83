-- A rule of a list, proved at all of its entries by one test that antt computes.
use mathlib.Core.Path.{◌≡◌, refl}
use mathlib.Core.Bool.{Bool, true, false}
use mathlib.Core.List.{List, [], ◌∷◌}
use Prim.Native.Nat.{ℕ, zero, suc, ◌<◌}
use native.Mathlib.Nat.{le_of_suc-le-suc, not-suc-le-zero}
use native.Mathlib.Omega.{arith}
use lib.ListN.{length, get_or}
use Rattle.parts.specs.Pick.{pick}

-- false is not true
pub apart : {A : Type 0} → false ≡ true → A
apart {A} e = let z : ◌≡◌ {A = ℕ} 0 1 = cc in absurd (omega arith)

-- both parts of a conjunction
pub both : (a b : Bool) → pick a b false ≡ true → (a ≡ true) × (b ≡ true)
both true b e = (refl, e)
both false b e = apart e

-- a test that has to fail, and what is left
pub unless : (a b : Bool) → pick a false b ≡ true → (a ≡ false) × (b ≡ true)
unless true b e = apart e
unless false b e = (refl, e)

-- what is asked only where a test holds
pub given : (a b : Bool) → a ≡ true → pick a b true ≡ true → b ≡ true
given true b h e = e
given false b h e = apart h

-- a choice by cases of its test
pub split : {A : Type 0} (P : A → Type 0) (b : Bool) (x y : A) → (b ≡ true → P x) → (b ≡ false → P y) → P (pick b x y)
split P true x y f g = f refl
split P false x y f g = g refl

-- a choice between a thing and itself
pub pick_same : {A : Type 0} (b : Bool) (x : A) → pick b x x ≡ x
pick_same true x = refl
pick_same false x = refl

-- the test f holds at each entry
abbrev pub every : {A : Type 0} → (A → Bool) → List A → Bool
every f [] = true
every f (x ∷ xs) = pick (f x) (every f xs) false

pub at : {A : Type 0} (f : A → Bool) (xs : List A) (d : A) → every f xs ≡ true → (n : ℕ) → n < length xs → f (get_or xs n d) ≡ true
at f [] d e n h = absurd (not-suc-le-zero h)
at f (x ∷ xs) d e zero h = (both (f x) (every f xs) e).0
at f (x ∷ xs) d e (suc n) h = at f xs d (both (f x) (every f xs) e).1 n (le_of_suc-le-suc h)
