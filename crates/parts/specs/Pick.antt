-- A choice by a test, and refusals in the order in which they are given.
use Rattle.std.specs.Prelude.{ℕ, Bool, true, false, ltb}

infix 6 ◌when◌
infix 6 ◌unless◌
infixr 5 ◌else◌
infixr 5 ◌or_else◌
-- the first where the test holds, and else the second
abbrev pub pick : {A : Type 0} → Bool → A → A → A
pick true a b = a
pick false a b = b

-- ---- `a when t else b unless u else c`: a where t holds, else b where u does not, else c
abbrev pub ◌when◌ : {A : Type 0} → A → Bool → A → A
◌when◌ a t b = pick t a b

abbrev pub ◌unless◌ : {A : Type 0} → A → Bool → A → A
◌unless◌ a t b = pick t b a

abbrev pub ◌else◌ : {A : Type 0} → (A → A) → A → A
◌else◌ f b = f b

-- a refusal that was found before, and where it is none the next
abbrev pub ◌or_else◌ : ℕ → ℕ → ℕ
◌or_else◌ n m = pick (ltb 0 n) n m
