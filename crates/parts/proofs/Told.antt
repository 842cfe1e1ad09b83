-- Answers of calls that may be refused: a refusal's number is not 0, it is no other refusal's, and what such a call hands back is determined by its answer and its value.
use Rattle.std.specs.Prelude.{ℕ, ◌≡◌, Result, Ok, Err, IfOk, get_or, [], ◌∷◌}
use mathlib.Core.Path.{refl, sym, ap, ◌∙◌}
use native.Mathlib.Omega.{arith}
use Rattle.parts.specs.Pick.{◌or_else◌}
use Rattle.parts.specs.Refused.{number_of, answer_of}
use Rattle.parts.specs.declared.refusal.Refusal.{Refusal}
use Rattle.parts.specs.declared.refusal.Refusal.TheVariants.{NoPart, WrongCells, NoAddress, WideData, BadState, NotSectors, PastCells, WideImage, Protected, BadInterval, GaveUp, Differs, BadFile, NoCommand, NoEntry}

-- the refusal of a number
abbrev refusal_of : ℕ → Refusal
refusal_of n =
    get_or (NoPart ∷ NoPart ∷ WrongCells ∷ NoAddress ∷ WideData ∷ BadState ∷ NotSectors ∷ PastCells ∷ WideImage ∷ Protected ∷ BadInterval ∷ GaveUp ∷ Differs ∷ BadFile ∷ NoCommand ∷ NoEntry ∷ []) n NoPart

back : (e : Refusal) → refusal_of (number_of e) ≡ e
back NoPart = refl
back WrongCells = refl
back NoAddress = refl
back WideData = refl
back BadState = refl
back NotSectors = refl
back PastCells = refl
back WideImage = refl
back Protected = refl
back BadInterval = refl
back GaveUp = refl
back Differs = refl
back BadFile = refl
back NoCommand = refl
back NoEntry = refl

-- a number is one refusal's
pub number_of-injective : (e f : Refusal) → number_of e ≡ number_of f → e ≡ f
number_of-injective e f h = sym (back e) ∙ (ap refusal_of h ∙ back f)

-- a refusal is what is answered, whatever would follow
pub number_of-or_else : (e : Refusal) (n : ℕ) → (number_of e or_else n) ≡ number_of e
number_of-or_else NoPart n = refl
number_of-or_else WrongCells n = refl
number_of-or_else NoAddress n = refl
number_of-or_else WideData n = refl
number_of-or_else BadState n = refl
number_of-or_else NotSectors n = refl
number_of-or_else PastCells n = refl
number_of-or_else WideImage n = refl
number_of-or_else Protected n = refl
number_of-or_else BadInterval n = refl
number_of-or_else GaveUp n = refl
number_of-or_else Differs n = refl
number_of-or_else BadFile n = refl
number_of-or_else NoCommand n = refl
number_of-or_else NoEntry n = refl

-- no refusal has the number 0
pub number_of-positive : (e : Refusal) → number_of e ≡ 0 → ⊥
number_of-positive NoPart h = omega (arith, h)
number_of-positive WrongCells h = omega (arith, h)
number_of-positive NoAddress h = omega (arith, h)
number_of-positive WideData h = omega (arith, h)
number_of-positive BadState h = omega (arith, h)
number_of-positive NotSectors h = omega (arith, h)
number_of-positive PastCells h = omega (arith, h)
number_of-positive WideImage h = omega (arith, h)
number_of-positive Protected h = omega (arith, h)
number_of-positive BadInterval h = omega (arith, h)
number_of-positive GaveUp h = omega (arith, h)
number_of-positive Differs h = omega (arith, h)
number_of-positive BadFile h = omega (arith, h)
number_of-positive NoCommand h = omega (arith, h)
number_of-positive NoEntry h = omega (arith, h)

-- what is handed back is determined by its answer and, where it is not refused, by its value
pub told-unique : {A : Type 0} (r s : Result A Refusal) (n : ℕ) (v : A) → answer_of r ≡ n → IfOk r (λ x. x ≡ v) → answer_of s ≡ n → IfOk s (λ x. x ≡ v) → r ≡ s
told-unique (Ok x) (Ok y) n v p e q f = ap Ok (e ∙ sym f)
told-unique (Ok x) (Err f) n v p e q g = absurd (number_of-positive f (q ∙ sym p))
told-unique (Err e) (Ok y) n v p e' q f = absurd (number_of-positive e (p ∙ sym q))
told-unique (Err e) (Err f) n v p e' q g = ap Err (number_of-injective e f (p ∙ sym q))

pub ruleset refused = (number_of-or_else)
