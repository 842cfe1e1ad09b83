-- Laws of a cell's value and of blank, for any width.
use mathlib.Core.Path.{◌≡◌, refl, sym, ◌∙◌}
use Prim.Native.Nat.{ℕ, ◌-◌, ◌*◌, ◌%◌, ◌^◌, ◌≤◌, ◌<◌}
use native.Mathlib.Nat.{one-mul, mod-eq_of_lt, mod-lt, mod-mod}
use native.Mathlib.Omega.{arith}
use mathlib.Core.Bool.{Bool, true, false}
use borrow.Author.Tests.{leb-true, leb-false, le-leb}
use lib.Dec.{leb}
use lib.Pow.{pow_pos, pow_mono, pow-lt}
use lib.Bits.{bit_and, and_comm, and_mask, and_mod}
use Rattle.parts.specs.Width.{blank_of, fits_in, value_of}

-- a value is below two to the width, and at most blank
pub value-lt : (w x : ℕ) → value_of w x < 2 ^ w
value-lt w x = mod-lt x (pow_pos w)

pub value-le-blank : (w x : ℕ) → value_of w x ≤ blank_of w
value-le-blank w x = omega (arith, value-lt w x)

-- a word below two to the width is its own value
pub value_same : (w x : ℕ) → x < 2 ^ w → value_of w x ≡ x
value_same w x h = mod-eq_of_lt h

pub value-blank : (w : ℕ) → value_of w (blank_of w) ≡ blank_of w
value-blank w = value_same w (blank_of w) (omega (arith, pow_pos w))

pub value-value : (w x : ℕ) → value_of w (value_of w x) ≡ value_of w x
value-value w x = mod-mod x (2 ^ w)

-- 16-bit words on widths from 16 on, and blank of a width up to 16, are their own values
pub value-wide : (w x : ℕ) → 16 ≤ w → x < 2 ^ 16 → value_of w x ≡ x
value-wide w x h l = value_same w x (omega (arith, pow_mono h))

-- what the check proves `value` by
pub ruleset wide = (value-wide)

pub blank-word : (w : ℕ) → w ≤ 16 → value_of 16 (blank_of w) ≡ blank_of w
blank-word w h = value_same 16 (blank_of w) (omega (arith, pow_mono h, pow_pos w))

pub value-ones : (w : ℕ) → value_of w 65535 ≡ value_of 16 (blank_of w)
value-ones w = sym (and_mask 65535 w) ∙ (and_comm 65535 (2 ^ w - 1) ∙ and_mask (2 ^ w - 1) 16)

-- the value of an AND is the AND of the values
pub value-and : (w x y : ℕ) → value_of w (bit_and x y) ≡ bit_and (value_of w x) (value_of w y)
value-and w x y = and_mod x y w

-- what the shift by a width below 16 gives
pub shifted : (w : ℕ) → w < 16 → 1 * 2 ^ w % 2 ^ 32 ≡ 2 ^ w
shifted w h = mod-eq_of_lt (omega (arith, pow-lt h)) ∙ one-mul (2 ^ w)

-- a word fits exactly where it is below two to the width
pub fits_lt : (w x : ℕ) → fits_in w x ≡ true → x < 2 ^ w
unfolding fits_in
fits_lt w x e = omega (arith, leb-true x (blank_of w) e, pow_pos w)

pub lt-fits : (w x : ℕ) → x < 2 ^ w → fits_in w x ≡ true
unfolding fits_in
lt-fits w x h = le-leb x (blank_of w) (omega arith)

-- a 16-bit word is compared with blank as a 16-bit word
pub fits_word : (w x : ℕ) → x < 2 ^ 16 → leb x (value_of 16 (blank_of w)) ≡ fits_in w x
unfolding fits_in
fits_word w x h = by (leb 16 w) refl
  where
    by : (b : Bool) → leb 16 w ≡ b → leb x (value_of 16 (blank_of w)) ≡ leb x (blank_of w)
    by true e =
        let wide = leb-true 16 w e in
        let top : value_of 16 (blank_of w) ≡ 65535 = sym (value-ones w) ∙ value-wide w 65535 wide (omega arith) in
        rw (top, le-leb x 65535 (omega arith), le-leb x (blank_of w) (omega (arith, pow_mono wide)))
    by false e = let narrow = leb-false 16 w e in rw (blank-word w (omega arith))

-- blank AND a word that fits is that word
pub blank-and : (w x : ℕ) → fits_in w x ≡ true → bit_and (blank_of w) x ≡ x
blank-and w x f = and_comm (blank_of w) x ∙ (and_mask x w ∙ value_same w x (fits_lt w x f))

-- what the check proves `blank` and `fits` by
pub ruleset ones = (value-ones, fits_word)
