-- The outputs while a completion is 0 µs old: all the part's bits but 7 are inverted, and no other. Over any width from 8 on, once.
use Prim.Native.Nat.{ℕ, zero, suc, ◌+◌, ◌-◌, ◌*◌, ◌/◌, ◌%◌, ◌^◌, ◌≤◌, ◌<◌}
use mathlib.Core.Path.{◌≡◌, refl, sym, ap, ap₂, ◌∙◌}
use mathlib.Core.Bool.{Bool, true, false}
use native.Mathlib.Nat.{pow-suc, mod-lt, mod-eq_of_lt, div-div-eq-div-mul, mul_comm, not-suc-le-zero, le_of_suc-le-suc}
use borrow.Author.Tests.{lt-ltb, ltb-true, ltb-false, eqb-true, eqb-false}
use native.Mathlib.Omega.{arith}
use lib.Dec.{eqb, ltb}
use lib.Pow.{pow_pos, pow_mono}
use lib.Bits.{bit_and, bit_xor, and_comm, and_mask, xor_add_and, xor_lt, xor_shr, xor_mod}
use Rattle.parts.specs.Pick.{pick}
use Rattle.parts.specs.Width.{blank_of}
use Rattle.device.specs.Cycle.{inverted}
use Rattle.device.specs.Recent.{bit_of, but_seven, DifferButSeven}

-- ---- bits
-- a bit of an exclusive or
xor-bit : (i x y : ℕ) → bit_of i (bit_xor x y) ≡ bit_xor (bit_of i x) (bit_of i y)
xor-bit i x y = ap (λ (n : ℕ). n % 2) (xor_shr x y i) ∙ xor_mod (x / 2 ^ i) (y / 2 ^ i) 1

-- by the other bit it is inverted or kept
by_bit : (b c : ℕ) → b < 2 → c < 2 → bit_xor b c ≡ pick (eqb c 1) (1 - b) b
by_bit zero zero h k = refl
by_bit zero (suc zero) h k = refl
by_bit zero (suc (suc c)) h k = absurd (omega arith)
by_bit (suc zero) zero h k = refl
by_bit (suc zero) (suc zero) h k = refl
by_bit (suc zero) (suc (suc c)) h k = absurd (omega arith)
by_bit (suc (suc b)) c h k = absurd (omega arith)

-- ---- all the part's bits but 7
-- a bit further up of a word is one of its half
further : (i x : ℕ) → bit_of (suc i) x ≡ bit_of i (x / 2)
further i x =
    let e : 2 ^ suc i ≡ 2 * 2 ^ i = pow-suc 2 i ∙ mul_comm (2 ^ i) 2 in
    ap (λ (n : ℕ). n % 2) (ap (λ (n : ℕ). x / n) e ∙ sym (div-div-eq-div-mul x 2 (2 ^ i)))

-- of 0 every bit is 0
zero_bit : (i : ℕ) → bit_of i 0 ≡ 0
zero_bit zero = refl
zero_bit (suc i) = further i 0 ∙ zero_bit i

-- of blank those below the width are 1, the others 0
blank-half : (w : ℕ) → blank_of (suc w) / 2 ≡ blank_of w
blank-half w = omega (arith, pow-suc 2 w, pow_pos w)

blank-in : (w i : ℕ) → i < w → bit_of i (blank_of w) ≡ 1
blank-in zero i h = absurd (not-suc-le-zero h)
blank-in (suc w) zero h = omega (arith, pow-suc 2 w, pow_pos w)
blank-in (suc w) (suc i) h = further i (blank_of (suc w)) ∙ (ap (bit_of i) (blank-half w) ∙ blank-in w i (le_of_suc-le-suc h))

blank-out : (w i : ℕ) → w ≤ i → bit_of i (blank_of w) ≡ 0
blank-out zero i h = zero_bit i
blank-out (suc w) zero h = absurd (not-suc-le-zero h)
blank-out (suc w) (suc i) h = further i (blank_of (suc w)) ∙ (ap (bit_of i) (blank-half w) ∙ blank-out w i (le_of_suc-le-suc h))

-- of bit 7 alone no other is 1
seven-out : (i : ℕ) → (i ≡ 7 → ⊥) → bit_of i 128 ≡ 0
seven-out zero n = refl
seven-out (suc zero) n = refl
seven-out (suc (suc zero)) n = refl
seven-out (suc (suc (suc zero))) n = refl
seven-out (suc (suc (suc (suc zero)))) n = refl
seven-out (suc (suc (suc (suc (suc zero))))) n = refl
seven-out (suc (suc (suc (suc (suc (suc zero)))))) n = refl
seven-out (suc (suc (suc (suc (suc (suc (suc zero))))))) n = absurd (n refl)
seven-out (suc (suc (suc (suc (suc (suc (suc (suc i)))))))) n =
    further (suc (suc (suc (suc (suc (suc (suc i))))))) 128
    ∙ (further (suc (suc (suc (suc (suc (suc i)))))) 64
    ∙ (further (suc (suc (suc (suc (suc i))))) 32
    ∙ (further (suc (suc (suc (suc i)))) 16
    ∙ (further (suc (suc (suc i))) 8 ∙ (further (suc (suc i)) 4 ∙ (further (suc i) 2 ∙ (further i 1 ∙ zero_bit i)))))))

module _ (w : ℕ) (wide : 8 ≤ w) where
  -- blank less bit 7 is blank with bit 7 inverted
  less-seven : blank_of w - 128 ≡ bit_xor (blank_of w) 128
  less-seven =
      let small : 128 < 2 ^ w = omega (arith, pow_mono wide) in
      let seven : bit_and (blank_of w) 128 ≡ 128 = and_comm (blank_of w) 128 ∙ (and_mask 128 w ∙ mod-eq_of_lt small) in
      omega (arith, xor_add_and (blank_of w) 128, seven)

  mask-bit : (i : ℕ) → bit_of i (blank_of w - 128) ≡ pick (but_seven w i) 1 0
  mask-bit i = ap (bit_of i) less-seven ∙ (xor-bit i (blank_of w) 128 ∙ by (eqb i 7) refl (ltb i w) refl)
    where
      by : (s : Bool) → eqb i 7 ≡ s → (t : Bool) → ltb i w ≡ t → bit_xor (bit_of i (blank_of w)) (bit_of i 128) ≡ pick (pick s false t) 1 0
      by true s t q =
          let z : i ≡ 7 = eqb-true i 7 s in
          let b : bit_of i (blank_of w) ≡ 1 = blank-in w i (omega arith) in
          let c : bit_of i 128 ≡ 1 = ap (λ (n : ℕ). bit_of n 128) z in
          ap₂ bit_xor b c
      by false s true q = ap₂ bit_xor (blank-in w i (ltb-true i w q)) (seven-out i (eqb-false i 7 s))
      by false s false q = ap₂ bit_xor (blank-out w i (ltb-false i w q)) (seven-out i (eqb-false i 7 s))

  -- A word inverted so differs from it in all the part's bits but 7, and in no other.
  pub differs-but-seven : (v : ℕ) → DifferButSeven w (inverted w v) v
  differs-but-seven v i =
      xor-bit i v (blank_of w - 128)
      ∙ (by_bit (bit_of i v) (bit_of i (blank_of w - 128)) (mod-lt (v / 2 ^ i) (omega arith)) (mod-lt ((blank_of w - 128) / 2 ^ i) (omega arith))
      ∙ rw (mask-bit i) (by (but_seven w i)))
    where
      by : (t : Bool) → pick (eqb (pick t 1 0) 1) (1 - bit_of i v) (bit_of i v) ≡ pick t (1 - bit_of i v) (bit_of i v)
      by true = refl
      by false = refl

  -- so do two words that are such
  pub differ-so : (x y v : ℕ) → x ≡ inverted w v → y ≡ v → DifferButSeven w x y
  differ-so x y v p q = rw (p, q) (differs-but-seven v)

  -- Its bit 7 is the word's.
  pub keeps-seven : (v : ℕ) → inverted w v / 128 % 2 ≡ v / 128 % 2
  keeps-seven v = differs-but-seven v 7

  -- Its bit 0 is the other one.
  pub turns-zero : (v : ℕ) → bit_of 0 (inverted w v) + bit_of 0 v ≡ 1
  turns-zero v =
      let low : ltb 0 w ≡ true = lt-ltb 0 w (omega arith) in
      let other : bit_of 0 (inverted w v) ≡ 1 - bit_of 0 v = rw low at (differs-but-seven v 0) in
      omega (arith, other)

  -- Of a value of the width it is one, too.
  pub inverted-lt : (v : ℕ) → v < 2 ^ w → inverted w v < 2 ^ w
  inverted-lt v h = xor_lt w v (blank_of w - 128) h (omega (arith, pow_pos w))
