-- Laws of a number in bytes: a single byte, two parts of a number, and two and four bytes by each of theirs.
use mathlib.Core.Path.{◌≡◌, refl, ap, ◌∙◌}
use mathlib.Core.List.{List, [], ◌∷◌}
use Prim.Native.Nat.{ℕ, zero, suc, ◌+◌, ◌*◌, ◌^◌, ◌≤◌}
use native.Mathlib.Nat.{zero-add, suc-add, mul-zero, mul_comm, mul_assoc, pow-suc}
use native.Mathlib.Omega.{arith}
use lib.ListN.{length, get_or, take, drop, drop_of_length-le}
use lib.Seq.{take-nil, drop-drop}
use Rattle.jobfile.specs.Bytes.{number, field}

-- the first bytes of a number and, above them, the others
number-split : (m n : ℕ) (xs : List ℕ) → number (take (m + n) xs) ≡ number (take m xs) + 256 ^ m * number (take n (drop m xs))
unfolding number
number-split zero n xs = rw (zero-add n) (omega arith)
number-split (suc m) n [] = simp (take-nil, mul-zero)
number-split (suc m) n (x ∷ xs) =
    let upper = number (take n (drop m xs)) in
    let e : 256 ^ suc m * upper ≡ 256 * (256 ^ m * upper) = ap (λ (k : ℕ). k * upper) (pow-suc 256 m ∙ mul_comm (256 ^ m) 256) ∙ mul_assoc 256 (256 ^ m) upper in
    rw suc-add (omega (arith, e, number-split m n xs))

pub field-split : (bytes : List ℕ) (a m n : ℕ) → field bytes a (m + n) ≡ field bytes a m + 256 ^ m * field bytes (a + m) n
unfolding field
field-split bytes a m n = number-split m n (drop a bytes) ∙ rw (drop-drop m a bytes)

-- one byte
pub field-one : (bytes : List ℕ) (a : ℕ) → field bytes a 1 ≡ get_or bytes a 0
unfolding number field
field-one [] zero = refl
field-one [] (suc a) = refl
field-one (x ∷ xs) zero = omega arith
field-one (x ∷ xs) (suc a) = field-one xs a

-- in the bytes from place b on
pub field-from : (bytes : List ℕ) (b a n : ℕ) → field (drop b bytes) a n ≡ field bytes (b + a) n
unfolding field
field-from bytes b a n = rw (drop-drop a b bytes)

-- past the end
pub field_past : (bytes : List ℕ) (a n : ℕ) → length bytes ≤ a → field bytes a n ≡ 0
unfolding number field
field_past bytes a n h = simp (drop_of_length-le bytes h, take-nil)

-- two bytes and four, each by itself
pub field-two : (bytes : List ℕ) (a : ℕ) → field bytes a 2 ≡ field bytes a 1 + 256 * field bytes (a + 1) 1
field-two bytes a = omega (arith, field-split bytes a 1 1)

pub field-four : (bytes : List ℕ) (a : ℕ)
    → field bytes a 4 ≡ field (drop a bytes) 0 1 + 256 * field (drop a bytes) 1 1 + 65536 * field (drop a bytes) 2 1 + 16777216 * field (drop a bytes) 3 1
field-four bytes a =
    let e : a + 0 ≡ a = omega arith in
    let f : a + 2 + 1 ≡ a + 3 = omega arith in
    let upper : field bytes (a + 2) 2 ≡ field bytes (a + 2) 1 + 256 * field bytes (a + 3) 1 = omega (arith, rw f at (field-split bytes (a + 2) 1 1)) in
    rw (field-from bytes a 0 1, field-from bytes a 1 1, field-from bytes a 2 1, field-from bytes a 3 1, e)
    (omega (arith, field-split bytes a 2 2, field-split bytes a 1 1, upper))

pub ruleset numbers = (field-one, field_past, field-two, field-four)
