-- Numbers as bytes: what is spelt in n bytes reads back, and what is read spells the same bytes.
use mathlib.Core.Path.{◌≡◌, refl}
use mathlib.Core.List.{List, [], ◌∷◌}
use Prim.Native.Nat.{ℕ, zero, suc, ◌+◌, ◌*◌, ◌/◌, ◌%◌, ◌^◌, ◌≤◌, ◌<◌}
use native.Mathlib.Nat.{pow-suc, div-lt_iff_lt-mul}
use native.Mathlib.Omega.{arith}
use lib.ListN.{length, take, drop, length-drop}
use lib.Seq.{get_or-drop, length-take-le}
use Rattle.jobfile.specs.Bytes.{number, field}
use Rattle.jobfile.specs.Made.{Below, bytes_of}

-- a number below 256 ^ n is read back from its n bytes
pub number-bytes : (n x : ℕ) → x < 256 ^ n → number (bytes_of n x) ≡ x
unfolding number bytes_of
number-bytes zero x h = omega arith
number-bytes (suc n) x h =
    let l : x / 256 < 256 ^ n = (div-lt_iff_lt-mul {k = 256} (omega arith)).1 (omega (arith, pow-suc 256 n)) in
    omega (arith, number-bytes n (x / 256) l)

-- n bytes are spelt again from their number
bytes-number : (n : ℕ) (bytes : List ℕ) → length bytes ≡ n → Below 256 bytes → bytes_of n (number bytes) ≡ bytes
unfolding number bytes_of
bytes-number zero [] e b = refl
bytes-number zero (x ∷ xs) e b = absurd (omega arith)
bytes-number (suc n) [] e b = absurd (omega arith)
bytes-number (suc n) (x ∷ xs) e b =
    let l : x < 256 = b 0 in
    let low : (x + 256 * number xs) % 256 ≡ x = omega arith in
    let high : (x + 256 * number xs) / 256 ≡ number xs = omega arith in
    rw (low, high, bytes-number n xs (omega arith) (λ i. b (suc i)))

-- a part of bytes is bytes
pub below-drop : (k a : ℕ) (xs : List ℕ) → Below k xs → Below k (drop a xs)
below-drop k a xs b i = rw (get_or-drop a xs i 0) (b (a + i))

pub below-take : (k n : ℕ) (xs : List ℕ) → 0 < k → Below k xs → Below k (take n xs)
below-take k zero xs s b i = s
below-take k (suc n) [] s b i = s
below-take k (suc n) (x ∷ xs) s b zero = b 0
below-take k (suc n) (x ∷ xs) s b (suc i) = below-take k n xs s (λ j. b (suc j)) i

-- the bytes of a field
pub field-bytes : (bytes : List ℕ) (a n : ℕ) → a + n ≤ length bytes → Below 256 bytes → bytes_of n (field bytes a n) ≡ take n (drop a bytes)
unfolding field
field-bytes bytes a n h b =
    bytes-number n (take n (drop a bytes)) (length-take-le n (drop a bytes) (omega (arith, length-drop a bytes)))
    (below-take 256 n (drop a bytes) (omega arith) (below-drop 256 a bytes b))
