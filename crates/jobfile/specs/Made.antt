-- Job files as they are made: what the reader has to read back.
use Rattle.std.specs.Prelude.{ℕ, zero, suc, ◌+◌, ◌*◌, ◌/◌, ◌%◌, ◌<◌, Bool, List, [], ◌∷◌, ◌++◌, length, get_or}
use Rattle.parts.specs.Pick.{pick}

-- each number of a list is below n: of bytes n is 256, of 16-bit words 65,536
abbrev pub Below : ℕ → List ℕ → Type 0
Below n xs = (i : ℕ) → get_or xs i 0 < n

-- n bytes that spell a number, the low byte first
unfoldable pub bytes_of : ℕ → ℕ → List ℕ
bytes_of zero x = []
bytes_of (suc n) x = x % 256 ∷ bytes_of n (x / 256)

-- the bytes of an image, two a value
unfoldable pub image_bytes : List ℕ → List ℕ
image_bytes [] = []
image_bytes (v ∷ vs) = bytes_of 2 v ++ image_bytes vs

-- bytes taken two by two, the low one first
unfoldable pub two_by_two : List ℕ → List ℕ
two_by_two [] = []
two_by_two (a ∷ []) = a ∷ []
two_by_two (a ∷ b ∷ bytes) = (a + 256 * b) ∷ two_by_two bytes

-- a trailer: part, WP#, zero, first address, p, zeros, distance
abbrev pub trailer_bytes : ℕ → Bool → ℕ → ℕ → ℕ → List ℕ
trailer_bytes part wp first p distance =
    bytes_of 2 part ++ (bytes_of 1 (pick wp 1 0) ++ (bytes_of 1 0 ++ (bytes_of 4 first ++ (bytes_of 2 p ++ (bytes_of 2 0 ++ bytes_of 4 distance)))))

-- a job file: remarks, image, trailer
abbrev pub file_of : List ℕ → ℕ → Bool → ℕ → ℕ → List ℕ → List ℕ
file_of remarks part wp first p image =
    remarks ++ (image_bytes image ++ trailer_bytes part wp first p (2 * length image))
