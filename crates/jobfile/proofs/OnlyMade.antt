-- Every sound file of bytes is one that is made: from its own remarks and what is read of it. So no other file is accepted.
use mathlib.Core.Path.{◌≡◌, refl, sym, ap, ap₂, ◌∙◌}
use mathlib.Core.List.{List, [], ◌∷◌, ◌++◌}
use Prim.Native.Nat.{ℕ, zero, suc, ◌+◌, ◌-◌, ◌*◌, ◌/◌, ◌%◌, ◌≤◌, ◌<◌}
use native.Mathlib.Nat.{mod-eq_of_lt}
use native.Mathlib.Omega.{arith}
use lib.Dec.{eqb}
use lib.ListN.{length, take, drop, length-drop, take-append-drop}
use lib.Seq.{take_all, drop-drop, length-take-le}
use Rattle.parts.specs.Pick.{pick}
use Rattle.jobfile.specs.Bytes.{field}
use Rattle.jobfile.specs.JobFile.{part_of, level_of, first_of, p_of, distance_of, trailer_of, job_of, values_of}
use Rattle.jobfile.specs.Made.{Below, bytes_of, image_bytes, two_by_two, trailer_bytes, file_of}
use Rattle.jobfile.proofs.Accepted.{RightTrailer, SoundFile, job-asked, values-two-by-two}
use Rattle.jobfile.proofs.Spelled.{below-drop, below-take, field-bytes}
use Rattle.jobfile.proofs.Values.{values_length}

-- ---- a trailer, piece by piece
level-same : (n : ℕ) → n ≤ 1 → pick (eqb n 1) 1 0 ≡ n
level-same zero h = refl
level-same (suc zero) h = refl
level-same (suc (suc n)) h = absurd (omega arith)

module _ (t : List ℕ) (bytes : Below 256 t) where
  -- a field, and the bytes after it
  piece : (a n x : ℕ) (rest : List ℕ) → a + n ≤ length t → x ≡ field t a n → rest ≡ drop (a + n) t → bytes_of n x ++ rest ≡ drop a t
  piece a n x rest h f e =
      ap₂ {A = List ℕ} {B = List ℕ} {C = List ℕ} (λ x y. x ++ y) (ap (bytes_of n) f ∙ field-bytes t a n h bytes) (e ∙ sym (drop-drop n a t))
      ∙ take-append-drop n (drop a t)

  trailer-made : (before : ℕ) → length t ≡ 16 → RightTrailer t before → trailer_bytes (part_of t) (eqb (level_of t) 1) (first_of t) (p_of t) (distance_of t) ≡ t
  trailer-made before e r =
      piece 0 2 _ _ (omega arith) refl
      (piece 2 1 _ _ (omega arith) (level-same (level_of t) r.level)
      (piece 3 1 _ _ (omega arith) (sym r.zero-byte)
      (piece 4 4 _ _ (omega arith) refl
      (piece 8 2 _ _ (omega arith) refl
      (piece 10 2 _ _ (omega arith) (sym r.zero-bytes)
      (field-bytes t 12 4 (omega arith) bytes ∙ take_all 4 (drop 12 t) (omega (arith, length-drop 12 t))))))))

-- ---- an image
image-pairs : (n : ℕ) (bytes : List ℕ) → length bytes ≡ 2 * n → Below 256 bytes → image_bytes (two_by_two bytes) ≡ bytes
unfolding bytes_of image_bytes two_by_two
image-pairs n [] e b = refl
image-pairs zero (x ∷ []) e b = absurd (omega arith)
image-pairs (suc n) (x ∷ []) e b = absurd (omega arith)
image-pairs zero (x ∷ y ∷ bytes) e b = absurd (omega arith)
image-pairs (suc n) (x ∷ y ∷ bytes) e b =
    let lx : x < 256 = b 0 in
    let ly : y < 256 = b 1 in
    let low : (x + 256 * y) % 256 ≡ x = omega arith in
    let high : (x + 256 * y) / 256 ≡ y = omega arith in
    rw (low, high, mod-eq_of_lt ly, image-pairs n bytes (omega arith) (λ i. b (suc (suc i))))

image-made : (file : List ℕ) (start n : ℕ) → start + 2 * n ≤ length file → Below 256 file → image_bytes (values_of file start n) ≡ take (2 * n) (drop start file)
image-made file start n h b =
    ap image_bytes (values-two-by-two file start n h)
    ∙ image-pairs n (take (2 * n) (drop start file)) (length-take-le (2 * n) (drop start file) (omega (arith, length-drop start file)))
    (below-take 256 (2 * n) (drop start file) (omega arith) (below-drop 256 start file b))

-- ---- a file
module _ (file : List ℕ) (bytes : Below 256 file) (sound : SoundFile file) where
  pub only-made : file_of (take (job_of file).start file) (job_of file).part (job_of file).wp (job_of file).first (job_of file).p
      (values_of file (job_of file).start (job_of file).count) ≡ file
  only-made =
      let t = trailer_of file in
      let d = distance_of t in
      let start = length file - 16 - d in
      let r = sound.right in
      let fits : start + 2 * (d / 2) ≤ length file = omega (arith, r.even, r.in-front) in
      let whole : 2 * length (values_of file start (d / 2)) ≡ d = omega (arith, values_length file start (d / 2), r.even) in
      let twice : 2 * (d / 2) ≡ d = omega (arith, r.even) in
      let ends : start + d ≡ length file - 16 = omega (arith, r.in-front) in
      let t-length : length t ≡ 16 = omega (arith, length-drop (length file - 16) file, sound.long) in
      let t_made = trailer-made t (below-drop 256 (length file - 16) file bytes) (length file - 16) t-length r in
      let after : t ≡ drop d (drop start file) = sym (drop-drop d start file ∙ ap (λ (k : ℕ). drop k file) ends) in
      rw (job-asked file sound, whole, image-made file start (d / 2) fits bytes, twice, t_made)
      (ap (λ (l : List ℕ). take start file ++ l) (ap (λ (l : List ℕ). take d (drop start file) ++ l) after ∙ take-append-drop d (drop start file))
      ∙ take-append-drop start file)
