-- A job file that is made is read back, for all remarks, parts, levels, addresses, p and images that its fields can spell.
use mathlib.Core.Path.{◌≡◌, refl, sym, ap, ap₂, ◌∙◌}
use mathlib.Core.Bool.{Bool, true, false}
use mathlib.Core.List.{List, [], ◌∷◌, ◌++◌, append_assoc}
use Prim.Native.Nat.{ℕ, suc, ◌+◌, ◌-◌, ◌*◌, ◌/◌, ◌%◌, ◌^◌, ◌≤◌, ◌<◌}
use native.Mathlib.Omega.{arith}
use lib.Dec.{eqb}
use lib.ListN.{length, length-append}
use lib.Seq.{drop_at}
use Rattle.parts.specs.Pick.{pick}
use Rattle.jobfile.specs.Bytes.{number, field}
use Rattle.jobfile.specs.JobFile.{level_of, distance_of, trailer_of, asks, asked, job_of, values_of}
use Rattle.jobfile.specs.Made.{Below, bytes_of, image_bytes, trailer_bytes, file_of}
use Rattle.jobfile.proofs.Spelled.{number-bytes}
use Rattle.jobfile.proofs.Accepted.{RightTrailer, job-asked}
use Rattle.jobfile.proofs.Values.{values-from}

-- ---- the fields of a trailer that is made
level-fits : (wp : Bool) → pick wp 1 0 ≤ 1
level-fits true = omega arith
level-fits false = omega arith

level-high : (wp : Bool) → eqb (pick wp 1 0) 1 ≡ wp
level-high true = refl
level-high false = refl

module _ (part : ℕ) (wp : Bool) (first p distance : ℕ) where
  level-back : level_of (trailer_bytes part wp first p distance) ≡ pick wp 1 0
  unfolding number field bytes_of
  level-back = number-bytes 1 (pick wp 1 0) (omega (arith, level-fits wp))

  distance_back : distance < 2 ^ 32 → distance_of (trailer_bytes part wp first p distance) ≡ distance
  unfolding number field bytes_of
  distance_back h = number-bytes 4 distance h

  trailer-length : length (trailer_bytes part wp first p distance) ≡ 16
  unfolding bytes_of
  trailer-length = refl

  trailer-right : (before : ℕ) → distance < 2 ^ 32 → distance % 2 ≡ 0 → distance ≤ before → RightTrailer (trailer_bytes part wp first p distance) before
  unfolding number field bytes_of
  trailer-right before fits even in-front =
      let e = distance_back fits in
      record { zero-byte = refl; zero-bytes = refl; level = rw level-back (level-fits wp); even = rw e even; in-front = rw e in-front }

  asked-back : (before : ℕ) → part < 2 ^ 16 → first < 2 ^ 32 → p < 2 ^ 16 → distance < 2 ^ 32
      → asked (trailer_bytes part wp first p distance) before ≡ asks part wp first p (before - distance) (distance / 2)
  unfolding number field bytes_of
  asked-back before a f q d = rw (number-bytes 2 part a, level-back, level-high wp, number-bytes 4 first f, number-bytes 2 p q, distance_back d)

-- the trailer of what ends in 16 bytes
trailer-at : (front t : List ℕ) → length t ≡ 16 → trailer_of (front ++ t) ≡ t
trailer-at front t e = drop_at front t (length (front ++ t) - 16) (omega (arith, length-append front t))

-- ---- the image
image-length : (image : List ℕ) → length (image_bytes image) ≡ 2 * length image
unfolding image_bytes bytes_of
image-length [] = refl
image-length (v ∷ vs) = omega (arith, image-length vs)

values-image : (image rest : List ℕ) → Below (2 ^ 16) image → values_of (image_bytes image ++ rest) 0 (length image) ≡ image
unfolding number field bytes_of image_bytes values_of
values-image [] rest b = refl
values-image (v ∷ vs) rest b =
    ap₂ {A = ℕ} {B = List ℕ} {C = List ℕ} (λ x l. x ∷ l) (number-bytes 2 v (b 0))
    (sym (values-from (image_bytes (v ∷ vs) ++ rest) 2 0 (length vs)) ∙ values-image vs rest (λ i. b (suc i)))

-- ---- the round trip
module _ (remarks : List ℕ) (part : ℕ) (wp : Bool) (first p : ℕ) (image : List ℕ) where
  made-length : length (file_of remarks part wp first p image) ≡ length remarks + (2 * length image + 16)
  unfolding bytes_of
  made-length = simp (length-append, image-length)

  made-trailer : trailer_of (file_of remarks part wp first p image) ≡ trailer_bytes part wp first p (2 * length image)
  made-trailer =
      let t = trailer_bytes part wp first p (2 * length image) in
      ap (λ (file : List ℕ). trailer_of file) (sym (append_assoc remarks (image_bytes image) t))
      ∙ trailer-at (remarks ++ image_bytes image) t (trailer-length part wp first p (2 * length image))

  job-back : part < 2 ^ 16 → first < 2 ^ 32 → p < 2 ^ 16 → 2 * length image < 2 ^ 32
      → job_of (file_of remarks part wp first p image) ≡ asks part wp first p (length remarks) (length image)
  job-back a f q d =
      let file = file_of remarks part wp first p image in
      let distance = 2 * length image in
      let before = length remarks + distance in
      let e : length file - 16 ≡ before = omega (arith, made-length) in
      let s : before - distance ≡ length remarks = omega arith in
      let c : distance / 2 ≡ length image = omega arith in
      let r : RightTrailer (trailer_of file) (length file - 16) = rw (made-trailer, e) (trailer-right part wp first p distance before d (omega arith) (omega arith)) in
      job-asked file (record { long = omega (arith, made-length); right = r })
      ∙ (ap₂ asked made-trailer e
      ∙ (asked-back part wp first p distance before a f q d ∙ ap₂ (asks part wp first p) s c))

  image-back : Below (2 ^ 16) image → values_of (file_of remarks part wp first p image) (length remarks) (length image) ≡ image
  image-back b =
      let rest = image_bytes image ++ trailer_bytes part wp first p (2 * length image) in
      let e : length remarks + 0 ≡ length remarks = omega arith in
      ap (λ (k : ℕ). values_of (remarks ++ rest) k (length image)) (sym e)
      ∙ (sym (values-from (remarks ++ rest) (length remarks) 0 (length image))
      ∙ (ap (λ (l : List ℕ). values_of l 0 (length image)) (drop_at remarks rest (length remarks) refl)
      ∙ values-image image (trailer_bytes part wp first p (2 * length image)) b))

  pub round_trip : part < 2 ^ 16 → first < 2 ^ 32 → p < 2 ^ 16 → 2 * length image < 2 ^ 32 → Below (2 ^ 16) image
      → (job_of (file_of remarks part wp first p image) ≡ asks part wp first p (length remarks) (length image))
      × (values_of (file_of remarks part wp first p image) (length remarks) (length image) ≡ image)
  round_trip a f q d b = (job-back a f q d, image-back b)
