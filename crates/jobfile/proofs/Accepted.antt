-- A job file is refused exactly where it is not sound, and of a sound one the values are the image's bytes, taken two by two.
use mathlib.Core.Path.{◌≡◌, refl, sym, ap, ap₂, ◌∙◌}
use mathlib.Core.Bool.{Bool, true, false}
use mathlib.Core.List.{List, [], ◌∷◌}
use Prim.Native.Nat.{ℕ, zero, suc, ◌+◌, ◌-◌, ◌*◌, ◌%◌, ◌≤◌}
use native.Mathlib.Omega.{arith}
use borrow.Author.Tests.{ltb-false, eqb-false, lt-ltb, le-ltb, ne_eqb}
use lib.Dec.{eqb, ltb}
use lib.ListN.{length, take, drop, length-drop}
use Rattle.parts.specs.Pick.{pick}
use Rattle.parts.proofs.Every.{apart}
use Rattle.jobfile.specs.Bytes.{number, field}
use Rattle.jobfile.specs.JobFile.{level_of, zero_of, zeros_of, distance_of, trailer_of, wrong, malformed, refused, asked, job_of, values_of}
use Rattle.jobfile.specs.Made.{two_by_two}
use Rattle.jobfile.proofs.Values.{values-from}

-- a trailer that has so many bytes before it is right
pub record RightTrailer (t : List ℕ) (before : ℕ) : Type 0 where
  pub zero-byte : zero_of t ≡ 0
  pub zero-bytes : zeros_of t ≡ 0
  pub level : level_of t ≤ 1
  pub even : distance_of t % 2 ≡ 0
  pub in-front : distance_of t ≤ before

-- neither of two faults
neither : (a b : Bool) → pick a true b ≡ false → (a ≡ false) × (b ≡ false)
neither true b e = apart (sym e)
neither false b e = (refl, e)

-- a number that is not above 0, and one that is not odd
no_more : (x : ℕ) → ltb 0 x ≡ false → x ≡ 0
no_more x h = omega (arith, ltb-false 0 x h)

not-odd : (x : ℕ) → eqb (x % 2) 1 ≡ false → x % 2 ≡ 0
not-odd x h = omega (arith, eqb-false (x % 2) 1 h)

pub is_right : (t : List ℕ) (before : ℕ) → wrong t before ≡ false → RightTrailer t before
unfolding wrong
is_right t before h =
    let a = neither _ _ h in
    let b = neither _ _ a.1 in
    let d = neither _ _ b.1 in
    let e = neither _ _ d.1 in
    record {
      zero-byte = no_more (zero_of t) a.0;
      zero-bytes = no_more (zeros_of t) b.0;
      level = ltb-false _ _ d.0;
      even = not-odd (distance_of t) e.0;
      in-front = ltb-false _ _ e.1;
    }

-- what the reader needs of a trailer that is not wrong
pub distance-in-front : (t : List ℕ) (before : ℕ) → wrong t before ≡ false → distance_of t ≤ before
distance-in-front t before h = (is_right t before h).in-front

pub ruleset reads = (distance-in-front, lt-ltb, le-ltb)

not-wrong : (t : List ℕ) (before : ℕ) → RightTrailer t before → wrong t before ≡ false
unfolding wrong
not-wrong t before r =
    let e = r.even in
    simp (r.zero-byte, r.zero-bytes, le-ltb 1 _ r.level, ne_eqb (distance_of t % 2) 1 (λ o. omega arith), le-ltb _ _ r.in-front)

-- refusal 13 is given exactly where the file is under 16 bytes or its trailer is not right
pub record SoundFile (file : List ℕ) : Type 0 where
  pub long : 16 ≤ length file
  pub right : RightTrailer (trailer_of file) (length file - 16)

pub is-sound : (file : List ℕ) → malformed file ≡ false → SoundFile file
unfolding malformed
is-sound file h =
    let a = neither _ _ h in
    record { long = ltb-false _ _ a.0; right = is_right _ _ a.1 }

pub not-malformed : (file : List ℕ) → SoundFile file → malformed file ≡ false
unfolding malformed
not-malformed file s = simp (le-ltb _ _ s.long, not-wrong _ _ s.right)

pub answer-of : (file : List ℕ) → (job_of file).answer ≡ pick (malformed file) 13 0
unfolding job_of
answer-of file = by (malformed file)
  where
    by : (b : Bool) → (pick b refused (asked (trailer_of file) (length file - 16))).answer ≡ pick b 13 0
    by true = refl
    by false = refl

-- ---- values two by two
values-pairs : (n : ℕ) (bytes : List ℕ) → 2 * n ≤ length bytes → values_of bytes 0 n ≡ two_by_two (take (2 * n) bytes)
unfolding number field values_of two_by_two
values-pairs zero bytes h = refl
values-pairs (suc n) [] h = absurd (omega arith)
values-pairs (suc n) (a ∷ []) h = absurd (omega arith)
values-pairs (suc n) (a ∷ b ∷ bytes) h =
    let e : 2 * suc n ≡ suc (suc (2 * n)) = omega arith in
    rw e (ap₂ {A = ℕ} {B = List ℕ} {C = List ℕ} (λ x l. x ∷ l) (omega arith) (sym (values-from (a ∷ b ∷ bytes) 2 0 n) ∙ values-pairs n bytes (omega arith)))

-- the values of so many bytes that are there
pub values-two-by-two : (file : List ℕ) (start n : ℕ) → start + 2 * n ≤ length file → values_of file start n ≡ two_by_two (take (2 * n) (drop start file))
values-two-by-two file start n h =
    let e : start + 0 ≡ start = omega arith in
    ap (λ (k : ℕ). values_of file k n) (sym e) ∙ (sym (values-from file start 0 n) ∙ values-pairs n (drop start file) (omega (arith, length-drop start file)))

module _ (file : List ℕ) (sound : SoundFile file) where
  pub job-asked : job_of file ≡ asked (trailer_of file) (length file - 16)
  unfolding job_of
  job-asked = rw (not-malformed file sound)

  -- the image ends where the trailer begins
  pub image-ends : (job_of file).start + 2 * (job_of file).count ≡ length file - 16
  image-ends = rw job-asked (omega (arith, sound.right.even, sound.right.in-front))

  -- the values are the file's image
  pub values-image : values_of file (job_of file).start (job_of file).count ≡ two_by_two (take (2 * (job_of file).count) (drop (job_of file).start file))
  values-image = values-two-by-two file (job_of file).start (job_of file).count (omega (arith, image-ends))
