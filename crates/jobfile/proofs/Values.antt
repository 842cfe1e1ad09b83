-- Laws of a file's values: their number, one more at the end, those of a part of the file, and the loop that writes them.
use mathlib.Core.Path.{◌≡◌, refl, ap, ◌∙◌}
use mathlib.Core.List.{List, [], ◌∷◌, ◌++◌, append_assoc, append-nil}
use Prim.Native.Nat.{ℕ, zero, suc, ◌+◌, ◌*◌, ◌≤◌, ◌<◌}
use native.Mathlib.Nat.{le_antisymm}
use native.Mathlib.Numerals.{add-one}
use native.Mathlib.Omega.{arith}
use lib.ListN.{length, get_or, set, drop, drop_of_length-le}
use lib.Seq.{drop-cons, set_at}
use Rattle.jobfile.specs.Bytes.{field}
use Rattle.jobfile.specs.JobFile.{values_of}
use Rattle.jobfile.proofs.Fields.{field-from}

pub values_length : (file : List ℕ) (start n : ℕ) → length (values_of file start n) ≡ n
unfolding values_of
values_length file start zero = refl
values_length file start (suc n) = ap suc (values_length file (start + 2) n)

values-more : (file : List ℕ) (start n : ℕ) → values_of file start (suc n) ≡ values_of file start n ++ (field file (start + 2 * n) 2 ∷ [])
unfolding values_of
values-more file start zero = let e : start + 2 * 0 ≡ start = omega arith in rw e
values-more file start (suc n) =
    let e : start + 2 + 2 * n ≡ start + 2 * suc n = omega arith in
    ap (λ (l : List ℕ). field file start 2 ∷ l) (values-more file (start + 2) n ∙ rw e)

-- the values of the bytes from place b on
pub values-from : (file : List ℕ) (b a n : ℕ) → values_of (drop b file) a n ≡ values_of file (b + a) n
unfolding values_of
values-from file b a zero = refl
values-from file b a (suc n) =
    let e : b + (a + 2) ≡ b + a + 2 = omega arith in
    rw (field-from file b a 2, values-from file b (a + 2) n, e)

-- ---- the loop that writes each value in its place
module _ (bytes image : List ℕ) where
  -- what the image is before value i is written
  abbrev pub written : ℕ → List ℕ
  written i = values_of bytes 0 i ++ drop i image

  pub written-more : (now : List ℕ) (i v : ℕ) → now ≡ written i → v ≡ field bytes (2 * i) 2 → i < length image → set now i v ≡ written (i + 1)
  written-more now i v e f h =
      let z : 0 + 2 * i ≡ 2 * i = omega arith in
      ap (λ (l : List ℕ). set l i v) (e ∙ ap (λ (l : List ℕ). values_of bytes 0 i ++ l) (drop-cons image i 0 h))
      ∙ (set_at (values_of bytes 0 i) (get_or image i 0) (drop (suc i) image) v i (values_length bytes 0 i)
      ∙ rw (add-one i, values-more bytes 0 i, append_assoc, z, f))

  pub written_all : (i : ℕ) → i ≤ length image → length image ≤ i → written i ≡ values_of bytes 0 (length image)
  written_all i l h = rw (drop_of_length-le image h, append-nil, le_antisymm l h)

pub ruleset writes = (written-more, written_all)

pub values-begin : (file : List ℕ) (b n : ℕ) → values_of (drop b file) 0 n ≡ values_of file b n
values-begin file b n = let e : b + 0 ≡ b = omega arith in values-from file b 0 n ∙ rw e

pub ruleset begins = (values-begin)
