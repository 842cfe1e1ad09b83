-- Parts of an image: their length, and the next mark.
use Prim.Native.Nat.{ℕ, ◌+◌, ◌-◌, ◌≤◌}
use mathlib.Core.Path.{◌≡◌, sym, ap}
use mathlib.Core.List.{List}
use native.Mathlib.Omega.{arith}
use lib.ListN.{length, take, drop, length-take, length-drop}
use Rattle.parts.specs.Width.{blank_of}
use Rattle.parts.proofs.Values.{blank-word}
use Rattle.values.specs.Search.{leading_of}
use Rattle.values.proofs.Places.{leading_le}
use Rattle.job.specs.declared.loader.Job.{Job}
use Rattle.job.specs.Loader.{next_mark}

pub part_length : (l : List ℕ) (a n : ℕ) → a + n ≤ length l → length (take n (drop a l)) ≡ n
part_length l a n h = simp (length-take, length-drop) (omega arith)

pub leading-part : (v : ℕ) (l : List ℕ) (a n : ℕ) → a + n ≤ length l → leading_of v (take n (drop a l)) ≤ n
leading-part v l a n h = omega (arith, leading_le v (take n (drop a l)), part_length l a n h)

-- n more blank values of an image in front of its next mark
pub next-mark : (j : Job) (image : List ℕ) (base i b n : ℕ) → b ≡ blank_of j.row.width
    → n ≡ leading_of b (take (base + j.size - (base + i)) (drop (base + i) image)) → next_mark j image base i ≡ i + n
next-mark j image base i b n q h = let e : base + j.size - (base + i) ≡ j.size - i = omega arith in ap (λ (n : ℕ). i + n) (sym (rw (e, q) at h))

-- what the check proves the fill of a sector by
pub ruleset marks = (leading-part, next-mark, blank-word)
