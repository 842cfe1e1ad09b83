-- The least table time for an image: a sum over the sectors, each by how many of its values differ, must rise, or are not blank.
-- Of a position, o is the cell and x the image's value.
use Rattle.std.specs.Prelude.{Bool, not, List, [], ◌∷◌, ℕ, zero, suc, ◌+◌, ◌*◌, eqb, ltb, take, drop}
use Rattle.std.specs.Int.Bits.{bit_and}
use Rattle.parts.specs.Pick.{pick}
use Rattle.parts.specs.Width.{value_of}
use Rattle.least.specs.Operations.{blanks}

-- at how many of the positions that both lists have the test holds
abbrev pub count : (ℕ → ℕ → Bool) → List ℕ → List ℕ → ℕ
count test [] image = 0
count test (o ∷ cells) [] = 0
count test (o ∷ cells) (x ∷ image) = pick (test o x) 1 0 + count test cells image

module _ (w : ℕ) where
  -- the cell's value is not the image's
  abbrev pub differs : ℕ → ℕ → Bool
  differs o x = not (eqb (value_of w o) (value_of w x))

  -- a bit of the cell must rise: old AND new is not new
  abbrev pub rises : ℕ → ℕ → Bool
  rises o x = differs (bit_and o x) x

  -- how many cells have a bit that must rise, how many values differ, and how many of the image's are not blank
  abbrev pub rising : List ℕ → List ℕ → ℕ
  rising cells image = count rises cells image

  abbrev pub differing : List ℕ → List ℕ → ℕ
  differing cells image = count differs cells image

  abbrev pub non_blank : List ℕ → ℕ
  non_blank image = differing (blanks w image) image

-- one sector: where a bit must rise, an erase and a program for each image value that is not blank; else a program for each value that differs
unfoldable pub sector_time : ℕ → ℕ → ℕ → List ℕ → List ℕ → ℕ
sector_time w tp te cells image =
    pick (ltb 0 (rising w cells image)) (te + non_blank w image * tp) (differing w cells image * tp)

module _ (w S tp te : ℕ) where
  -- the first n sectors
  abbrev pub sectors_time : ℕ → List ℕ → List ℕ → ℕ
  sectors_time zero cells image = 0
  sectors_time (suc n) cells image = sector_time w tp te (take S cells) (take S image) + sectors_time n (drop S cells) (drop S image)

  -- the n sectors from sector f on
  abbrev pub least_time : ℕ → ℕ → List ℕ → List ℕ → ℕ
  least_time f n cells image = sectors_time n (drop (f * S) cells) image
