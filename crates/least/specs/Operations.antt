-- Programs and sector erases on the cells of a part: what each leaves, and the table time that it takes.
-- Free in this crate: the width w, the sector's size S, the table times tp of a program and te of a sector erase.
use Rattle.std.specs.Prelude.{◌≡◌, List, [], ◌∷◌, ◌++◌, map, ℕ, ◌+◌, ◌*◌, ◌<◌, get_or, set, take, drop}
use Rattle.std.specs.Int.Bits.{bit_and}
use Rattle.parts.specs.Width.{blank_of, value_of}

-- an operation: program an address with data, or erase a sector by its number
pub data Op : Type 0 where
  Program : ℕ → ℕ → Op
  Erase : ℕ → Op

module _ (w : ℕ) where
  -- program leaves old AND data
  abbrev pub programmed : ℕ → ℕ → ℕ
  programmed old d = value_of w (bit_and old d)

  -- erase leaves blank, in each of the cells
  abbrev pub blanks : List ℕ → List ℕ
  blanks cells = map (λ o. blank_of w) cells

  -- the cells, of which so many from address a on are erased
  unfoldable pub erased : ℕ → ℕ → List ℕ → List ℕ
  erased a many cells = take a cells ++ (blanks (take many (drop a cells)) ++ drop (a + many) cells)

module _ (w S : ℕ) where
  -- what an operation leaves, whatever its address or sector: past the last cell there is nothing to change
  abbrev pub operate : Op → List ℕ → List ℕ
  operate (Program a d) cells = set cells a (programmed w (get_or cells a 0) d)
  operate (Erase s) cells = erased w (s * S) S cells

  -- one operation after the other
  abbrev pub operate_all : List Op → List ℕ → List ℕ
  operate_all [] cells = cells
  operate_all (op ∷ ops) cells = operate_all ops (operate op cells)

  -- the n sectors from sector f on hold the image: meant of values
  abbrev pub Holds : ℕ → ℕ → List ℕ → List ℕ → Type 0
  Holds f n cells image = (i : ℕ) → i < n * S → value_of w (get_or cells (f * S + i) 0) ≡ value_of w (get_or image i 0)

module _ (tp te : ℕ) where
  -- the table time of an operation
  abbrev pub cost : Op → ℕ
  cost (Program a d) = tp
  cost (Erase s) = te

  -- the table times added up
  abbrev pub cost_all : List Op → ℕ
  cost_all [] = 0
  cost_all (op ∷ ops) = cost op + cost_all ops
