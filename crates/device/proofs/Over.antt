-- A function applied to each cell of a range: what a lent range has come back as, and a store at one cell.
use mathlib.Core.Path.{◌≡◌, sym, ◌∙◌}
use mathlib.Core.List.{List, ◌++◌, map}
use Prim.Native.Nat.{ℕ, ◌<◌}
use native.Mathlib.Omega.{arith}
use lib.ListN.{length, get_or, set, take, drop, length-append, length-take, length-drop, length-map}
use lib.Seq.{set_split, drop-cons}
use Rattle.parts.specs.Span.{span}
use Rattle.parts.specs.declared.span.Span.{Span}
use Rattle.device.specs.Operation.{over}

module _ (f : ℕ → ℕ) where
  -- a range that was lent and has come back, said of the whole
  pub over-part : (cells back : List ℕ) (s : Span) (k : ℕ) → k ≡ s.count → back ≡ map f (take k (drop s.first cells))
      → take s.first cells ++ (back ++ drop k (drop s.first cells)) ≡ over f s cells
  over-part cells back s k e h = cc

  -- a range of one cell is a store
  pub over-one : (cells : List ℕ) (a : ℕ) → a < length cells → set cells a (f (get_or cells a 0)) ≡ over f (span a 1) cells
  over-one cells a h =
      set_split cells a (f (get_or cells a 0)) h
      ∙ sym (rw (drop-cons cells a 0 h))

  -- no cell is gained or lost
  pub over-length : (s : Span) (cells : List ℕ) → length (over f s cells) ≡ length cells
  over-length s cells = simp (length-append, length-map, length-take, length-drop) (omega arith)
