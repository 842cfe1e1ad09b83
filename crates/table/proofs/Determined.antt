-- Each exported function's promise determines its result: any two results that it allows are equal. Stated on the promise that is made from the source.
use Rattle.std.specs.Prelude.{◌≡◌, ℕ, Result, Ok, Err}
use mathlib.Core.Path.{ap, sym, ◌∙◌}
use Rattle.parts.specs.declared.refusal.Refusal.{Refusal}
use Rattle.parts.proofs.Told.{number_of-injective, number_of-positive}
use Rattle.parts.proofs.Unique.{Unique}
use Rattle.table.specs.Figures.{Figure, told_figure}
use Rattle.parts.proofs.Told.{told-unique}
use Rattle.table.proofs.rows.part_row.Kinds as part-row-kinds
use Rattle.table.proofs.rows.part_row.Reads as part-row-reads
use Rattle.table.proofs.figure.part_figure.Kinds as part-figure-kinds
use Rattle.table.proofs.figure.part_figure.Reads as part-figure-reads

pub part-row-unique : Unique part-row-kinds.ps part-row-kinds.r part-row-reads.Post
part-row-unique κs a x y s t p q = told-unique x y _ _ p.0 p.1.0 q.0 q.1.0

-- what is told of a figure is told of no other result
told_figure-injective : (r s : Result ℕ Refusal) → told_figure r ≡ told_figure s → r ≡ s
told_figure-injective (Ok x) (Ok y) h = ap (λ (f : Figure). Ok f.value) h
told_figure-injective (Ok x) (Err f) h = absurd (number_of-positive f (sym (ap (λ (g : Figure). g.answer) h)))
told_figure-injective (Err e) (Ok y) h = absurd (number_of-positive e (ap (λ (g : Figure). g.answer) h))
told_figure-injective (Err e) (Err f) h = ap Err (number_of-injective e f (ap (λ (g : Figure). g.answer) h))

pub part-figure-unique : Unique part-figure-kinds.ps part-figure-kinds.r part-figure-reads.Post
part-figure-unique κs a x y s t p q = told_figure-injective x y (p ∙ sym q)
