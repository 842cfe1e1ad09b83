-- The exported function's promise determines its result: any two results that it allows are equal. Stated on the promise that is made from the source.
use mathlib.Core.Path.{sym, ◌∙◌}
use Rattle.parts.proofs.Unique.{Unique}
use Rattle.commands.proofs.effect.effect_of.Kinds as effect-of-kinds
use Rattle.commands.proofs.effect.effect_of.Reads as effect-of-reads

pub effect-of-unique : Unique effect-of-kinds.ps effect-of-kinds.r effect-of-reads.Post
effect-of-unique κs a x y s t p q = p ∙ sym q
