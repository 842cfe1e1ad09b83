-- Each exported function's promise determines its result. Stated on the promise that is made from the source.
use mathlib.Core.Path.{sym, ◌∙◌}
use Rattle.parts.proofs.Unique.{Unique}
use Rattle.device.proofs.state.no_operation.Kinds as no-operation-kinds
use Rattle.device.proofs.state.no_operation.Reads as no-operation-reads
use Rattle.device.proofs.state.fresh.Kinds as fresh-kinds
use Rattle.device.proofs.state.fresh.Reads as fresh-reads

pub no-operation-unique : Unique no-operation-kinds.ps no-operation-kinds.r no-operation-reads.Post
no-operation-unique κs a x y s t p q = p ∙ sym q

pub fresh-unique : Unique fresh-kinds.ps fresh-kinds.r fresh-reads.Post
fresh-unique κs a x y s t p q = p ∙ sym q
