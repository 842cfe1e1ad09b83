-- Each exported function's promise determines its result. Stated on the promise that is made from the source.
use mathlib.Core.Path.{sym, ◌∙◌}
use Rattle.parts.proofs.Unique.{Unique}
use Rattle.billing.proofs.file.bill_file.Kinds as bill-file-kinds
use Rattle.billing.proofs.file.bill_file.Reads as bill-file-reads

pub bill-file-unique : Unique bill-file-kinds.ps bill-file-kinds.r bill-file-reads.Post
bill-file-unique κs a x y s t p q = p ∙ sym q
