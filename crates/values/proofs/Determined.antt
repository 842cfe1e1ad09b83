-- Each exported function's promise determines its result: any two results that it allows are equal. Stated on the promise that is made from the source.
use Rattle.std.proofs.Common.{sym, ◌∙◌}
use Rattle.parts.proofs.Unique.{Unique}
use Rattle.values.proofs.search.decision_of.Kinds as decision-of-kinds
use Rattle.values.proofs.search.decision_of.Reads as decision-of-reads
use Rattle.values.proofs.search.leading.Kinds as leading-kinds
use Rattle.values.proofs.search.leading.Reads as leading-reads
use Rattle.values.proofs.total.sum.Kinds as sum-kinds
use Rattle.values.proofs.total.sum.Reads as sum-reads
use Rattle.values.proofs.fit.all_fit.Kinds as all-fit-kinds
use Rattle.values.proofs.fit.all_fit.Reads as all-fit-reads

pub decision-of-unique : Unique decision-of-kinds.ps decision-of-kinds.r decision-of-reads.Post
decision-of-unique κs a x y s t p q = p ∙ sym q

pub leading_unique : Unique leading-kinds.ps leading-kinds.r leading-reads.Post
leading_unique κs a x y s t p q = p ∙ sym q

pub sum-unique : Unique sum-kinds.ps sum-kinds.r sum-reads.Post
sum-unique κs a x y s t p q = p ∙ sym q

pub all-fit-unique : Unique all-fit-kinds.ps all-fit-kinds.r all-fit-reads.Post
all-fit-unique κs a x y s t p q = p ∙ sym q
