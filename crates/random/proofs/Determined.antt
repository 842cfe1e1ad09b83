-- The exported function's promise determines its result and where the row is afterwards: any two outcomes that it allows are equal.
-- Stated on the promise that is made from the source.
use Rattle.std.proofs.Common.{◌≡◌, sym, ◌∙◌, ◌/◌, ◌%◌}
use contract.Lifetimes.{Lfts}
use borrow.Fn.Kinds.{Dens, ended_of, res_t}
use denote.Triple.Clauses.{AtExit}
use Rattle.random.proofs.Random.word.Kinds as word-kinds
use Rattle.random.proofs.Random.word.Reads as word-reads

pub word-unique : (κs : Lfts 1) (a : Dens κs word-kinds.ps) (x y : (res_t word-kinds.r κs).Denot)
    (s t : AtExit (ended_of 1 word-kinds.ps word-kinds.r) κs) → word-reads.Post κs a x s → word-reads.Post κs a y t
    → (x ≡ y) × (s.0.now.state ≡ t.0.now.state)
word-unique κs a x y s t p q =
    let e : s.0.now.state ≡ t.0.now.state = p.0 ∙ sym q.0 in
    let w : s.0.now.state / 4096 % 65536 ≡ t.0.now.state / 4096 % 65536 = rw e in
    (p.1 ∙ (w ∙ sym q.1), e)
