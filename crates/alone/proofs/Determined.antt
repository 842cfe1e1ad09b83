-- The promise determines the result and what the lent cells hold afterwards: any two outcomes that it allows are equal. Stated on the
-- promise that is made from the source.
use mathlib.Core.Path.{◌≡◌, sym, ◌∙◌}
use contract.Lifetimes.{Lfts}
use borrow.Fn.Kinds.{Dens, ended_of, res_t}
use denote.Triple.Clauses.{AtExit}
use Rattle.alone.proofs.station_load_alone.Kinds as kinds
use Rattle.alone.proofs.station_load_alone.Reads as reads

pub load-alone-unique : (κs : Lfts 2) (a : Dens κs kinds.ps) (x y : (res_t kinds.r κs).Denot) (s t : AtExit (ended_of 2 kinds.ps kinds.r) κs)
    → reads.Post κs a x s → reads.Post κs a y t → (x ≡ y) × (s.1.0.now ≡ t.1.0.now)
load-alone-unique κs a x y s t p q = (p.0 ∙ sym q.0, p.1 ∙ sym q.1)
