-- The promise of a bus cycle determines its reply and every lent cell. Stated on the promise that is made from the source.
use mathlib.Core.Path.{◌≡◌, sym, ◌∙◌}
use contract.Lifetimes.{Lfts}
use borrow.Fn.Kinds.{Dens, ended_of, res_t}
use denote.Triple.Clauses.{AtExit}
use Rattle.chip.proofs.cycle.bus_cycle.Kinds.{ps, r}
use Rattle.chip.proofs.cycle.bus_cycle.Reads.{Post}

-- any two outcomes that the promise allows have the same reply and leave the same cells
pub bus-cycle-unique : (κs : Lfts 1) (a : Dens κs ps) (x y : (res_t r κs).Denot) (s t : AtExit (ended_of 1 ps r) κs)
    → Post κs a x s → Post κs a y t → (x ≡ y) × (s.1.0.now ≡ t.1.0.now)
bus-cycle-unique κs a x y s t p q = (p.0 ∙ sym q.0, p.1 ∙ sym q.1)
