use Rattle.std.proofs.Common.{None, sym, refl, ◌∙◌, rules}
use Rattle.std.proofs.lemmas.Slice.Zip.{either_empty_from_Zip}
use Rattle.values.proofs.Turns.{bit-hit, bit-none, rest-hit, rest-miss, rest-none}
use Rattle.values.proofs.search.first_rise.Goals as goal

pub cells-preserved : goal.cells-preserved
cells-preserved c = let h = c.in-Some.ensures.steps in
    let miss = rest-miss _ c.in-Some.i _ _ _ _ _ _ h.0.0 h.0.1 (c.loop-bit.invariant.rest ∙ bit-none _ _ _ _ _ c.loop-bit-test.false) in
    record { none = c.loop-bit.invariant.none; can = search rules; finite = search rules; rest = cc (c.cells.invariant.rest, miss, h.1, h.2) }

pub returns-in-None : goal.returns-in-None
returns-in-None c = c.cells.invariant.none ∙ sym (c.cells.invariant.rest ∙ rest-none _ _ _ _ (either_empty_from_Zip _ c.next.new.self.iter None refl c.in-None.ensures.steps.0))

pub returns-then-n-eq1 : goal.returns-then-n-eq1
returns-then-n-eq1 c = let h = c.in-Some.ensures.steps in
    let l = c.loop-bit in
    let hit = rest-hit _ c.in-Some.i _ _ _ _ _ _ h.0.0 h.0.1 _ (l.invariant.rest ∙ bit-hit _ _ _ _ _ c.loop-bit-test.true c.if-o-eq0.true c.if-n-eq1.true) in
    cc (c.cells.invariant.rest, hit, h.1)
