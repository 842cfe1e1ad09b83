use Rattle.std.proofs.Common.{sym, ◌∙◌, rules}
use Rattle.values.proofs.Turns.{fit-more, fit-ends, fit_none}
use Rattle.values.proofs.fit.all_fit.Goals as goal

pub returns-then-not-fits : goal.returns-then-not-fits
returns-then-not-fits c = let g = c.args in
    sym (fit-ends g.width g.image.now c.loop-x.x-index (search rules) (search rules)) ∙ c.loop-x.invariant

pub loop-x-preserved : goal.loop-x-preserved
loop-x-preserved c = let g = c.args in
    sym (fit-more g.width g.image.now c.loop-x.x-index (search rules) (search rules)) ∙ c.loop-x.invariant

pub returns : goal.returns
returns c = sym (fit_none c.args.width c.args.image.now c.loop-x.x-index (search rules)) ∙ c.loop-x.invariant
