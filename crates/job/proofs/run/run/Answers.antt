use Prim.Native.Nat.{◌-◌, ◌≤◌, ◌<◌}
use mathlib.Core.Path.{refl, ◌∙◌}
use native.Mathlib.Omega.{arith}
use Rattle.job.proofs.Loop.{counts_up, starts, turns, stopped, passed, one_more}
use Rattle.job.proofs.run.run.Goals as goal

pub loop-held-init : goal.loop-held-init
loop-held-init c = let g = c.args in
    let n = c.none_sent-held in
    let t = c.next_sector-turn in
    (refl, starts g.work.now.job g.work.now.image.now g.k t.result g.cells.now n.result n.ensures t.ensures)

pub returns-in_default : goal.returns-in_default
returns-in_default c = let g = c.args in
    let l = c.loop-held in
    let n = c.stop_number-answer in
    stopped g.work.now.job g.work.now.image.now (g.k - l.held.sent) _ n.result l.seen _ _ _ _ c.in_default.is n.ensures l.invariant.1.1.1

pub send-held-requires : goal.send-held-requires
send-held-requires c = let l = c.loop-held in
    let n : l.held.sent < 2147483648 = omega (arith, c.loop-held-test.true, c.requires) in record { counts_fit = counts_up l.held.tally l.held.sent 2147483648 (omega arith) l.invariant.1.1.0; sent_bound = n }

pub loop-held-smaller : goal.loop-held-smaller
loop-held-smaller c = let test = c.loop-held-test.true in
    omega (arith, one_more _ _ _ _ _ c.send-held.ensures.0, test)

pub loop-held-preserved : goal.loop-held-preserved
loop-held-preserved c = let s = c.send-held in
    let t = c.in-Play in
    let g = c.args in
    let l = c.loop-held in
    let short : t.cycle.elapsed ≤ 4294967295 = omega arith in
    let test = c.loop-held-test.true in
    let go = turns g.work.now.job g.work.now.image.now g.k l.seen _ l.turn c.turn-turn.result t.loader t.purpose t.cycle l.cells _ l.held s.result _ in
    (s.auto.cells ∙ l.invariant.0, go test t.is s.ensures.0 s.ensures.1 c.turn-turn.ensures.0 c.turn-turn.ensures.1 short l.invariant.1)

pub returns : goal.returns
returns c = let n = c.stop_number-answer-2 in passed _ _ _ _ n.result _ _ _ _ _ c.loop-held-test.false n.ensures c.loop-held.invariant.1.1.1
