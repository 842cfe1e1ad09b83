use Rattle.std.proofs.Common.{◌∙◌, rules}
use Rattle.std.proofs.iter.runs.Made.{chains}
use Rattle.values.proofs.Turns.{fold-sum}
use Rattle.values.proofs.total.sum.Goals as goal

pub returns : goal.returns
returns c = search (rules, chains) ∙ fold-sum c.args.width c.args.cells.now
