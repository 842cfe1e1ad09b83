use Rattle.std.proofs.Common.{◌≡◌, ◌∙◌, rules, eqb, ℕ, arith}
use Rattle.std.proofs.lemmas.Iterator.{YieldsList-from_slice}
use Rattle.std.proofs.lemmas.Iterator.Consumers.{count_from_yields_List, YieldsList-at}
use Rattle.std.proofs.lemmas.Iterator.Search.{YieldsList-from_take_while}
use Rattle.std.proofs.lemmas.List.Folds.{length-prefix_len}
use Rattle.parts.proofs.Rules.{tests}
use Rattle.values.specs.Search.{leading_of}
use Rattle.values.proofs.Turns.{prefix-leading}
use Rattle.values.proofs.search.leading.Goals as goal

pub returns : goal.returns
returns c =
    let t = c.take_while in
    let xs = c.args.values.now in
    let test = λ (x : ℕ). eqb x c.args.v in
    let counted : c.count.result ≡ leading_of c.args.v xs =
    count_from_yields_List t.result _ c.count.ensures.ran (YieldsList-from_take_while _ test (YieldsList-at t.ensures.source (YieldsList-from_slice xs cc)) t.ensures.closure t.ensures.done (λ x b q k. search (rules, tests)))
    ∙ (length-prefix_len test xs ∙ prefix-leading c.args.v xs) in
    grind arith
