use Rattle.std.proofs.Common.{◌≡◌, ◌∙◌, reverse, rules}
use Rattle.std.specs.List.{fold}
use Rattle.rs16.proofs.Folds.{horner_step, eval_by_fold}
use Rattle.rs16.proofs.coefficients.evaluated.Goals as goal

pub returns : goal.returns
returns c =
    let folded : c.fold.result ≡ fold (horner_step c.args.x) 0 (reverse c.args.p.now) = search rules in
    folded ∙ eval_by_fold c.args.p.now c.args.x
