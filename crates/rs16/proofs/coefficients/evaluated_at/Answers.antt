use Rattle.std.proofs.Common.{◌≡◌, ◌∙◌, reverse, rules}
use Rattle.std.specs.List.{fold}
use Rattle.rs16.specs.Field.{pow, alpha}
use Rattle.rs16.proofs.Folds.{horner_step_right, eval_by_fold_right}
use Rattle.rs16.proofs.coefficients.evaluated_at.Goals as goal

pub returns : goal.returns
returns c =
    let folded : c.fold.result ≡ fold (horner_step_right (pow alpha c.args.e)) 0 (reverse c.args.p.now) = search rules in
    folded ∙ eval_by_fold_right c.args.p.now (pow alpha c.args.e)
