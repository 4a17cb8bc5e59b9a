use Rattle.std.proofs.Common.{◌≡◌, ◌+◌, ◌*◌, ◌%◌, ap, ◌∙◌, rules}
use Rattle.std.specs.List.{fold}
use Rattle.rs16.specs.Codewords.{value}
use Rattle.rs16.specs.Field.{pow, alpha}
use Rattle.rs16.specs.Locators.{root_power}
use Rattle.rs16.proofs.Folds.{value_step, value_by_fold}
use Rattle.rs16.proofs.calls.value_at.Goals as goal

pub returns : goal.returns
returns c =
    let folded : c.fold.result ≡ fold (value_step (pow alpha (11 * (112 + c.args.m) % 255))) 0 c.args.octets.now = search rules in
    folded ∙ value_by_fold c.args.octets.now (pow alpha (11 * (112 + c.args.m) % 255)) ∙ ap (value c.args.octets.now) (root_power c.args.m)
