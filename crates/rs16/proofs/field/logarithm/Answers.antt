use Rattle.std.proofs.Common.{ap, ◌∙◌, rules}
use Rattle.rs16.specs.Field.{times_alpha, pow, alpha}
use Rattle.rs16.specs.Powers.{powers, place, table, log, logs_right, log_power}
use Rattle.rs16.proofs.field.logarithm.Goals as goal

pub returns : goal.returns
unfolding log place table powers times_alpha
returns c =
    let right = logs_right c.args.a c.requires (search rules) in
    record { low = right.1; power = ap (pow alpha) right.0 ∙ log_power c.args.a c.requires (search rules) }
