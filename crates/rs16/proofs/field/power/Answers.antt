use Rattle.std.proofs.Common.{sym, ◌∙◌}
use Rattle.rs16.specs.Field.{times_alpha}
use Rattle.rs16.specs.Powers.{powers, table_510, pow_exp}
use Rattle.rs16.proofs.field.power.Goals as goal

pub returns : goal.returns
unfolding powers times_alpha
returns c = table_510 c.args.i c.requires ∙ sym (pow_exp c.args.i)
