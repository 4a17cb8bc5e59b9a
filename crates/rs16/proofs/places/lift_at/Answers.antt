use Rattle.std.proofs.Common.{◌∙◌}
use Rattle.rs16.specs.Locators.{lift_power}
use Rattle.rs16.proofs.places.lift_at.Goals as goal

pub returns : goal.returns
returns c = c.power.ensures ∙ lift_power c.args.k
