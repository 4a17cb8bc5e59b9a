use Rattle.std.proofs.Common.{◌∙◌}
use Rattle.rs16.specs.Locators.{locator_power}
use Rattle.rs16.proofs.places.locator_at.Goals as goal

pub returns : goal.returns
returns c = c.power.ensures ∙ locator_power c.args.k
