use Rattle.rs16.specs.Remainders.{lawful}
use Rattle.rs16.proofs.laws.rs16_is_lawful.Goals as goal

pub returns : goal.returns
returns c = lawful
