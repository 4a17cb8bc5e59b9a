use Rattle.rs16.proofs.Theorems.{field_lawful}
use Rattle.rs16.proofs.laws.field_is_lawful.Goals as goal

pub returns : goal.returns
returns c = field_lawful
