use Rattle.mapping.proofs.Worked.{figures}
use Rattle.mapping.proofs.theorems.figures_stand.Goals as goal

pub returns : goal.returns
returns c = figures
