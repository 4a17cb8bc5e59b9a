use Rattle.marker.proofs.Markers.{figures}
use Rattle.marker.proofs.theorems.figures_stand.Goals as goal

pub returns : goal.returns
returns c = figures
