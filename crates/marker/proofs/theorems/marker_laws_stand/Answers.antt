use Rattle.marker.proofs.Differences.{marker_laws}
use Rattle.marker.proofs.theorems.marker_laws_stand.Goals as goal

pub returns : goal.returns
returns c = marker_laws
