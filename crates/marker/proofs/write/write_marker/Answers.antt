use Rattle.std.proofs.Common.{rules}
use Rattle.marker.specs.Marker.{marker}
use Rattle.marker.proofs.write.write_marker.Goals as goal

pub returns : goal.returns
unfolding marker
returns c = search rules
