use Rattle.link.proofs.FedOctets.{any_chunking}
use Rattle.link.proofs.chunking.any_chunking_stands.Goals as goal

pub returns : goal.returns
returns c = any_chunking
