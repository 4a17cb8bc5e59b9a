use Rattle.std.proofs.Common.{rules}
use Rattle.mapping.specs.Interleaver.{symbol_fade}
use Rattle.mapping.proofs.interleaved.InterleavedMapping.fade.Goals as goal

pub returns : goal.returns
unfolding symbol_fade
returns c = search rules
