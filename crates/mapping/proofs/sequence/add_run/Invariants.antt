use Rattle.std.proofs.Common.{◌+◌, get_or}
use lib.Bits.{bit_xor}
use Rattle.mapping.specs.Randomizer.{sequence}
use Rattle.mapping.proofs.Stretching.{Filled}
use Rattle.mapping.proofs.sequence.add_run.Given as goal

abbrev pub invariant-loop-i : goal.invariant-loop-i
invariant-loop-i l = Filled (λ j. bit_xor (get_or l.initial.octets j 0) (sequence (l.turn + j))) l.initial.octets l.octets l.i
