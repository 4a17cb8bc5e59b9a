use Rattle.std.proofs.Common.{◌+◌, get_or}
use lib.Bits.{bit_xor}
use Rattle.mapping.specs.Interleaver.{interleaved, step_of}
use Rattle.mapping.specs.Walk.{At}
use Rattle.mapping.proofs.Stretching.{Stored}
use Rattle.mapping.proofs.interleaved.Interleaved.store_stretch.Given as goal

abbrev pub invariant-loop-octet : goal.invariant-loop-octet
invariant-loop-octet l =
    Stored (interleaved l.self.settings l.self.interleaver) (λ j. bit_xor (get_or l.line j 0) 0) l.start l.initial.memory l.memory l.octet-index
    × At l.self.settings (step_of l.self.interleaver) (l.start + l.octet-index) l.walk
