use Rattle.std.proofs.Common.{◌+◌}
use Rattle.mapping.specs.Bulk.{line_octet}
use Rattle.mapping.specs.Interleaver.{interleaved, step_of}
use Rattle.mapping.specs.Walk.{At}
use Rattle.mapping.proofs.Stretching.{Filled}
use Rattle.mapping.proofs.interleaved.Interleaved.write_stretch.Given as goal

abbrev pub invariant-loop-octet : goal.invariant-loop-octet
invariant-loop-octet l =
    Filled (λ j. line_octet (interleaved l.self.settings l.self.interleaver) l.memory (l.start + j)) l.initial.octet-items l.octet-items l.octet-index
    × At l.self.settings (step_of l.self.interleaver) (l.start + l.octet-index) l.walk
