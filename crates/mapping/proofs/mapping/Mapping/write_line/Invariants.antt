use Rattle.std.proofs.Common.{◌+◌}
use Rattle.mapping.specs.Bulk.{line_octet}
use Rattle.mapping.proofs.Stretching.{Filled}
use Rattle.mapping.proofs.mapping.Mapping.write_line.Given as goal

abbrev pub invariant-loop-i : goal.invariant-loop-i
invariant-loop-i g l = Filled (λ j. line_octet (g.Self.Mapping.meaning l.self) l.memory (l.start + j)) l.initial.octet-items l.octet-items l.i
