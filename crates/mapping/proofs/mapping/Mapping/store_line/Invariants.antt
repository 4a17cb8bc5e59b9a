use Rattle.std.proofs.Common.{◌+◌, get_or}
use lib.Bits.{bit_xor}
use Rattle.mapping.proofs.Stretching.{Stored}
use Rattle.mapping.proofs.mapping.Mapping.store_line.Given as goal

abbrev pub invariant-loop-i : goal.invariant-loop-i
invariant-loop-i g l =
    Stored (g.Self.Mapping.meaning l.self) (λ j. bit_xor (get_or l.line j 0) ((g.Self.Mapping.meaning l.self).mask (l.start + j)))
    l.start l.initial.memory l.memory l.i
