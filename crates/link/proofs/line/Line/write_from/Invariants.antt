use Rattle.std.proofs.Common.{◌-◌, ◌≤◌}
use Rattle.link.specs.Line.{block_line}
use Rattle.link.specs.Pieces.{FrontWritten, from}
use Rattle.link.proofs.line.Line.write_from.Given as goal

abbrev pub invariant-loop-written : goal.invariant-loop-written
invariant-loop-written g l =
    FrontWritten (from (block_line l.self.settings (g.M.Mapping.meaning l.self.mapping) l.memory) l.place) l.written l.initial.out l.out
    × (l.written ≤ l.size)

abbrev pub decreases-loop-written : goal.decreases-loop-written
decreases-loop-written g l = l.size - l.written
