use Rattle.std.proofs.Common.{◌≡◌}
use Rattle.std.specs.Slice.Iter.{chunks_rest, chunks_size}
use Rattle.mapping.proofs.Randomizing.{Begun}
use Rattle.mapping.proofs.randomizer.RandomizedMapping.store_line.Given as goal

abbrev pub invariant-loop-chunk : goal.invariant-loop-chunk
invariant-loop-chunk g l =
    chunks_size l.chunk-iterator ≡ 255
    × (goal.iterator-loop-chunk g).is_finite l.chunk-iterator
    × Begun (g.M.Mapping.meaning l.self.below) l.line l.start l.wanted l.initial.memory l.memory (chunks_rest l.chunk-iterator) l.taken
