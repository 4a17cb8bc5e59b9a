use Rattle.std.proofs.Common.{◌+◌, List, ℕ, ◌∙◌, subst, arith}
use Rattle.std.specs.Slice.Iter.{chunks_rest}
use Rattle.mapping.specs.Randomizer.{SequenceAdded}
use Rattle.mapping.proofs.Randomizing.{Begun, next_chunk, begun_all}
use Rattle.mapping.proofs.Stretching.{not_refused}
use Rattle.mapping.proofs.randomizer.RandomizedMapping.store_line.Goals as goal

pub loop-chunk-preserved : goal.loop-chunk-preserved
loop-chunk-preserved g c =
    let m = g.M.Mapping.meaning c.args.self.now.below in
    let line = c.args.line.now in
    let start = c.args.start in
    let chunk = c.in-Some.chunk.now in
    let rest = chunks_rest c.next.new.self in
    let cut = c.in-Some.ensures.steps in
    let first = c.in_ok-taken.ensures in
    let begun = not_refused m _ start first.0 in
    let wanted = c.min-wanted.result in
    let Left : List ℕ → Type 0 = λ xs. Begun m line start wanted c.store_line.new.memory c.loop-chunk.memory xs c.loop-chunk.taken in
    let Added : List ℕ → Type 0 = λ xs. SequenceAdded (start + c.loop-chunk.taken) xs c.add_sequence.new.octets in (
      cut.0 ∙ c.loop-chunk.invariant.0,
      tt,
      next_chunk m line c.store_line.new.memory c.loop-chunk.memory c.store_line-in-loop-chunk.new.memory chunk c.add_sequence.new.octets rest
          start wanted c.loop-chunk.taken c.in_ok-taken-2.field-0
          begun.0 (omega (arith, begun.1, first.1.size, c.min-wanted.ensures)) (omega (arith, c.min-wanted.ensures))
          (subst Left cut.1.0 c.loop-chunk.invariant.2) (subst Added c.copy_from_slice.ensures.after c.add_sequence.ensures) c.in_ok-taken-2.ensures.1,
    )

pub returns : goal.returns
returns g c =
    let m = g.M.Mapping.meaning c.args.self.now.below in
    let start = c.args.start in
    let first = c.in_ok-taken.ensures in
    let begun = not_refused m _ start first.0 in (
      first.0,
      begun_all m c.args.line.now c.args.memory.now c.store_line.new.memory c.loop-chunk.memory (chunks_rest c.loop-chunk.chunk-iterator)
          start c.min-wanted.result c.in_ok-taken.taken c.loop-chunk.taken first.1 (omega (arith, begun.1, first.1.size, c.min-wanted.ensures))
          c.in-None.ensures.steps.1.0 c.loop-chunk.invariant.2,
    )
