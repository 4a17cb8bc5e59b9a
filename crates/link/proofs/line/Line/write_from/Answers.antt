use Rattle.std.proofs.Common.{◌+◌, ◌-◌, ◌≤◌, length, get_or, take, drop, ap, add_assoc, arith, length-take}
use Rattle.link.specs.Line.{block_line}
use Rattle.link.specs.Pieces.{from}
use Rattle.link.proofs.Pieces.{front_more}
use Rattle.link.proofs.line.Line.write_from.Goals as goal

pub loop-written-preserved : goal.loop-written-preserved
loop-written-preserved g c =
    let line = block_line c.args.self.now.settings (g.M.Mapping.meaning c.args.self.now.mapping) c.args.memory.now in
    let room : length (take (c.min-size.result - c.loop-written.written) (drop c.loop-written.written c.loop-written.out)) ≤ c.min-size.result - c.loop-written.written =
    simp length-take (omega arith) in
    let few : c.write_piece-written.result ≤ c.min-size.result - c.loop-written.written = omega (arith, c.write_piece-written.ensures.fits) in (
      front_more (from line c.args.place) (from line (c.args.place + c.loop-written.written)) c.loop-written.written (c.min-size.result - c.loop-written.written)
          c.write_piece-written.result c.args.out.now c.loop-written.out c.write_piece-written.new.out
          c.loop-written.invariant.0 c.write_piece-written.ensures.front
          (λ i l. ap (λ n. get_or line n 0) (add_assoc c.args.place c.loop-written.written i))
          (omega (arith, c.min-size.ensures, c.loop-written.invariant.0.size)) few,
      omega arith,
    )
