use Rattle.std.proofs.Common.{◌*◌, ap₂, arith}
use Rattle.link.proofs.Lengths.{line_high}
use Rattle.link.proofs.line.Line.length.Goals as goal

pub overflow_mul-result : goal.overflow_mul-result
overflow_mul-result g c = omega (arith, line_high c.args.self.now.settings, ap₂ (λ a b. a * b) c.subframes.ensures c.period.ensures)
