use Rattle.std.proofs.Common.{arith}
use Rattle.settings.proofs.Ranges.{product_fits, period_high}
use Rattle.link.proofs.Lengths.{subframes_high}
use Rattle.link.proofs.tests.receiver.heard.Goals as goal

pub overflow_mul-length : goal.overflow_mul-length
overflow_mul-length g c =
    product_fits c.subframes.result c.period.result
    (omega (arith, c.subframes.ensures, subframes_high c.args.settings)) (omega (arith, c.period.ensures, period_high c.args.settings))
