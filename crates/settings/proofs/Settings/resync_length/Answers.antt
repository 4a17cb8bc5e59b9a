use Rattle.std.proofs.Common.{arith}
use Rattle.settings.proofs.Ranges.{ranges, period_high, product_fits}
use Rattle.settings.proofs.Settings.resync_length.Goals as goal

pub overflow_mul-result : goal.overflow_mul-result
overflow_mul-result c =
    let r = ranges c.args.self.now in product_fits _ _ (omega arith) (omega (arith, period_high c.args.self.now))
