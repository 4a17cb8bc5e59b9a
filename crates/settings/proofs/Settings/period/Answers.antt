use Rattle.std.proofs.Common.{arith}
use Rattle.settings.proofs.Ranges.{subframe_data_high}
use Rattle.settings.proofs.Settings.period.Goals as goal

pub overflow_add-result : goal.overflow_add-result
overflow_add-result c = omega (arith, subframe_data_high c.args.self.now)
