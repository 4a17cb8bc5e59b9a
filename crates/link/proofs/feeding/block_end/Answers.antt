use Rattle.std.proofs.Common.{arith}
use Rattle.link.proofs.Lengths.{subframe_data_some}
use Rattle.link.proofs.feeding.block_end.Goals as goal

pub overflow_sub-subframe_data : goal.overflow_sub-subframe_data
overflow_sub-subframe_data c = omega (arith, c.subframe_data.ensures, subframe_data_some c.args.settings.now)
