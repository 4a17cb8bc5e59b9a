use Rattle.std.proofs.Common.{◌*◌, ap, arith}
use Rattle.link.proofs.Rows.{row_top}
use Rattle.link.proofs.block.row_start.Goals as goal

pub returns-clause-ends : goal.returns-clause-ends
returns-clause-ends c =
    omega (arith, row_top c.args.settings.now c.args.row c.requires, ap (λ n. c.args.row * n) c.row_length.ensures)
