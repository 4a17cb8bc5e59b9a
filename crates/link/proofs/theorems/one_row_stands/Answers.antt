use Rattle.link.proofs.OneRow.{one_row}
use Rattle.link.proofs.theorems.one_row_stands.Goals as goal

pub returns : goal.returns
returns g c = one_row c.args.depth (g.C.Code.meaning c.args.code.now) (g.met.C.Code.lawful c.args.code.now)
