use Rattle.link.proofs.Refused.{sender_laws}
use Rattle.link.proofs.theorems.sender_laws_stand.Goals as goal

pub returns : goal.returns
returns g c = sender_laws c.args.settings.now (g.C.Code.meaning c.args.code.now) (g.M.Mapping.meaning c.args.mapping.now)
