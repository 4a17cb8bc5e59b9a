use Rattle.mapping.proofs.Reach.{ridden}
use Rattle.mapping.proofs.theorems.ridden_fade.Goals as goal

pub returns : goal.returns
returns g c = ridden _ (g.met.M.Mapping.lawful c.args.mapping.now) c.args.reach _ c.fade.ensures
