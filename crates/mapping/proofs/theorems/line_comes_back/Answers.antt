use Rattle.mapping.proofs.Returning.{comes_back}
use Rattle.mapping.proofs.theorems.line_comes_back.Goals as goal

pub returns : goal.returns
returns g c = comes_back _ (g.met.M.Mapping.lawful c.args._mapping.now)
