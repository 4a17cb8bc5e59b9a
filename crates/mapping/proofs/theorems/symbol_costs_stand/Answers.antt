use Rattle.mapping.proofs.Costs.{symbol_costs}
use Rattle.mapping.proofs.theorems.symbol_costs_stand.Goals as goal

pub returns : goal.returns
returns c = symbol_costs c.args.settings.now
