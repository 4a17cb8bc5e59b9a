use Rattle.std.proofs.Common.{sym, ap, ◌∙◌, rules}
use Rattle.rs16.specs.Field.{inv}
use Rattle.rs16.proofs.Inverses.{inverse_none, inverse_power}
use Rattle.rs16.proofs.field.inverse.Goals as goal

pub returns-then-a-eq0 : goal.returns-then-a-eq0
returns-then-a-eq0 c = inverse_none ∙ ap inv (sym c.if-a-eq0.true)

pub returns-else-a-eq0 : goal.returns-else-a-eq0
returns-else-a-eq0 c =
    c.power.ensures
    ∙ inverse_power c.args.a c.logarithm.result (search rules) c.if-a-eq0.false c.logarithm.ensures.low c.logarithm.ensures.power
