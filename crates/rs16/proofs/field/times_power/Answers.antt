use Rattle.std.proofs.Common.{sym, ap, ◌∙◌}
use Rattle.rs16.specs.Field.{mul, pow, alpha}
use Rattle.rs16.specs.PolynomialsLemmas.{zero-mul, pow_add}
use Rattle.rs16.proofs.field.times_power.Goals as goal

pub returns-then-a-eq0 : goal.returns-then-a-eq0
returns-then-a-eq0 c = sym (ap (λ a. mul a (pow alpha c.args.e)) c.if-a-eq0.true ∙ zero-mul (pow alpha c.args.e))

pub returns-else-a-eq0 : goal.returns-else-a-eq0
returns-else-a-eq0 c =
    c.power.ensures ∙ pow_add alpha c.logarithm-i.result c.args.e
    ∙ ap (λ a. mul a (pow alpha c.args.e)) c.logarithm-i.ensures.power
