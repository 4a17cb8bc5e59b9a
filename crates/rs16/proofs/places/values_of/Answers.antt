use Rattle.std.proofs.Common.{ap, ◌∙◌, ◌*◌, ◌%◌, rules}
use Rattle.rs16.specs.Field.{pow, alpha}
use Rattle.rs16.specs.Locators.{locator_power}
use Rattle.rs16.specs.Polynomials.{eval}
use Rattle.rs16.proofs.Made.{made_at}
use Rattle.rs16.proofs.places.values_of.Goals as goal

pub returns : goal.returns
returns c = (
  c.from_fn.ensures.items.long,
  λ k l.
      made_at _ (λ i. eval c.args.p.now (pow alpha (11 * i % 255))) _ c.from_fn.result 255 0 (λ i y q l called. search rules) c.from_fn.ensures.items k l
      ∙ ap (eval c.args.p.now) (locator_power k),
)
