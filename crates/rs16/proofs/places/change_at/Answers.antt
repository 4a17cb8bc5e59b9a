use Rattle.std.proofs.Common.{ap, ◌∙◌, ap₂}
use Rattle.rs16.specs.DualBasis.{line_octet}
use Rattle.rs16.specs.Field.{◌⊗◌, inv}
use Rattle.rs16.specs.Mending.{change}
use Rattle.rs16.specs.Polynomials.{eval, slope}
use Rattle.rs16.proofs.places.change_at.Goals as goal

pub returns : goal.returns
unfolding change
returns c =
    let x = c.locator_at-x.ensures in
    c.line_octet_of.ensures.value
    ∙ ap line_octet (c.product.ensures
    ∙ ap₂ ◌⊗◌ (c.evaluated.ensures ∙ ap (eval c.args.o.now) x)
    (c.inverse.ensures ∙ ap inv (c.product-below.ensures ∙ ap₂ ◌⊗◌ (c.slope_at.ensures ∙ ap (slope c.args.p.now) x) c.lift_at.ensures)))
