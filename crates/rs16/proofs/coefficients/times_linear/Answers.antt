use Rattle.std.proofs.Common.{◌∷◌, slice_index, rules}
use Rattle.rs16.specs.Field.{◌⊕◌, ◌⊗◌}
use Rattle.rs16.proofs.Made.{made_at}
use Rattle.rs16.proofs.coefficients.times_linear.Goals as goal

pub returns : goal.returns
returns c =
    made_at _ (λ i. slice_index (0 ∷ c.args.p.now) i ⊕ c.args.x ⊗ slice_index c.args.p.now i) _ c.from_fn.result 17 0
    (λ i y q l called. search rules) c.from_fn.ensures.items
