use Rattle.std.proofs.Common.{ap, ◌∙◌, slice_index, rules}
use Rattle.rs16.specs.Field.{◌⊕◌, ◌⊗◌, pow, alpha}
use Rattle.rs16.specs.PolynomialsLemmas.{mul_comm}
use Rattle.rs16.proofs.Made.{made_at}
use Rattle.rs16.proofs.windows.combined.Goals as goal

pub returns : goal.returns
returns c = λ k l.
    let r = slice_index c.args.r.now k in
    let q = slice_index c.args.q.now k in
    made_at _ (λ i. slice_index c.args.r.now i ⊕ slice_index c.args.q.now i ⊗ pow alpha c.logarithm-e.result) _ c.from_fn.result 17 0
    (λ i y q l called. search rules) c.from_fn.ensures.items k l
    ∙ ap (λ z. r ⊕ z) (ap (λ z. q ⊗ z) c.logarithm-e.ensures.power ∙ mul_comm q c.args.f)
