use Rattle.rs16.specs.Polynomials.{apply}
use Rattle.std.proofs.Common.{slice_index, inl, inr}
use Rattle.rs16.proofs.Folds.{applied_more, applied_all}
use Rattle.rs16.proofs.coefficients.applied.Goals as goal

pub loop-c-preserved : goal.loop-c-preserved
loop-c-preserved c =
    applied_more c.loop-c.c-iterator.a.rest.now c.loop-c.c-iterator.b.rest.now c.next.new.self.a.rest.now c.next.new.self.b.rest.now
    c.in-Some.c.now c.in-Some.syndrome.now c.loop-c.sum c.product-sum.result (apply c.args.p.now (λ m. slice_index c.args.s.now m))
    c.in-Some.ensures.steps c.product-sum.ensures c.loop-c.invariant

pub returns : goal.returns
returns c =
    applied_all c.loop-c.c-iterator.a.rest.now c.loop-c.c-iterator.b.rest.now c.loop-c.sum (apply c.args.p.now (λ m. slice_index c.args.s.now m))
    (elim c.in-None.ensures.steps [ inl a ↦ inl a.1.0 | inr b ↦ inr b.1.0 ]) c.loop-c.invariant
