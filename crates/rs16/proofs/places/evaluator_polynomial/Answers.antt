use Rattle.std.proofs.Common.{◌≡◌, ◌+◌, ◌-◌, length, take, drop, slice_index, ap, ◌∙◌, length-drop, arith, rules}
use Rattle.std.proofs.lemmas.List.{take_all}
use Rattle.rs16.specs.Polynomials.{apply}
use Rattle.rs16.proofs.Made.{made_at}
use Rattle.rs16.proofs.Products.{evaluator_all}
use Rattle.rs16.proofs.places.evaluator_polynomial.Goals as goal

pub returns : goal.returns
returns c =
    let size : length c.args.p.now ≡ 17 = search rules in
    evaluator_all c.args.p.now c.args.s.now c.from_fn.result size c.from_fn.ensures.items.long (λ j l.
    made_at _ (λ i. apply (take (17 - (i + 1)) (drop (i + 1) c.args.p.now)) (λ m. slice_index c.args.s.now m)) _ c.from_fn.result 16 0
    (λ i y q l called. search rules) c.from_fn.ensures.items j l
    ∙ ap (λ q. apply q (λ m. slice_index c.args.s.now m)) (take_all (17 - (j + 1)) (drop (j + 1) c.args.p.now) (omega (arith, length-drop (j + 1) c.args.p.now))))
