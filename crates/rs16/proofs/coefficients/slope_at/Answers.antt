use Rattle.std.proofs.Common.{◌≡◌, ◌∙◌, length, take, drop, length-drop, arith, rules}
use Rattle.std.proofs.lemmas.List.{take_all}
use Rattle.rs16.proofs.Folds.{slope_none, slope_more}
use Rattle.rs16.proofs.coefficients.slope_at.Goals as goal

pub loop-c-init : goal.loop-c-init
loop-c-init c =
    slope_none (drop 1 c.args.p.now) c.into_iter-c-iterator.result.iter.rest.now c.args.x (
    let size : length c.args.p.now ≡ 17 = search rules in
    let part : c.iter.result.rest.now ≡ take 16 (drop 1 c.args.p.now) = c.iter.ensures.rest in
    let left : c.into_iter-c-iterator.result.iter.rest.now ≡ c.iter.result.rest.now = search rules in
    left ∙ part ∙ take_all 16 (drop 1 c.args.p.now) (omega (arith, length-drop 1 c.args.p.now)))

pub loop-c-preserved : goal.loop-c-preserved
loop-c-preserved c =
    slope_more (drop 1 c.args.p.now) c.loop-c.c-iterator.iter.rest.now c.next.new.self.iter.rest.now c.args.x c.in-Some.c.now
    c.loop-c.value c.loop-c.sum c.product.result c.product-in-loop-c.result
    c.in-Some.ensures.steps c.product.ensures c.product-in-loop-c.ensures c.loop-c.invariant
