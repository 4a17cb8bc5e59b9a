use Rattle.std.proofs.Common.{◌≡◌, ℕ, ◌+◌, List, length, slice_index, ap, ◌∙◌, Some, arith, rules}
use Rattle.std.proofs.lemmas.List.{length-set}
use Rattle.rs16.specs.Elimination.{Pivot}
use Rattle.rs16.specs.Field.{◌⊗◌}
use Rattle.rs16.proofs.Elimination.{unit_monic, new_pivot, pivots_more, count_more, solved}
use Rattle.rs16.proofs.windows.solution.Goals as goal

pub reduce-requires-clause-monic : goal.reduce-requires-clause-monic
reduce-requires-clause-monic c = unit_monic 16 c.loop-n.n c.loop-n-test.true

pub returns-in-Solves : goal.returns-in-Solves
returns-in-Solves c = solved 16 c.args.s.now c.in-Solves.row c.loop-n.n c.in-Solves.ensures.0 c.in-Solves.ensures.1

pub loop-n-preserved : goal.loop-n-preserved
loop-n-preserved c =
    let s : List ℕ = c.args.s.now in
    let n : ℕ = c.loop-n.n in
    let stopped = c.in-Stops.ensures in
    let r : List ℕ = c.in-Stops.row in
    let h : ℕ = c.in-Stops.window in
    let q : List ℕ = c.multiplied.result in
    let size : length q ≡ 17 = search rules in
    let pivot : Pivot 16 s (n + 1) h q =
    new_pivot 16 s r q n h c.in-Stops.value c.loop-n-test.true stopped.monic stopped.cleared stopped.value stopped.octet stopped.other size
    (λ k lk. c.multiplied.ensures k lk ∙ ap (λ f. f ⊗ slice_index r k) c.inverse.ensures) in (
      length-set c.loop-n.pivots h (Some q) ∙ c.loop-n.invariant.0,
      count_more 16 c.loop-n.pivots q h n (omega (arith, stopped.bound)) stopped.free c.loop-n.invariant.1,
      pivots_more 16 s c.loop-n.pivots q n h stopped.bound c.loop-n.invariant.0 c.loop-n.invariant.2 pivot,
    )
