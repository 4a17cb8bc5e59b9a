use Rattle.std.proofs.Common.{◌≡◌, ◌≤◌, length, slice_index}
use Rattle.rs16.specs.Field.{◌⊕◌}
use Rattle.rs16.specs.Polynomials.{apply}
use Rattle.rs16.proofs.coefficients.applied.Given as goal

-- what is left of both
abbrev pub invariant-loop-c : goal.invariant-loop-c
invariant-loop-c l =
    (length l.c-iterator.a.rest.now ≤ length l.c-iterator.b.rest.now)
    × (l.sum ⊕ apply l.c-iterator.a.rest.now (λ m. slice_index l.c-iterator.b.rest.now m) ≡ apply l.p (λ m. slice_index l.s m))
