use Rattle.std.proofs.Common.{drop}
use Rattle.rs16.proofs.Folds.{Divided}
use Rattle.rs16.proofs.coefficients.slope_at.Given as goal

abbrev pub invariant-loop-c : goal.invariant-loop-c
invariant-loop-c l = Divided (drop 1 l.p) l.c-iterator.iter.rest.now l.x l.value l.sum
