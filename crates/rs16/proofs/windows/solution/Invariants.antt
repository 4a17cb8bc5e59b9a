use Rattle.std.proofs.Common.{◌≡◌, length, is_some, count_by}
use Rattle.rs16.specs.Elimination.{Pivots}
use Rattle.rs16.proofs.windows.solution.Given as goal

abbrev pub invariant-loop-n : goal.invariant-loop-n
invariant-loop-n l = (length l.pivots ≡ 16) × (count_by is_some l.pivots ≡ l.n) × Pivots 16 l.s l.n l.pivots
