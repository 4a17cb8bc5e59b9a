use Rattle.std.proofs.Common.{◌≡◌, length}
use Rattle.rs16.specs.Mending.{Monic, Cleared}
use Rattle.rs16.proofs.windows.reduce.Given as goal

abbrev pub invariant-loop-window : goal.invariant-loop-window
invariant-loop-window l = (length l.row ≡ 17) × Monic 16 l.n l.row × Cleared l.s l.row l.window
