use Rattle.rs16.proofs.Woven.{Stored}
use Rattle.rs16.proofs.weaving.Woven.store_checks.Given as goal

abbrev pub invariant-loop-k : goal.invariant-loop-k
invariant-loop-k l = Stored l.self.depth l.self.word l.k l.fn.checks l.initial.row l.row
