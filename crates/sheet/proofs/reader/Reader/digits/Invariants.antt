use Rattle.std.proofs.Common.{◌-◌}
use Rattle.sheet.proofs.Numbers.{DigitsSoFar}
use Rattle.sheet.proofs.reader.Reader.digits.Given as goal

abbrev pub invariant-loop-value : goal.invariant-loop-value
invariant-loop-value l = DigitsSoFar l.fn.self.rest.now l.value l.self.rest.now

abbrev pub decreases-loop-value : goal.decreases-loop-value
decreases-loop-value l = 10000 - l.value
