use Rattle.std.proofs.Common.{arith}
use Rattle.sheet.proofs.Numbers.{digits_begin, digits_more, digits_end, digits_full}
use Rattle.sheet.proofs.reader.Reader.digits.Goals as goal

pub loop-value-init : goal.loop-value-init
loop-value-init c = digits_begin _ _ _ c.in_ok-value.ensures.0 c.in_ok-value.ensures.1

pub returns-in_default : goal.returns-in_default
returns-in_default c = digits_end _ _ _ _ c.loop-value.invariant c.in_default.ensures.0 c.in_default.ensures.1

pub loop-value-preserved : goal.loop-value-preserved
loop-value-preserved c = digits_more _ _ _ _ _ (omega arith) (omega arith) c.loop-value.invariant c.in-Some.ensures.0 c.in-Some.ensures.1

pub returns-else-value-lt10000 : goal.returns-else-value-lt10000
returns-else-value-lt10000 c = digits_full _ _ _ c.loop-value.invariant (λ some short. omega arith)

pub returns-after-loop-value : goal.returns-after-loop-value
returns-after-loop-value c = digits_full _ _ _ c.loop-value.invariant (λ some short. omega arith)
