use Rattle.promise.proofs.Example as example
use Rattle.promise.proofs.theorems.promise_applies.Goals as goal

pub returns : goal.returns
returns c = example.promise_applies
