use Rattle.promise.proofs.Bench.{bench_values}
use Rattle.promise.proofs.theorems.bench_values_stand.Goals as goal

pub returns : goal.returns
returns c = bench_values
