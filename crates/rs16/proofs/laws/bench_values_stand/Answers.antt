use Rattle.rs16.proofs.Theorems.{bench_values}
use Rattle.rs16.proofs.laws.bench_values_stand.Goals as goal

pub returns : goal.returns
returns c = bench_values
