use Rattle.rs16.specs.Mending.{zero_at}
use Rattle.rs16.proofs.Correcting.{Finding}
use Rattle.rs16.proofs.searching.corrections_at.Given as goal

abbrev pub invariant-loop-place : goal.invariant-loop-place
invariant-loop-place l = Finding (zero_at l.values) l.p l.o l.word l.place l.corrections
