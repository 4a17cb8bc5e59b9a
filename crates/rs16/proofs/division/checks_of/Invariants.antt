use Rattle.std.proofs.Common.{◌≡◌, drop, replicate}
use Rattle.rs16.specs.Division.{remainder}
use Rattle.rs16.specs.Rows.{octets_of}
use Rattle.rs16.proofs.division.checks_of.Given as goal

abbrev pub invariant-loop-octet : goal.invariant-loop-octet
invariant-loop-octet l = remainder (octets_of l.r) (drop l.octet-index l.information) ≡ remainder (replicate 32 0) l.information
