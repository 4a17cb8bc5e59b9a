use Rattle.std.proofs.Common.{◌≡◌, length}
use Rattle.rs16.specs.Mending.{zero_at, chosen}
use Rattle.rs16.specs.Polynomials.{from_roots}
use Rattle.rs16.proofs.Quotients.{Alike}
use Rattle.rs16.proofs.places.locator_polynomial.Given as goal

abbrev pub invariant-loop-k : goal.invariant-loop-k
invariant-loop-k l = (length l.p ≡ 17) × Alike l.p (from_roots (chosen (zero_at l.values) l.k))
