use Rattle.std.proofs.Common.{◌≡◌, ◌*◌, ◌≤◌, length, get_or}
use lib.Bits.{bit_xor}
use lib.Count.{ones}
use Rattle.octets.specs.Counting.{sum}
use Rattle.marker.proofs.compare.digits_apart.Given as goal

abbrev pub invariant-loop-x : goal.invariant-loop-x
invariant-loop-x l =
    (l.digits ≡ sum (length l.yielded) (λ i. ones (bit_xor (get_or l.a i 0) (get_or l.b i 0)))) × (l.digits ≤ 8 * length l.yielded)
