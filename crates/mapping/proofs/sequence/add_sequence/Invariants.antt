use Rattle.std.proofs.Common.{◌≡◌, ◌+◌, ◌-◌, ◌%◌, ◌<◌, ◌≤◌, length, get_or}
use lib.Bits.{bit_xor}
use Rattle.mapping.specs.Randomizer.{sequence}
use Rattle.mapping.proofs.Stretching.{Filled}
use Rattle.mapping.proofs.sequence.add_sequence.Given as goal

abbrev pub invariant-loop-at : goal.invariant-loop-at
invariant-loop-at l =
    Filled (λ j. bit_xor (get_or l.initial.octets j 0) (sequence (l.start + j))) l.initial.octets l.octets l.at
    × l.at ≤ length l.octets
    × l.turn < 255
    × (l.at < length l.octets → l.turn ≡ (l.start + l.at) % 255)

abbrev pub decreases-loop-at : goal.decreases-loop-at
decreases-loop-at l = length l.octets - l.at
