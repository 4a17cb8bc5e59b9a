use Rattle.std.proofs.Common.{◌≡◌, take}
use Rattle.rs16.specs.Mending.{corrected}
use Rattle.rs16.proofs.searching.corrected_word.Given as goal

abbrev pub invariant-loop-correction : goal.invariant-loop-correction
invariant-loop-correction l = l.octets ≡ corrected (take l.correction-index l.corrections) l.initial.octets
