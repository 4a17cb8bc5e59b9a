use Rattle.std.proofs.Common.{◌≡◌, take}
use Rattle.octets.specs.Words.{word_of, KeepsOthers}
use Rattle.rs16.specs.Mending.{corrected}
use Rattle.rs16.proofs.weaving.Woven.store_corrections.Given as goal

abbrev pub invariant-loop-correction : goal.invariant-loop-correction
invariant-loop-correction l =
    (word_of l.self.depth l.self.word l.row ≡ corrected (take l.correction-index l.corrections) (word_of l.self.depth l.self.word l.initial.row))
    × KeepsOthers l.self.depth l.self.word l.initial.row l.row
