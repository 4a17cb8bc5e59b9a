use Rattle.std.proofs.Common.{slice_index, rules}
use Rattle.octets.specs.Words.{word_place, word_of}
use Rattle.rs16.proofs.Made.{tabulated}
use Rattle.rs16.proofs.weaving.Woven.gathered.Goals as goal

pub returns : goal.returns
unfolding word_of
returns c =
    tabulated _ (λ j. slice_index c.args.row.now (word_place c.args.self.depth c.args.self.word j)) _ c.from_fn.result 255
    (λ i y q l called. search rules) c.from_fn.ensures.items
