use Rattle.link.proofs.RowWords.{EncodedUpTo}
use Rattle.link.proofs.encoding.encode_frame.Given as goal

abbrev pub invariant-loop-word : goal.invariant-loop-word
invariant-loop-word g l = EncodedUpTo l.settings.depth (g.C.Code.meaning l.code) l.frame l.word l.row
