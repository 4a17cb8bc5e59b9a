use Rattle.std.proofs.Common.{◌<◌, subst, arith}
use Rattle.settings.proofs.Ranges.{ranges}
use Rattle.code.specs.Calls.{Encodes}
use Rattle.link.proofs.RowWords.{word_there, encoded_from_answer, encoded_more}
use Rattle.link.proofs.encoding.encode_frame.Goals as goal

pub loop-word-preserved : goal.loop-word-preserved
loop-word-preserved g c =
    let s = c.args.settings.now in
    let code = g.C.Code.meaning c.args.code.now in
    let low : c.loop-word.word < s.depth = omega (arith, c.depth-depth.ensures) in
    let there = word_there s.depth c.loop-word.word c.loop-word.row s.depth_allowed c.loop-word.invariant.size low in
    encoded_more s.depth code c.args.frame.now (ranges s).depth_low (g.met.C.Code.lawful c.args.code.now).information_fits
    c.loop-word.word c.loop-word.row c.encode.new.row low c.loop-word.invariant
    (encoded_from_answer code s.depth c.loop-word.word c.loop-word.row c.encode.new.row c.encode.result there
    (subst (λ d. Encodes code d c.loop-word.word c.loop-word.row c.encode.result c.encode.new.row) c.depth-depth.ensures c.encode.ensures))
