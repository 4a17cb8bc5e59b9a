use Rattle.std.proofs.Common.{◌<◌, arith}
use Rattle.link.proofs.RowMending.{mended_none, mends_at, mended_ok, mended_err}
use Rattle.link.proofs.RowWords.{word_there}
use Rattle.link.proofs.mending.mend_row.Goals as goal
use Rattle.link.proofs.mending.mend_row.Goals.{in-Ok, in-Err}

pub loop-word-init : goal.loop-word-init
loop-word-init g c = mended_none c.args.settings.now.depth (g.C.Code.meaning c.args.code.now) c.args.row.now c.requires

pub loop-word-preserved : goal.loop-word-preserved
loop-word-preserved g c =
    let s = c.args.settings.now in
    let code = g.C.Code.meaning c.args.code.now in
    let low : c.loop-word.word < s.depth = omega (arith, c.depth-depth.ensures) in
    elim c.match-mend.branch [
      | in-Ok w ↦ rw (w.altered-is, w.valid-is)
          (mended_ok s.depth code c.args.row.now c.loop-word.word low c.loop-word.row c.mend.new.row c.loop-word.altered c.loop-word.valid c.loop-word.invariant
          w.in-Ok.count (mends_at code c.depth-depth.result s.depth c.loop-word.word c.loop-word.row _ _ c.mend.new.row c.depth-depth.ensures w.in-Ok.is c.mend.ensures))
      | in-Err w ↦ rw (w.altered-is, w.valid-is, w.and-valid.ensures)
          (mended_err s.depth code c.args.row.now c.loop-word.word low c.loop-word.row c.mend.new.row c.loop-word.altered c.loop-word.valid c.loop-word.invariant
          w.in-Err.fault (word_there s.depth c.loop-word.word c.loop-word.row s.depth_allowed c.loop-word.invariant.size low)
          (mends_at code c.depth-depth.result s.depth c.loop-word.word c.loop-word.row _ _ c.mend.new.row c.depth-depth.ensures w.in-Err.is c.mend.ensures))
    ]
