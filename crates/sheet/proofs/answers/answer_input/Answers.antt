use Rattle.std.proofs.lemmas.Result.{on_ok_weaker}
use Rattle.sheet.proofs.Lines.{answers_input, read_known}
use Rattle.sheet.proofs.answers.answer_input.Goals as goal

pub returns : goal.returns
returns g c =
    let known = read_known g.R.Read.remaining c.take.result c.args.input c.new-sheet.result.items c.read_to_end.new.buf.items c.take.ensures.limit c.take.ensures.inner c.new-sheet.ensures.items c.in_ok-read_to_end.ensures.bytes in
    on_ok_weaker c.write_all.result
    (answers_input (g.R.Read.remaining c.args.input) _ _ c.read_to_end.new.buf.items c.as_bytes.result.now known (rw (c.as_bytes.ensures.value, ← c.as_slice.ensures.value) c.in_ok-answers.ensures))
    c.write_all.ensures.bytes
