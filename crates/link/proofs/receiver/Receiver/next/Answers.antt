use Rattle.std.proofs.Common.{◌+◌, ◌-◌, refl, arith, rules}
use Rattle.link.proofs.ReceiverTables.{next_accepted, part_mended}
use Rattle.link.proofs.Rows.{row_put}
use Rattle.link.proofs.receiver.Receiver.next.Goals as goal

pub returns : goal.returns
returns g c =
    let s = c.args.self.now.line.settings in
    let a = c.args.self.now.state in
    record {
      step = record {
        accepted = next_accepted s a.answered c.args.memory.now (omega (arith, c.block_length.ensures)) (omega (arith, c.rows.ensures));
        row_is = refl;
        gap_is = c.gap-gap.ensures;
        row_after = c.mend_row-mended.new.row;
        valid = c.mend_row-mended.result.valid;
        mended = part_mended s (g.C.Code.meaning c.args.self.now.code) a.answered c.row_start-start.result
            ((c.row_start-start.result + c.row_length-size.result) - c.row_start-start.result)
            c.args.memory.now c.mend_row-mended.new.row c.mend_row-mended.result.altered c.mend_row-mended.result.valid
            c.row_start-start.ensures.begins (omega (arith, c.row_length-size.ensures)) c.mend_row-mended.ensures;
        valid_is = search rules;
        stored = row_put s a.answered c.row_start-start.result
            ((c.row_start-start.result + c.row_length-size.result) - c.row_start-start.result)
            c.mend_row-mended.new.row c.args.memory.now c.row_start-start.ensures.begins (omega (arith, c.row_length-size.ensures));
        after = refl;
      };
      kept = record { settings_kept = refl; code_kept = refl; mapping_kept = refl };
    }
