use Rattle.std.proofs.Common.{refl, ◌∙◌, arith}
use Rattle.link.proofs.Tables.{put_accepted}
use Rattle.link.proofs.Rows.{row_put}
use Rattle.link.proofs.sender.Sender.put.Goals as goal

pub returns : goal.returns
returns g c = record {
  step = record {
    accepted = put_accepted c.args.self.now.line.settings (g.C.Code.meaning c.args.self.now.code) c.args.self.now.state.put c.args.memory.now c.args.frame.now
        (omega (arith, c.block_length.ensures))
        (c.if-frame-frame_length.false ∙ c.frame_length.ensures)
        (omega (arith, c.rows.ensures));
    row = c.encode_frame.new.row;
    encoded = c.encode_frame.ensures;
    answer = refl;
    stored = row_put c.args.self.now.line.settings c.args.self.now.state.put c.row_start-start.result _ c.encode_frame.new.row c.args.memory.now c.row_start-start.ensures.begins (omega (arith, c.row_length-size.ensures));
    after = refl;
  };
  kept = record { settings_kept = refl; code_kept = refl; mapping_kept = refl };
}
