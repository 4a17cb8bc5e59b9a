use Rattle.std.proofs.Common.{◌≡◌, ◌+◌, ◌<◌, ◌≤◌, sym, refl, ◌∙◌, ap₂, arith}
use Rattle.std.proofs.lemmas.Bool.{lt-ltb, le-ltb, cond-true, cond-false}
use Rattle.link.specs.Line.{line_length, block_line}
use Rattle.link.specs.SenderSteps.{sender_made}
use Rattle.link.proofs.Joined.{length_block_line}
use Rattle.link.proofs.Pieces.{front_list}
use Rattle.link.proofs.Tables.{draw_accepted}
use Rattle.link.proofs.sender.Sender.draw.Goals as goal
use Rattle.link.proofs.sender.Sender.draw.Goals.{then-drawn-length, else-drawn-length}

pub returns : goal.returns
returns g c =
    let s = c.args.self.now.line.settings in
    let m = g.M.Mapping.meaning c.args.self.now.line.mapping in
    let n = c.write_from-written.result in
    let told = c.write_from-written.ensures in
    let drawn = c.args.self.now.state.drawn in
    record {
      step = record {
        accepted = draw_accepted s m c.args.self.now.state.put c.args.memory.now
            (omega (arith, c.block_length.ensures)) c.args.self.now.line.fits (omega (arith, c.rows.ensures));
        answer = told.taken_is;
        written = front_list (block_line s m c.args.memory.now) c.args.out.now c.write_from-written.new.out drawn n told.front
            (omega (arith, told.taken_is)) (omega (arith, told.taken_is, length_block_line s m c.args.memory.now, c.args.self.now.drawn_short));
        after = elim c.if-drawn-length.branch [
          | then-drawn-length w ↦
              let lt : drawn + n < line_length s = omega (arith, w.if-drawn-length.true, c.length.ensures) in
              w.self-is ∙ sym (cond-true _ _ _ (lt-ltb (drawn + n) (line_length s) lt))
          | else-drawn-length w ↦
              let ge : line_length s ≤ drawn + n = omega (arith, w.if-drawn-length.false, c.length.ensures) in
              let made : w.default-self.result ≡ sender_made = ap₂ (λ a b. record { put = a; drawn = b }) w.default-self.ensures.0 w.default-self.ensures.1 in
              w.self-is ∙ made ∙ sym (cond-false _ _ _ (le-ltb (drawn + n) (line_length s) ge))
        ];
      };
      kept = record { settings_kept = refl; code_kept = refl; mapping_kept = refl };
    }
