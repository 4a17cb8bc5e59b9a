-- Every call of a sender's history is refused just where the table says.
use Rattle.std.proofs.Common.{◌≡◌, ℕ, ◌+◌, ◌-◌, ◌*◌, ◌/◌, true, List, length, take, Ok, Err, Result, sym, ap, ◌∙◌, mul_comm, arith, length-append}
use Rattle.std.proofs.lemmas.Nat.{div-mul-add}
use Rattle.std.proofs.lemmas.List.{length-take-le}
use Rattle.settings.specs.declared.Settings.{Settings}
use Rattle.settings.proofs.Ranges.{ranges}
use Rattle.code.specs.Meaning.{CodeMeaning}
use Rattle.mapping.specs.Meaning.{MappingMeaning}
use Rattle.link.specs.Line.{line_length, block_line, block_memory, line_of_rows}
use Rattle.link.specs.Refusal.{mapping_fits, put_refusal, draw_refusal}
use Rattle.link.specs.SenderSteps.{PutStep, DrawStep}
use Rattle.link.specs.SenderHistory.{SenderCall, frames_put, line_sent}
use Rattle.link.specs.SenderLaws.{frames_of_block, PutAnswered, DrawAnswered, SenderLaws}
use Rattle.link.specs.declared.fault.PutFault.{PutFault}
use Rattle.link.specs.declared.fault.DrawFault.{DrawFault}
use Rattle.link.specs.declared.state.SenderState.{SenderState}
use Rattle.link.proofs.Joined.{length_joined, length_block_line}
use Rattle.link.proofs.Lengths.{line_some}
use Rattle.link.proofs.LineSent.{Held, held, sends_line}
use Rattle.link.proofs.Tables.{draw_by_table}

module _ (s : Settings) (code : CodeMeaning) (m : MappingMeaning) where
  -- the frames put of the block, told by the calls, are those that the state has
  frames_of_block_lem : (calls : List SenderCall) (a : SenderState) (memory : List ℕ) → Held s code m (line_some s) (ranges s).rows_low calls a memory → frames_of_block s calls ≡ a.put
  frames_of_block_lem calls a memory h =
      let line-size : length (line_of_rows s m h.rows h.blocks) ≡ h.blocks * line_length s = length_joined (line_length s) (λ b. block_line s m (block_memory s h.rows b)) (λ b. length_block_line s m (block_memory s h.rows b)) h.blocks in
      let part : length (take a.drawn (block_line s m memory)) ≡ a.drawn = length-take-le a.drawn (block_line s m memory) (omega (arith, length_block_line s m memory, h.short)) in
      let all : length (line_sent calls) ≡ h.blocks * line_length s + a.drawn = ap length h.sent_is ∙ length-append (line_of_rows s m h.rows h.blocks) (take a.drawn (block_line s m memory)) ∙ omega arith in
      let n : length (line_sent calls) / line_length s ≡ h.blocks = ap (λ (k : ℕ). k / line_length s) all ∙ div-mul-add h.blocks (line_length s) a.drawn h.short in
      ap (λ (k : ℕ). length (frames_put calls) - s.rows * k) n ∙ omega (arith, h.size, h.encoded.size, mul_comm h.blocks s.rows)

  put_answered : (calls : List SenderCall) (a b : SenderState) (memory memory' frame : List ℕ) (r : Result ℕ PutFault)
      → frames_of_block s calls ≡ a.put → PutStep s code a memory frame r b memory' → PutAnswered s code calls a memory frame r b memory'
  put_answered calls a b memory memory' frame (Ok i) e p = ap (λ (k : ℕ). put_refusal s code k memory frame) e ∙ p.accepted
  put_answered calls a b memory memory' frame (Err fault) e (x, p, q) = (ap (λ (k : ℕ). put_refusal s code k memory frame) e ∙ x, p, q)

  draw_answered : (calls : List SenderCall) (a b : SenderState) (memory before after : List ℕ) (r : Result ℕ DrawFault) → mapping_fits s m ≡ true
      → frames_of_block s calls ≡ a.put → DrawStep s m a memory before r b after → DrawAnswered s calls a memory before r b after
  draw_answered calls a b memory before after (Ok n) fits e p =
      ap (λ (k : ℕ). draw_refusal s k memory) e ∙ sym (draw_by_table s m a.put memory fits) ∙ p.accepted
  draw_answered calls a b memory before after (Err fault) fits e (x, p, q) =
      (ap (λ (k : ℕ). draw_refusal s k memory) e ∙ sym (draw_by_table s m a.put memory fits) ∙ x, p, q)

  pub sender_laws : mapping_fits s m ≡ true → SenderLaws s code m
  sender_laws fits = record {
    refusals = record {
      of_put = λ calls a b memory memory' frame r history step.
          put_answered calls a b memory memory' frame r (frames_of_block_lem calls a memory (held s code m (line_some s) (ranges s).rows_low history)) step;
      of_draw = λ calls a b memory before after r history step.
          draw_answered calls a b memory before after r fits (frames_of_block_lem calls a memory (held s code m (line_some s) (ranges s).rows_low history)) step;
    };
    line = sends_line s code m (line_some s) (ranges s).rows_low;
  }
