-- What holds of every history of a sender: where its calls are refused, and what it sends.
use Rattle.std.specs.Prelude.{◌≡◌, ℕ, ◌-◌, ◌*◌, ◌/◌, List, length, Some, None, Ok, Err, Result}
use Rattle.settings.specs.declared.Settings.{Settings}
use Rattle.code.specs.Meaning.{CodeMeaning}
use Rattle.mapping.specs.Meaning.{MappingMeaning}
use Rattle.link.specs.Line.{line_length, BeginsLine}
use Rattle.link.specs.Refusal.{put_refusal, draw_refusal}
use Rattle.link.specs.SenderSteps.{PutStep, DrawStep}
use Rattle.link.specs.SenderHistory.{SenderCall, SenderHistory, frames_put, line_sent}
use Rattle.link.specs.declared.fault.PutFault.{PutFault}
use Rattle.link.specs.declared.fault.DrawFault.{DrawFault}
use Rattle.link.specs.declared.state.SenderState.{SenderState}

-- the frames put of the block that is not wholly drawn, told by the calls alone: all frames but N for each block's line that was sent
abbrev pub frames_of_block : Settings → List SenderCall → ℕ
frames_of_block s calls = length (frames_put calls) - s.rows * (length (line_sent calls) / line_length s)

-- A put behind these calls is accepted just if no check of the table fails, else refused by the first that does; refused, it leaves sender and memory as they were.
abbrev pub PutAnswered : Settings → CodeMeaning → List SenderCall → SenderState → List ℕ → List ℕ → Result ℕ PutFault → SenderState → List ℕ → Type 0
PutAnswered s code calls a memory frame (Ok i) b memory' = put_refusal s code (frames_of_block s calls) memory frame ≡ None
PutAnswered s code calls a memory frame (Err fault) b memory' =
    (put_refusal s code (frames_of_block s calls) memory frame ≡ Some fault) × (b ≡ a) × (memory' ≡ memory)

-- A draw likewise; refused, it leaves sender and output as they were. The memory is only lent to it.
abbrev pub DrawAnswered : Settings → List SenderCall → SenderState → List ℕ → List ℕ → Result ℕ DrawFault → SenderState → List ℕ → Type 0
DrawAnswered s calls a memory out (Ok n) b out' = draw_refusal s (frames_of_block s calls) memory ≡ None
DrawAnswered s calls a memory out (Err fault) b out' =
    (draw_refusal s (frames_of_block s calls) memory ≡ Some fault) × (b ≡ a) × (out' ≡ out)

-- Refusals: each call of a history is refused with the number, and just where, the table says, in its order, judged on the memory before the call.
pub record SenderRefusals (s : Settings) (code : CodeMeaning) (m : MappingMeaning) : Type 0 where
  pub of_put : (calls : List SenderCall) (a b : SenderState) (memory memory' frame : List ℕ) (r : Result ℕ PutFault)
      → SenderHistory s code m calls a memory → PutStep s code a memory frame r b memory' → PutAnswered s code calls a memory frame r b memory'
  pub of_draw : (calls : List SenderCall) (a b : SenderState) (memory before after : List ℕ) (r : Result ℕ DrawFault)
      → SenderHistory s code m calls a memory → DrawStep s m a memory before r b after → DrawAnswered s calls a memory before r b after

-- Line: the line sent is a beginning of the line of the frames put.
abbrev pub SendsLine : Settings → CodeMeaning → MappingMeaning → Type 0
SendsLine s code m = (calls : List SenderCall) (b : SenderState) (memory : List ℕ) → SenderHistory s code m calls b memory → BeginsLine s code m (frames_put calls) (line_sent calls)

-- both, of every history
pub record SenderLaws (s : Settings) (code : CodeMeaning) (m : MappingMeaning) : Type 0 where
  pub refusals : SenderRefusals s code m
  pub line : SendsLine s code m
