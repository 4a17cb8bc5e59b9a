-- What one sender and its one memory lived through: the sender as made, any memory, then calls, each on what the one before left.
use Rattle.std.specs.Prelude.{ℕ, List, [], ◌∷◌, ◌++◌, take, Ok, Err, Result}
use Rattle.settings.specs.declared.Settings.{Settings}
use Rattle.code.specs.Meaning.{CodeMeaning}
use Rattle.mapping.specs.Meaning.{MappingMeaning}
use Rattle.link.specs.SenderSteps.{sender_made, PutStep, DrawStep}
use Rattle.link.specs.declared.fault.PutFault.{PutFault}
use Rattle.link.specs.declared.fault.DrawFault.{DrawFault}
use Rattle.link.specs.declared.state.SenderState.{SenderState}

-- A call with what it was given and what it answered; of a draw, the output before and after. Lists of calls have the latest first.
pub data SenderCall : Type 0 where
  put : (frame : List ℕ) (answer : Result ℕ PutFault) → SenderCall
  draw : (before after : List ℕ) (answer : Result ℕ DrawFault) → SenderCall

-- These calls, refused ones too, led to this state and this memory. Each step is what the contract of put or draw says of that call.
pub data SenderHistory (s : Settings) (code : CodeMeaning) (m : MappingMeaning) : List SenderCall → SenderState → List ℕ → Type 0 where
  made : (memory : List ℕ) → SenderHistory s code m [] sender_made memory
  put_next : {calls : List SenderCall} {a b : SenderState} {memory memory' frame : List ℕ} {r : Result ℕ PutFault} → SenderHistory s code m calls a memory → PutStep s code a memory frame r b memory' → SenderHistory s code m (put frame r ∷ calls) b memory'
  draw_next : {calls : List SenderCall} {a b : SenderState} {memory before after : List ℕ} {r : Result ℕ DrawFault} → SenderHistory s code m calls a memory → DrawStep s m a memory before r b after → SenderHistory s code m (draw before after r ∷ calls) b memory

-- the frame of a put, if it was accepted
abbrev pub frame_of : List ℕ → Result ℕ PutFault → List (List ℕ)
frame_of frame (Ok i) = frame ∷ []
frame_of frame (Err fault) = []

-- the frames of accepted puts, in order
unfoldable pub frames_put : List SenderCall → List (List ℕ)
frames_put [] = []
frames_put (put frame r ∷ calls) = frames_put calls ++ frame_of frame r
frames_put (draw before after r ∷ calls) = frames_put calls

-- the octets of a draw, if it was accepted: as many as it answered
abbrev pub octets_of : List ℕ → Result ℕ DrawFault → List ℕ
octets_of after (Ok n) = take n after
octets_of after (Err fault) = []

-- the line sent: what accepted draws wrote, joined
unfoldable pub line_sent : List SenderCall → List ℕ
line_sent [] = []
line_sent (put frame r ∷ calls) = line_sent calls
line_sent (draw before after r ∷ calls) = line_sent calls ++ octets_of after r
