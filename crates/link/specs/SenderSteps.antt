-- What put and draw do: to the sender's state, to the memory, to the output.
use Rattle.std.specs.Prelude.{◌≡◌, ℕ, ◌+◌, ◌-◌, min, cond, List, ◌++◌, length, take, drop, Some, None, Ok, Err, Result, nat_lt}
use Rattle.settings.specs.declared.Settings.{Settings}
use Rattle.code.specs.Meaning.{CodeMeaning}
use Rattle.mapping.specs.Meaning.{MappingMeaning}
use Rattle.link.specs.Frames.{EncodedFrame, with_row}
use Rattle.link.specs.Line.{line_length, block_line}
use Rattle.link.specs.Refusal.{put_refusal, draw_refusal_by}
use Rattle.link.specs.declared.fault.PutFault.{PutFault}
use Rattle.link.specs.declared.fault.DrawFault.{DrawFault}
use Rattle.link.specs.declared.state.SenderState.{SenderState}

-- no frame put, no octet drawn
abbrev pub sender_made : SenderState
sender_made = record { put = 0; drawn = 0 }

-- An accepted put: the frame, encoded, is row i, the next one, and no octet outside that row is written.
pub record Put (s : Settings) (code : CodeMeaning) (a : SenderState) (memory frame : List ℕ) (i : ℕ) (b : SenderState) (memory' : List ℕ) : Type 0 where
  pub accepted : put_refusal s code a.put memory frame ≡ None
  pub row : List ℕ
  pub encoded : EncodedFrame s.depth code frame row
  pub answer : i ≡ a.put
  pub stored : memory' ≡ with_row s i row memory
  pub after : b ≡ record { put = a.put + 1; drawn = a.drawn }

-- a put: before, its frame, its answer, after; refused, nothing is changed
abbrev pub PutStep : Settings → CodeMeaning → SenderState → List ℕ → List ℕ → Result ℕ PutFault → SenderState → List ℕ → Type 0
PutStep s code a memory frame (Ok i) b memory' = Put s code a memory frame i b memory'
PutStep s code a memory frame (Err fault) b memory' = (put_refusal s code a.put memory frame ≡ Some fault) × (b ≡ a) × (memory' ≡ memory)

-- n octets more are drawn; behind the block's last octet no frame of the next block is put yet
abbrev pub drawn_on : Settings → SenderState → ℕ → SenderState
drawn_on s a n = cond (nat_lt (a.drawn + n) (line_length s)) (record { put = a.put; drawn = a.drawn + n }) sender_made

-- An accepted draw: the next n octets of the line, until the output or the block ends; the rest of the output is left.
pub record Drawn (s : Settings) (m : MappingMeaning) (a : SenderState) (memory out : List ℕ) (n : ℕ) (b : SenderState) (out' : List ℕ) : Type 0 where
  pub accepted : draw_refusal_by s m a.put memory ≡ None
  pub answer : n ≡ min (length out) (line_length s - a.drawn)
  pub written : out' ≡ take n (drop a.drawn (block_line s m memory)) ++ drop n out
  pub after : b ≡ drawn_on s a n

-- a draw: before, the output, its answer, after, the output after; refused, nothing is changed
abbrev pub DrawStep : Settings → MappingMeaning → SenderState → List ℕ → List ℕ → Result ℕ DrawFault → SenderState → List ℕ → Type 0
DrawStep s m a memory out (Ok n) b out' = Drawn s m a memory out n b out'
DrawStep s m a memory out (Err fault) b out' = (draw_refusal_by s m a.put memory ≡ Some fault) × (b ≡ a) × (out' ≡ out)
