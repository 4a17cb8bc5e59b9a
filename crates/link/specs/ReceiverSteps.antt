-- What feed, next and show do: to the receiver's state, to the memory.
use Rattle.std.specs.Prelude.{◌≡◌, ℕ, ◌+◌, ◌-◌, ◌*◌, true, false, cond, ◌&&◌, List, take, drop, Some, None, Ok, Err, Option, Result, ◌==◌}
use Rattle.settings.specs.declared.Settings.{Settings}
use Rattle.settings.specs.Lengths.{row_length}
use Rattle.code.specs.Meaning.{CodeMeaning}
use Rattle.mapping.specs.Meaning.{MappingMeaning}
use Rattle.link.specs.Frames.{frame_length, row_at, with_row}
use Rattle.link.specs.RowMending.{MendedRow}
use Rattle.link.specs.Rules.{empty_window}
use Rattle.link.specs.Feeding.{Fed, fed}
use Rattle.link.specs.ReceiverRefusal.{feed_refusal, next_refusal, show_refusal}
use Rattle.link.specs.declared.mending.RowFault.{RowFault}
use Rattle.link.specs.declared.receiving.Mode.TheVariants.{Hunting}
use Rattle.link.specs.declared.receiving.ReceiverState.{ReceiverState}
use Rattle.link.specs.declared.reception.FeedFault.{FeedFault}
use Rattle.link.specs.declared.reception.NextFault.{NextFault}
use Rattle.link.specs.declared.reception.ShowFault.{ShowFault}
use Rattle.link.specs.declared.reception.BlockFault.{BlockFault}
use Rattle.link.specs.declared.reception.NextAnswer.{NextAnswer}
use Rattle.link.specs.declared.report.Report.{Report}

-- It hunts when made, and no frame waits.
abbrev pub receiver_made : Settings → ReceiverState
receiver_made s = record { mode = Hunting empty_window; answered = s.rows; first = false; after_next = false }

-- behind a feed; where a block ended, N frames wait
abbrev pub state_fed : ReceiverState → Fed → ReceiverState
state_fed a f = record { mode = f.mode; answered = cond f.ended 0 a.answered; first = cond f.ended f.first a.first; after_next = false }

-- An accepted feed goes through the octets until one stops it; it answers how many it took and the report of the marker read, if one was.
pub record FeedDone (s : Settings) (m : MappingMeaning) (a : ReceiverState) (memory input : List ℕ) (answer : ℕ × Option Report) (b : ReceiverState) (memory' : List ℕ) : Type 0 where
  pub accepted : feed_refusal s m a.answered memory ≡ None
  pub taken : answer.0 ≡ (fed s m a.mode memory input).taken
  pub report : answer.1 ≡ (fed s m a.mode memory input).report
  pub stored : memory' ≡ (fed s m a.mode memory input).memory
  pub after : b ≡ state_fed a (fed s m a.mode memory input)

-- a feed: before, the octets, its answer, after; refused, nothing is changed
abbrev pub FeedStep : Settings → MappingMeaning → ReceiverState → List ℕ → List ℕ → Result (ℕ × Option Report) FeedFault → ReceiverState → List ℕ → Type 0
FeedStep s m a memory input (Ok answer) b memory' = FeedDone s m a memory input answer b memory'
FeedStep s m a memory input (Err fault) b memory' = (feed_refusal s m a.answered memory ≡ Some fault) × (b ≡ a) × (memory' ≡ memory)

-- The row's answer; to a refusal the row's number is added.
abbrev pub at_row : {X : Type 0} → Result X RowFault → ℕ → Result X BlockFault
at_row (Ok x) row = Ok x
at_row (Err fault) row = Err (record { row = row; fault = fault })

-- 1 on the first row of the first block after a lock, else 0
abbrev pub gap_at : ReceiverState → ℕ
gap_at a = cond (a.answered == 0 && a.first) 1 0

-- one row more is answered
abbrev pub state_next : ReceiverState → ReceiverState
state_next a = record { mode = a.mode; answered = a.answered + 1; first = a.first; after_next = true }

-- An accepted next: the next row is mended word by word, and no octet outside that row is written.
pub record NextDone (s : Settings) (code : CodeMeaning) (a : ReceiverState) (memory : List ℕ) (answer : NextAnswer) (b : ReceiverState) (memory' : List ℕ) : Type 0 where
  pub accepted : next_refusal s a.answered memory ≡ None
  pub row_is : answer.row ≡ a.answered
  pub gap_is : answer.gap ≡ gap_at a
  pub row_after : List ℕ
  pub valid : Result Unit RowFault
  pub mended : MendedRow s.depth code (row_at s a.answered memory) row_after answer.altered valid
  pub valid_is : answer.valid ≡ at_row valid a.answered
  pub stored : memory' ≡ with_row s a.answered row_after memory
  pub after : b ≡ state_next a

-- a next: before, its answer, after; refused, nothing is changed
abbrev pub NextStep : Settings → CodeMeaning → ReceiverState → List ℕ → Result NextAnswer NextFault → ReceiverState → List ℕ → Type 0
NextStep s code a memory (Ok answer) b memory' = NextDone s code a memory answer b memory'
NextStep s code a memory (Err fault) b memory' = (next_refusal s a.answered memory ≡ Some fault) × (b ≡ a) × (memory' ≡ memory)

-- the information octets of the row answered last
abbrev pub frame_shown : Settings → CodeMeaning → ReceiverState → List ℕ → List ℕ
frame_shown s code a memory = take (frame_length s.depth code) (drop ((a.answered - 1) * row_length s) memory)

-- a show, which changes nothing: what it hands out, or its refusal
abbrev pub ShowStep : Settings → CodeMeaning → ReceiverState → List ℕ → Result (List ℕ) ShowFault → Type 0
ShowStep s code a memory (Ok frame) = (show_refusal s a.after_next memory ≡ None) × (frame ≡ frame_shown s code a memory)
ShowStep s code a memory (Err fault) = show_refusal s a.after_next memory ≡ Some fault
