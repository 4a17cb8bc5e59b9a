-- What one receiver and its one memory lived through: the receiver as made, any memory, then calls, each on what the one before left.
use Rattle.std.specs.Prelude.{ℕ, ◌+◌, Bool, true, false, cond, List, [], ◌∷◌, ◌++◌, length, take, Some, None, Ok, Err, Option, Result, nat_lt}
use Rattle.settings.specs.declared.Settings.{Settings}
use Rattle.code.specs.Meaning.{CodeMeaning}
use Rattle.mapping.specs.Meaning.{MappingMeaning}
use Rattle.link.specs.ReceiverSteps.{receiver_made, FeedStep, NextStep, ShowStep}
use Rattle.link.specs.declared.receiving.ReceiverState.{ReceiverState}
use Rattle.link.specs.declared.reception.FeedFault.{FeedFault}
use Rattle.link.specs.declared.reception.NextFault.{NextFault}
use Rattle.link.specs.declared.reception.ShowFault.{ShowFault}
use Rattle.link.specs.declared.reception.NextAnswer.{NextAnswer}
use Rattle.link.specs.declared.report.Report.{Report}

-- A call with what it was given and what it answered. Lists of calls have the latest first.
pub data ReceiverCall : Type 0 where
  feed : (input : List ℕ) (answer : Result (ℕ × Option Report) FeedFault) → ReceiverCall
  next : (answer : Result NextAnswer NextFault) → ReceiverCall
  show : (answer : Result (List ℕ) ShowFault) → ReceiverCall

-- These calls, refused ones too, led to this state and this memory. Each step is what the contract of feed, next or show says of that call.
pub data ReceiverHistory (s : Settings) (code : CodeMeaning) (m : MappingMeaning) : List ReceiverCall → ReceiverState → List ℕ → Type 0 where
  made : (memory : List ℕ) → ReceiverHistory s code m [] (receiver_made s) memory
  feed_next : {calls : List ReceiverCall} {a b : ReceiverState} {memory memory' input : List ℕ} {r : Result (ℕ × Option Report) FeedFault} → ReceiverHistory s code m calls a memory → FeedStep s m a memory input r b memory' → ReceiverHistory s code m (feed input r ∷ calls) b memory'
  next_next : {calls : List ReceiverCall} {a b : ReceiverState} {memory memory' : List ℕ} {r : Result NextAnswer NextFault} → ReceiverHistory s code m calls a memory → NextStep s code a memory r b memory' → ReceiverHistory s code m (next r ∷ calls) b memory'
  show_next : {calls : List ReceiverCall} {a : ReceiverState} {memory : List ℕ} {r : Result (List ℕ) ShowFault} → ReceiverHistory s code m calls a memory → ShowStep s code a memory r → ReceiverHistory s code m (show r ∷ calls) a memory

-- the octets taken: of each accepted feed as many of its octets as it answered, joined
unfoldable pub octets_taken : List ReceiverCall → List ℕ
octets_taken [] = []
octets_taken (feed input (Ok answer) ∷ calls) = octets_taken calls ++ take answer.0 input
octets_taken (feed input (Err fault) ∷ calls) = octets_taken calls
octets_taken (next r ∷ calls) = octets_taken calls
octets_taken (show r ∷ calls) = octets_taken calls

-- a report, if there is one, with the octets taken up to and with its marker's last
abbrev pub report_at : Option Report → ℕ → List (ℕ × Report)
report_at (Some report) place = (place, report) ∷ []
report_at None place = []

-- All reports, each with the number of octets taken up to and with its marker's last: a marker read is where its feed stops.
unfoldable pub reports : List ReceiverCall → List (ℕ × Report)
reports [] = []
reports (feed input (Ok answer) ∷ calls) = report_at answer.1 (length (octets_taken calls) + answer.0) ++ reports calls
reports (feed input (Err fault) ∷ calls) = reports calls
reports (next r ∷ calls) = reports calls
reports (show r ∷ calls) = reports calls

-- the calls made when `e` octets, or more, had been taken
unfoldable pub since : ℕ → List ReceiverCall → List ReceiverCall
since e [] = []
since e (call ∷ calls) = cond (nat_lt (length (octets_taken calls)) e) [] (call ∷ since e calls)

-- how many nexts were accepted
unfoldable pub nexts : List ReceiverCall → ℕ
nexts [] = 0
nexts (feed input r ∷ calls) = nexts calls
nexts (next (Ok answer) ∷ calls) = nexts calls + 1
nexts (next (Err fault) ∷ calls) = nexts calls
nexts (show r ∷ calls) = nexts calls

-- The latest accepted call of feed and next was next.
unfoldable pub latest_is_next : List ReceiverCall → Bool
latest_is_next [] = false
latest_is_next (feed input (Ok answer) ∷ calls) = false
latest_is_next (feed input (Err fault) ∷ calls) = latest_is_next calls
latest_is_next (next (Ok answer) ∷ calls) = true
latest_is_next (next (Err fault) ∷ calls) = latest_is_next calls
latest_is_next (show r ∷ calls) = latest_is_next calls
