-- Where the calls of a receiver are refused, told by its history alone.
use Rattle.std.specs.Prelude.{◌≡◌, ℕ, Bool, false, cond, ◌&&◌, List, [], ◌∷◌, length, Some, None, Ok, Err, Option, Result}
use Rattle.settings.specs.declared.Settings.{Settings}
use Rattle.code.specs.Meaning.{CodeMeaning}
use Rattle.mapping.specs.Meaning.{MappingMeaning}
use Rattle.link.specs.Rules.{empty_window, mode_after, block_ends}
use Rattle.link.specs.Refusal.{memory_fits}
use Rattle.link.specs.ReceiverRefusal.{frames_wait, show_refusal}
use Rattle.link.specs.ReceiverSteps.{FeedStep, NextStep, ShowStep}
use Rattle.link.specs.declared.receiving.Mode.{Mode}
use Rattle.link.specs.declared.receiving.Mode.TheVariants.{Hunting}
use Rattle.link.specs.declared.receiving.ReceiverState.{ReceiverState}
use Rattle.link.specs.declared.reception.FeedFault as feed-fault
use Rattle.link.specs.declared.reception.FeedFault.{FeedFault}
use Rattle.link.specs.declared.reception.NextFault as next-fault
use Rattle.link.specs.declared.reception.NextFault.{NextFault}
use Rattle.link.specs.declared.reception.ShowFault.{ShowFault}
use Rattle.link.specs.declared.reception.NextAnswer.{NextAnswer}
use Rattle.link.specs.declared.report.Report.{Report}
use Rattle.promise.specs.ReceiverHistory.{ReceiverCall, ReceiverHistory, octets_taken, since, nexts, latest_is_next}

-- Whether the last of these octets, heard one after the other from this mode on, is the last of a block in progress; of none, as told.
unfoldable pub last_ends_block : Settings → Bool → Mode → List ℕ → Bool
last_ends_block s told mode [] = told
last_ends_block s told mode (x ∷ xs) = last_ends_block s (block_ends s mode) (mode_after s mode x) xs

-- Frames wait: the octets taken end with a block's last octet, and since then fewer nexts were accepted than the block has rows.
abbrev pub frames_wait_after : Settings → List ReceiverCall → Bool
frames_wait_after s calls =
    last_ends_block s false (Hunting empty_window) (octets_taken calls) && frames_wait s (nexts (since (length (octets_taken calls)) calls))

-- feed, by whether frames wait: the first check that fails
abbrev pub feed_refusal_if : Settings → Bool → List ℕ → Option FeedFault
feed_refusal_if s waiting memory =
    cond (memory_fits s memory) (
    cond waiting (Some feed-fault.TheVariants.Waiting) None
    ) (Some feed-fault.TheVariants.Memory)

-- next, likewise
abbrev pub next_refusal_if : Settings → Bool → List ℕ → Option NextFault
next_refusal_if s waiting memory =
    cond (memory_fits s memory) (
    cond waiting None (Some next-fault.TheVariants.NoneWaits)
    ) (Some next-fault.TheVariants.Memory)

-- A feed behind these calls is accepted just if no check of the table fails, else refused by the first that does; refused, it leaves receiver and memory as they were.
abbrev pub FeedAnswered : Settings → List ReceiverCall → ReceiverState → List ℕ → Result (ℕ × Option Report) FeedFault → ReceiverState → List ℕ → Type 0
FeedAnswered s calls a memory (Ok answer) b memory' = feed_refusal_if s (frames_wait_after s calls) memory ≡ None
FeedAnswered s calls a memory (Err fault) b memory' =
    (feed_refusal_if s (frames_wait_after s calls) memory ≡ Some fault) × (b ≡ a) × (memory' ≡ memory)

-- A next likewise.
abbrev pub NextAnswered : Settings → List ReceiverCall → ReceiverState → List ℕ → Result NextAnswer NextFault → ReceiverState → List ℕ → Type 0
NextAnswered s calls a memory (Ok answer) b memory' = next_refusal_if s (frames_wait_after s calls) memory ≡ None
NextAnswered s calls a memory (Err fault) b memory' =
    (next_refusal_if s (frames_wait_after s calls) memory ≡ Some fault) × (b ≡ a) × (memory' ≡ memory)

-- A show likewise; receiver and memory are only lent to it.
abbrev pub ShowAnswered : Settings → List ReceiverCall → List ℕ → Result (List ℕ) ShowFault → Type 0
ShowAnswered s calls memory (Ok octets) = show_refusal s (latest_is_next calls) memory ≡ None
ShowAnswered s calls memory (Err fault) = show_refusal s (latest_is_next calls) memory ≡ Some fault

-- Refusals: each call of a history is refused with the number, and just where, the table says, in its order, judged on the memory before the call.
pub record ReceiverRefusals (s : Settings) (code : CodeMeaning) (m : MappingMeaning) : Type 0 where
  pub of_feed : (calls : List ReceiverCall) (a b : ReceiverState) (memory memory' input : List ℕ) (r : Result (ℕ × Option Report) FeedFault)
      → ReceiverHistory s code m calls a memory → FeedStep s m a memory input r b memory' → FeedAnswered s calls a memory r b memory'
  pub of_next : (calls : List ReceiverCall) (a b : ReceiverState) (memory memory' : List ℕ) (r : Result NextAnswer NextFault)
      → ReceiverHistory s code m calls a memory → NextStep s code a memory r b memory' → NextAnswered s calls a memory r b memory'
  pub of_show : (calls : List ReceiverCall) (a : ReceiverState) (memory : List ℕ) (r : Result (List ℕ) ShowFault)
      → ReceiverHistory s code m calls a memory → ShowStep s code a memory r → ShowAnswered s calls memory r
