-- The link promise: what a station may rely on of the two ends of a link.
use Rattle.std.specs.Prelude.{◌≡◌, ℕ, ◌+◌, ◌*◌, ◌<◌, ◌≤◌, false, ◌⊎◌, List, [], ◌∷◌, ◌++◌, length, Ok, Err, ◌≢◌, slice_index_or}
use Rattle.settings.specs.declared.Settings.{Settings}
use Rattle.settings.specs.Lengths.{block_length}
use Rattle.code.specs.Meaning.{CodeMeaning}
use Rattle.mapping.specs.Meaning.{MappingMeaning}
use Rattle.link.specs.declared.state.SenderState.{SenderState}
use Rattle.link.specs.declared.receiving.ReceiverState.{ReceiverState}
use Rattle.link.specs.declared.reception.NextAnswer.{NextAnswer}
use Rattle.link.specs.SenderHistory.{SenderCall, SenderHistory, frames_put, line_sent}
use Rattle.link.specs.SenderLaws.{SenderRefusals, SendsLine}
use Rattle.promise.specs.ReceiverHistory.{ReceiverCall, feed, next, show, ReceiverHistory, octets_taken, reports, since, nexts, latest_is_next}
use Rattle.promise.specs.ReceiverLaws.{ReceiverRefusals}
use Rattle.promise.specs.Reception.{Reception, CoveredLine, OtherwiseCovered, Covered, AlteredThroughout, taken_with}

-- ---- what calls behind a block answer

-- The taking of octets came to a stop right behind the e-th. Of each call made from then on, with the calls between that stop and it, `Holds`
-- is said.
pub record Behind (e : ℕ) (calls : List ReceiverCall) (Holds : List ReceiverCall → ReceiverCall → Type 0) : Type 0 where
  pub later : List ReceiverCall
  pub earlier : List ReceiverCall
  pub split : calls ≡ later ++ earlier
  pub stopped : length (octets_taken earlier) ≡ e
  pub each : (after : List ReceiverCall) (call : ReceiverCall) (between : List ReceiverCall) → since e calls ≡ after ++ (call ∷ between) → Holds between call

-- A block arrives: its rows are answered in order, none is refused, and till the last no octet past the block is taken.
abbrev pub Arrives : Settings → List ReceiverCall → ReceiverCall → Type 0
Arrives s between (feed input (Ok answer)) = s.rows ≤ nexts between
Arrives s between (feed input (Err fault)) = Unit
Arrives s between (next (Ok answer)) = nexts between < s.rows → answer.row ≡ nexts between
Arrives s between (next (Err fault)) = s.rows ≤ nexts between
Arrives s between (show r) = Unit

-- Block b of these frames is delivered: it arrives, each row is valid, and each show hands out the frame of the latest next, as put. No show is
-- refused between a next and the next feed.
abbrev pub Delivers : Settings → List (List ℕ) → ℕ → List ReceiverCall → ReceiverCall → Type 0
Delivers s frames b between (feed input (Ok answer)) = s.rows ≤ nexts between
Delivers s frames b between (feed input (Err fault)) = Unit
Delivers s frames b between (next (Ok answer)) = nexts between < s.rows → (answer.row ≡ nexts between) × (answer.valid ≡ Ok tt)
Delivers s frames b between (next (Err fault)) = s.rows ≤ nexts between
Delivers s frames b between (show (Ok octets)) = (i : ℕ) → i < s.rows → nexts between ≡ i + 1 → octets ≡ slice_index_or frames (b * s.rows + i) []
Delivers s frames b between (show (Err fault)) = latest_is_next between ≡ false

-- Row i of block b of these frames is lost: the next that answers it says that it is not valid, or each show until another next is accepted
-- hands out something else than the frame put.
abbrev pub Lost : Settings → List (List ℕ) → ℕ → ℕ → List ReceiverCall → Type 0
Lost s frames b i behind =
    (after between : List ReceiverCall) (answer : NextAnswer) → behind ≡ after ++ (next (Ok answer) ∷ between) → nexts between ≡ i
    → (answer.valid ≢ Ok tt)
    ⊎ ((late till : List ReceiverCall) (octets : List ℕ) → after ≡ late ++ (show (Ok octets) ∷ till) → nexts till ≡ 0 → octets ≢ slice_index_or frames (b * s.rows + i) [])

-- ---- the laws

-- Two ends that share settings, code and mapping: any history of each, on any memory, and what of the line sent was taken, a covered line.
pub record Link (s : Settings) (code : CodeMeaning) (m : MappingMeaning) : Type 0 where
  pub sender_calls : List SenderCall
  pub sender : SenderState
  pub sender_memory : List ℕ
  pub sending : SenderHistory s code m sender_calls sender sender_memory
  pub receiver_calls : List ReceiverCall
  pub receiver : ReceiverState
  pub receiver_memory : List ℕ
  pub receiving : ReceiverHistory s code m receiver_calls receiver receiver_memory
  pub reception : Reception (line_sent sender_calls) (octets_taken receiver_calls)
  pub covered : CoveredLine s reception (reports receiver_calls)

-- Arrival: each block otherwise covered arrives, whatever is altered in its data.
abbrev pub Arrival : Settings → CodeMeaning → MappingMeaning → ℕ → Type 0
Arrival s code m resync =
    (link : Link s code m) (b : ℕ) → OtherwiseCovered s link.reception resync b
    → Behind (taken_with s link.reception b) link.receiver_calls (Arrives s)

-- Ride-through: each covered block is delivered, with the frames that were put.
abbrev pub RideThrough : Settings → CodeMeaning → MappingMeaning → ℕ → ℕ → Type 0
RideThrough s code m fade resync =
    (link : Link s code m) (b : ℕ) → Covered s link.reception resync fade b
    → Behind (taken_with s link.reception b) link.receiver_calls (Delivers s (frames_put link.sender_calls) b)

-- No longer fade: some run of data places, one longer, that costs a frame of every block otherwise covered in which each octet of the run is
-- altered, in whatever way, whatever else is altered. The run and the row are the same for all histories.
pub record NoLongerFade (s : Settings) (code : CodeMeaning) (m : MappingMeaning) (fade resync : ℕ) : Type 0 where
  pub start : ℕ
  pub row : ℕ
  pub run_inside : start + (fade + 1) ≤ block_length s
  pub row_inside : row < s.rows
  pub lost : (link : Link s code m) (b : ℕ) → OtherwiseCovered s link.reception resync b → AlteredThroughout s link.reception b start (fade + 1)
      → Lost s (frames_put link.sender_calls) b row (since (taken_with s link.reception b) link.receiver_calls)

-- The whole promise, at a fade and a resync length.
pub record LinkPromise (s : Settings) (code : CodeMeaning) (m : MappingMeaning) (fade resync : ℕ) : Type 0 where
  -- every call of either end is refused just where the table says, and a refused call changes nothing
  pub sender_refusals : SenderRefusals s code m
  pub receiver_refusals : ReceiverRefusals s code m
  -- the line sent is a beginning of the line of the frames put
  pub line : SendsLine s code m
  pub arrival : Arrival s code m resync
  pub ride_through : RideThrough s code m fade resync
  pub no_longer_fade : NoLongerFade s code m fade resync
