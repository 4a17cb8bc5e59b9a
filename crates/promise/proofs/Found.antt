-- What every call finds behind a block that was heard in step with the line.
use Rattle.std.proofs.Common.{◌≡◌, ℕ, ◌+◌, ◌*◌, ◌<◌, ◌≤◌, false, List, length, get_or, take, Ok, Err, Result}
use lib.Bits.{bit_xor}
use Rattle.settings.specs.declared.Settings.{Settings}
use Rattle.settings.specs.Lengths.{subframes, subframe_data, period, block_length}
use Rattle.code.specs.Meaning.{CodeMeaning}
use Rattle.mapping.specs.Meaning.{MappingMeaning}
use Rattle.link.specs.Frames.{frame_length, row_at}
use Rattle.link.specs.Line.{line_length}
use Rattle.link.specs.RowMending.{MendedRow}
use Rattle.link.specs.ReceiverSteps.{at_row}
use Rattle.link.specs.declared.mending.RowFault.{RowFault}
use Rattle.promise.specs.ReceiverHistory.{ReceiverCall, feed, next, show, nexts, latest_is_next}

-- T are the octets taken, and the first octet of the block is the one at `base` of them.
module _ (s : Settings) (m : MappingMeaning) (T : List ℕ) (base : ℕ) where
  -- The block's data among the first e octets taken are in the memory where they belong.
  abbrev pub Stored : ℕ → List ℕ → Type 0
  Stored e memory = (j p : ℕ) → j < subframes s → p < subframe_data s → base + (j * period s + (7 + p)) < e
      → get_or memory (m.source (j * subframe_data s + p)) 0 ≡ bit_xor (get_or T (base + (j * period s + (7 + p))) 0) (m.mask (j * subframe_data s + p))

  -- a memory with the block as it arrived
  pub record Arrived (memory : List ℕ) : Type 0 where
    pub room : length memory ≡ block_length s
    pub stored : Stored (base + line_length s) memory

  -- row i of the block as it arrived, mended to this row
  pub record RowFound (code : CodeMeaning) (i : ℕ) (row : List ℕ) (altered : ℕ) (valid : Result Unit RowFault) : Type 0 where
    pub memory : List ℕ
    pub arrived : Arrived memory
    pub mended : MendedRow s.depth code (row_at s i memory) row altered valid

  -- what a call finds behind the block, with the calls between
  abbrev pub Finds : CodeMeaning → List ReceiverCall → ReceiverCall → Type 0
  Finds code between (feed input (Ok answer)) = s.rows ≤ nexts between
  Finds code between (feed input (Err fault)) = Unit
  Finds code between (next (Ok answer)) = nexts between < s.rows
      → (answer.row ≡ nexts between) × ((row : List ℕ) × (valid : Result Unit RowFault) × RowFound code (nexts between) row answer.altered valid × (answer.valid ≡ at_row valid (nexts between)))
  Finds code between (next (Err fault)) = s.rows ≤ nexts between
  Finds code between (show (Ok octets)) = (i : ℕ) → i < s.rows → nexts between ≡ i + 1
      → (row : List ℕ) × (altered : ℕ) × (valid : Result Unit RowFault) × RowFound code i row altered valid × (octets ≡ take (frame_length s.depth code) row)
  Finds code between (show (Err fault)) = latest_is_next between ≡ false
