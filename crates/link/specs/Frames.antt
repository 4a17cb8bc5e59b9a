-- A frame encoded as a row, and the rows of a block's memory.
use Rattle.std.specs.Prelude.{◌≡◌, ℕ, suc, ◌*◌, ◌<◌, List, ◌++◌, length, take, drop}
use Rattle.octets.specs.Words.{word_length, word_of}
use Rattle.settings.specs.declared.Settings.{Settings}
use Rattle.settings.specs.Lengths.{row_length}
use Rattle.code.specs.Meaning.{CodeMeaning}

-- T: the octets of a frame, the information of `depth` words
abbrev pub frame_length : ℕ → CodeMeaning → ℕ
frame_length depth code = code.information * depth

-- A frame encoded: a row of `depth` codewords that begins with the frame.
pub record EncodedFrame (depth : ℕ) (code : CodeMeaning) (frame row : List ℕ) : Type 0 where
  pub size : length row ≡ word_length * depth
  pub begins : take (frame_length depth code) row ≡ frame
  pub words : (w : ℕ) → w < depth → code.Codeword (word_of depth w row)

-- A frame is encoded as one row and no other. So where frames are said to have a line, they have just one.
abbrev pub OneRow : ℕ → CodeMeaning → Type 0
OneRow depth code = (frame a b : List ℕ) → EncodedFrame depth code frame a → EncodedFrame depth code frame b → a ≡ b

-- what the memory has as row i
abbrev pub row_at : Settings → ℕ → List ℕ → List ℕ
row_at s i memory = take (row_length s) (drop (i * row_length s) memory)

-- the memory with another row i, and all else as it was
abbrev pub with_row : Settings → ℕ → List ℕ → List ℕ → List ℕ
with_row s i row memory = take (i * row_length s) memory ++ (row ++ drop (suc i * row_length s) memory)
