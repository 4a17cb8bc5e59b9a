-- The line: rows fill a block, which is interleaved, masked and cut into subframes, each behind its marker; block follows block.
use Rattle.std.specs.Prelude.{◌≡◌, ℕ, zero, suc, ◌+◌, ◌*◌, ◌<◌, ◌≤◌, List, [], ◌++◌, length, get_or, slice_index_or}
use Rattle.octets.specs.Counting.{tabulate}
use Rattle.settings.specs.declared.Settings.{Settings}
use Rattle.settings.specs.Lengths.{subframes, subframe_data, period}
use Rattle.code.specs.Meaning.{CodeMeaning}
use Rattle.mapping.specs.Meaning.{MappingMeaning}
use Rattle.mapping.specs.Bulk.{line_octet}
use Rattle.marker.specs.Marker.{marker}
use Rattle.link.specs.Frames.{EncodedFrame}

-- f 0, f 1, .., f (n - 1), one behind the other
unfoldable pub joined : ℕ → (ℕ → List ℕ) → List ℕ
joined zero f = []
joined (suc n) f = joined n f ++ f n

-- the octets of a block on the line, markers counted
abbrev pub line_length : Settings → ℕ
line_length s = subframes s * period s

-- subframe j of a block with these octets in its memory: the marker of j, then data octet after data octet
abbrev pub subframe : Settings → MappingMeaning → List ℕ → ℕ → List ℕ
subframe s m memory j = marker j ++ tabulate (subframe_data s) (λ r. line_octet m memory (j * subframe_data s + r))

-- a block on the line
unfoldable pub block_line : Settings → MappingMeaning → List ℕ → List ℕ
block_line s m memory = joined (subframes s) (subframe s m memory)

-- the memory that the rows of block b fill, N to a block
abbrev pub block_memory : Settings → List (List ℕ) → ℕ → List ℕ
block_memory s rows b = joined s.rows (λ i. get_or rows (b * s.rows + i) [])

-- the first n blocks of these rows on the line
abbrev pub line_of_rows : Settings → MappingMeaning → List (List ℕ) → ℕ → List ℕ
line_of_rows s m rows n = joined n (λ b. block_line s m (block_memory s rows b))

-- frame by frame, a row that is the frame encoded
pub record EncodedFrames (depth : ℕ) (code : CodeMeaning) (frames rows : List (List ℕ)) : Type 0 where
  pub size : length rows ≡ length frames
  pub each : (i : ℕ) → i < length frames → EncodedFrame depth code (slice_index_or frames i []) (slice_index_or rows i [])

-- These octets are a beginning of the line of these frames: of the whole blocks that the frames fill.
pub record BeginsLine (s : Settings) (code : CodeMeaning) (m : MappingMeaning) (frames : List (List ℕ)) (octets : List ℕ) : Type 0 where
  pub rows : List (List ℕ)
  pub encoded : EncodedFrames s.depth code frames rows
  pub blocks : ℕ
  pub full : blocks * s.rows ≤ length frames
  pub rest : List ℕ
  pub beginning : octets ++ rest ≡ line_of_rows s m rows blocks
