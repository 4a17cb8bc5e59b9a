-- Values to hold a bench against, as facts about the definitions that the contracts cite.
use Rattle.std.specs.Prelude.{◌≡◌, ℕ, ◌*◌, ◌<◌, List, [], ◌∷◌, drop, replicate}
use Rattle.octets.specs.Words.{word_length}
use Rattle.mapping.specs.Interleaver.{block_source, stepped_source, symbol_fade}
use Rattle.mapping.specs.Randomizer.{sequence}
use Rattle.marker.specs.Marker.{marker}
use Rattle.rs16.specs.Field.{◌⊗◌}
use Rattle.rs16.specs.DualBasis.{line_octet}
use Rattle.rs16.specs.Codewords.{rs16}
use Rattle.link.specs.Frames.{EncodedFrame, frame_length}

pub record BenchValues : Type 0 where
  -- the field and the dual basis
  pub product : 0x02 ⊗ 0x80 ≡ 0x87
  pub line_octet_of_3 : line_octet 0x03 ≡ 0xD4
  -- the randomizer's sequence
  pub sequence_begins : sequence 0 ∷ sequence 1 ∷ sequence 2 ∷ sequence 3 ∷ sequence 4 ∷ [] ≡ 0xFF ∷ 0x48 ∷ 0x0E ∷ 0xC0 ∷ 0x9A ∷ []
  -- counts, behind a marker's sync word
  pub count_1 : drop 4 (marker 1) ≡ 0x00 ∷ 0x00 ∷ 0x03 ∷ []
  pub count_4095 : drop 4 (marker 4095) ≡ 0x00 ∷ 0x1F ∷ 0xFE ∷ []
  -- sources: depth 1, rows 2, symbol 5; then the step, and the place
  pub block_5 : block_source 1 2 5 5 ≡ 255
  pub block_10 : block_source 1 2 5 10 ≡ 5
  pub stepped_5 : stepped_source 1 2 5 1 5 ≡ 260
  pub stepped_505 : stepped_source 1 2 5 1 505 ≡ 255
  -- fades: depth, rows, symbol, reach
  pub fade_of_symbol_5 : symbol_fade 1 2 5 16 ≡ 31
  pub fade_of_symbol_17 : symbol_fade 1 10 17 16 ≡ 16
  pub fade_of_the_largest_block : symbol_fade 8 4096 1 16 ≡ 524288
  pub fade_of_no_reach : (depth rows symbol : ℕ) → symbol_fade depth rows symbol 0 ≡ 0
  -- a zero frame makes a zero row, and no other
  pub zero_frame : (depth : ℕ) → EncodedFrame depth rs16 (replicate (frame_length depth rs16) 0) (replicate (word_length * depth) 0)
  pub only_zeros : (depth : ℕ) (row : List ℕ) → 0 < depth → EncodedFrame depth rs16 (replicate (frame_length depth rs16) 0) row → row ≡ replicate (word_length * depth) 0
