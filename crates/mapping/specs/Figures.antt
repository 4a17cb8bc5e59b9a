-- Figures of the definitions, as docs/FORMAT.md prints them.
use Rattle.std.specs.Prelude.{◌≡◌, ℕ}
use Rattle.mapping.specs.Meaning.{sources_of}
use Rattle.mapping.specs.Interleaver.{block, block_source, stepped_source, symbol_fade}
use Rattle.mapping.specs.Randomizer.{sequence}

-- depth, rows and symbol in this order, then the step of a stepped mapping, then the place or the reach
pub record Figures : Type 0 where
  pub block_5 : block_source 1 2 5 5 ≡ 255
  pub block_10 : block_source 1 2 5 10 ≡ 5
  pub stepped_5 : stepped_source 1 2 5 1 5 ≡ 260
  pub stepped_505 : stepped_source 1 2 5 1 505 ≡ 255
  pub fade_of_symbol_5 : symbol_fade 1 2 5 16 ≡ 31
  pub fade_of_symbol_17 : symbol_fade 1 10 17 16 ≡ 16
  pub fade_of_the_largest_block : symbol_fade 8 4096 1 16 ≡ 524288
  pub fade_of_no_reach : (depth rows symbol : ℕ) → symbol_fade depth rows symbol 0 ≡ 0
  -- t * depth * rows places would be too many: these 32 hold 17 octets of one word
  pub too_many : sources_of (block 1 2 5) 0 0 0 32 ≡ 17
  pub sequence_0 : sequence 0 ≡ 0xFF
  pub sequence_1 : sequence 1 ≡ 0x48
  pub sequence_2 : sequence 2 ≡ 0x0E
  pub sequence_3 : sequence 3 ≡ 0xC0
  pub sequence_4 : sequence 4 ≡ 0x9A
