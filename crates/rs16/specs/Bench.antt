-- Values to hold a bench against, as facts about the definitions.
use Rattle.std.specs.Prelude.{◌≡◌, ℕ, ◌*◌, ◌<◌, List, length, take, replicate}
use Rattle.octets.specs.Words.{word_length, word_of}
use Rattle.rs16.specs.Field.{◌⊗◌}
use Rattle.rs16.specs.DualBasis.{line_octet}
use Rattle.rs16.specs.Codewords.{Codeword}

-- each word of the row is a codeword whose information octets are 0
abbrev pub OfZeroFrame : ℕ → List ℕ → Type 0
OfZeroFrame depth row = (word : ℕ) → word < depth → Codeword (word_of depth word row) × (take 223 (word_of depth word row) ≡ replicate 223 0)

-- A product, a line octet, and the row that a zero frame makes.
pub record BenchValues : Type 0 where
  pub product : 0x02 ⊗ 0x80 ≡ 0x87
  pub line_octet_of_3 : line_octet 0x03 ≡ 0xD4
  -- a zero frame makes a zero row
  pub zero_row : (depth : ℕ) (row : List ℕ) → 0 < depth → length row ≡ word_length * depth → OfZeroFrame depth row → row ≡ replicate (word_length * depth) 0
