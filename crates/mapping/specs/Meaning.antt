-- What a mapping means, and what every mapping keeps.
use Rattle.std.specs.Prelude.{◌≡◌, ℕ, ◌+◌, ◌*◌, ◌/◌, ◌%◌, ◌<◌, ◌≤◌, Bool, ◌&&◌, ◌==◌}
use Rattle.octets.specs.Counting.{count}
use Rattle.octets.specs.Words.{word_length, max_reach, of_word}

-- For a block of `rows` rows of `depth` words: data octet p of the line is the octet at memory place `source p`, with `mask p` added
-- modulo 2. `fade t` is a length in data octets, markers not counted: a code that mends t octets of a word rides through a fade so long.
pub record MappingMeaning : Type 0 where
  pub depth : ℕ
  pub rows : ℕ
  pub source : ℕ → ℕ
  pub mask : ℕ → ℕ
  pub fade : ℕ → ℕ

-- the octets of a row
abbrev pub row_size : MappingMeaning → ℕ
row_size m = word_length * m.depth

-- B: the octets of a block, and so its line places and its memory places
abbrev pub block_size : MappingMeaning → ℕ
block_size m = row_size m * m.rows

-- Whether memory place q is an octet of word w of row r. Rows lie one after the other, and words are woven in a row.
abbrev pub of_row_word : ℕ → ℕ → ℕ → ℕ → Bool
of_row_word depth r w q = q / (word_length * depth) == r && of_word depth w (q % (word_length * depth))

-- how many of the n line places from `start` on have their source in word w of row r
abbrev pub sources_of : MappingMeaning → ℕ → ℕ → ℕ → ℕ → ℕ
sources_of m r w start n = count n (λ i. of_row_word m.depth r w (m.source (start + i)))

-- some n places in a row, within the block, that hold `held` sources of one word
pub record Holding (m : MappingMeaning) (n held : ℕ) : Type 0 where
  pub start : ℕ
  pub row : ℕ
  pub word : ℕ
  pub row_is : row < m.rows
  pub word_is : word < m.depth
  pub within : start + n ≤ block_size m
  pub holds : sources_of m row word start n ≡ held

-- what every mapping keeps
pub record MappingLaws (m : MappingMeaning) : Type 0 where
  -- sources pair the line places one to one with the memory places
  pub inside : (p : ℕ) → p < block_size m → m.source p < block_size m
  pub once : (p q : ℕ) → p < block_size m → q < block_size m → m.source p ≡ m.source q → p ≡ q
  pub onto : (q : ℕ) → q < block_size m → (p : ℕ) × (p < block_size m) × (m.source p ≡ q)
  -- the mask is an octet
  pub octet : (p : ℕ) → p < block_size m → m.mask p < 256
  -- in any `fade t` places in a row at most t sources belong to one word
  pub spread : (t start r w : ℕ) → t ≤ max_reach → r < m.rows → w < m.depth → start + m.fade t ≤ block_size m
      → sources_of m r w start (m.fade t) ≤ t
  -- some `fade t + 1` places in a row hold t + 1 sources of one word
  pub tight : (t : ℕ) → t ≤ max_reach → Holding m (m.fade t + 1) (t + 1)
