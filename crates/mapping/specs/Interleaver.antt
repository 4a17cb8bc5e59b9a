-- The block and the stepped mapping: symbols of a few octets go to the line by turns, one from each row.
use Rattle.std.specs.Prelude.{◌≡◌, ℕ, ◌+◌, ◌-◌, ◌*◌, ◌/◌, ◌%◌, min, refl}
use Rattle.octets.specs.Words.{word_length}
use Rattle.settings.specs.declared.Settings.{Settings}
use Rattle.mapping.specs.Meaning.{MappingMeaning}
use Rattle.mapping.specs.declared.interleaver.Interleaver.{Interleaver}
use Rattle.mapping.specs.declared.interleaver.Interleaver.TheVariants.{Block, Stepped}

-- the symbols of a row
abbrev pub columns : ℕ → ℕ → ℕ
columns depth symbol = word_length * depth / symbol

-- the memory place of octet e of the symbol in a column of a row
abbrev pub symbol_place : ℕ → ℕ → ℕ → ℕ → ℕ → ℕ
symbol_place depth symbol row column e = row * (word_length * depth) + column * symbol + e

-- Line place p is octet p mod symbol of line symbol p div symbol. Line symbols take the rows in turn, column after column.
unfoldable pub block_source : ℕ → ℕ → ℕ → ℕ → ℕ
block_source depth rows symbol p =
    let s = p / symbol in
    let row = s % rows in
    let column = s / rows in
    symbol_place depth symbol row column (p % symbol)

-- The same, but each row begins `step` columns further on than the row before, and is read round its end.
unfoldable pub stepped_source : ℕ → ℕ → ℕ → ℕ → ℕ → ℕ
stepped_source depth rows symbol step p =
    let s = p / symbol in
    let row = s % rows in
    let column = (s / rows + row * step) % columns depth symbol in
    symbol_place depth symbol row column (p % symbol)

-- The fade of both. One word has t octets in t * depth octets of a row, so a fade may take as many whole symbols of every row as
-- these have, and what is left of them of one row.
unfoldable pub symbol_fade : ℕ → ℕ → ℕ → ℕ → ℕ
symbol_fade depth rows symbol t = t * depth / symbol * rows * symbol + t * depth % symbol

-- the most octets of one row that b line places in a row can hold
abbrev pub most_of_row : ℕ → ℕ → ℕ → ℕ
most_of_row rows symbol b = b / (rows * symbol) * symbol + min symbol (b % (rows * symbol))

-- the cost of a run: the most octets of one word that b line places in a row can hold, one in `depth` of those of a row, rounded up
unfoldable pub symbol_cost : ℕ → ℕ → ℕ → ℕ → ℕ
symbol_cost depth rows symbol b = (most_of_row rows symbol b + (depth - 1)) / depth

-- the block mapping for these numbers
abbrev pub block : ℕ → ℕ → ℕ → MappingMeaning
block depth rows symbol = record {
  depth = depth;
  rows = rows;
  source = block_source depth rows symbol;
  mask = λ _. 0;
  fade = symbol_fade depth rows symbol;
}

-- the stepped mapping for these numbers
abbrev pub stepped : ℕ → ℕ → ℕ → ℕ → MappingMeaning
stepped depth rows symbol step = record {
  depth = depth;
  rows = rows;
  source = stepped_source depth rows symbol step;
  mask = λ _. 0;
  fade = symbol_fade depth rows symbol;
}

-- the block mapping for a settings record
abbrev pub block_of : Settings → MappingMeaning
block_of s = block s.depth s.rows s.symbol

-- the stepped mapping for a settings record and a step
abbrev pub stepped_of : Settings → ℕ → MappingMeaning
stepped_of s step = stepped s.depth s.rows s.symbol step

-- an interleaver's sources
abbrev pub interleaved_source : Settings → Interleaver → ℕ → ℕ
interleaved_source s Block = block_source s.depth s.rows s.symbol
interleaved_source s (Stepped step) = stepped_source s.depth s.rows s.symbol step

-- An interleaver's mapping. Interleavers differ in their sources alone.
abbrev pub interleaved : Settings → Interleaver → MappingMeaning
interleaved s interleaver = record (block_of s) { source = interleaved_source s interleaver }

pub interleaved_block : (s : Settings) → interleaved s Block ≡ block_of s
interleaved_block s = refl

pub interleaved_stepped : (s : Settings) (step : ℕ) → interleaved s (Stepped step) ≡ stepped_of s step
interleaved_stepped s step = refl

-- how many columns further on each row begins than the row before
abbrev pub step_of : Interleaver → ℕ
step_of Block = 0
step_of (Stepped step) = step
