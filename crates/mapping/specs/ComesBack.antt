-- A line that arrives as it was sent gives the memory again.
use Rattle.std.specs.Prelude.{◌≡◌, ℕ, List, length}
use Rattle.mapping.specs.Bulk.{LineWritten, LineStored}
use Rattle.mapping.specs.Meaning.{MappingMeaning, block_size}

-- The line of a whole block is written from one memory and stored in another, whatever that held: it then holds the same.
abbrev pub ComesBack : MappingMeaning → Type 0
ComesBack m =
    (memory before line old new : List ℕ)
    → length memory ≡ block_size m → length before ≡ block_size m → length old ≡ block_size m
    → LineWritten m memory 0 (block_size m) before line
    → LineStored m line 0 (block_size m) old new
    → new ≡ memory
