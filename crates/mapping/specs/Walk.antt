-- The walk: how the block and the stepped mapping go from a line place to the next without a division.
use Rattle.std.specs.Prelude.{◌≡◌, ℕ, ◌+◌, ◌*◌, ◌/◌, ◌%◌}
use Rattle.settings.specs.declared.Settings.{Settings}
use Rattle.settings.specs.Lengths.{row_length, block_length}
use Rattle.mapping.specs.Interleaver.{columns}
use Rattle.mapping.specs.declared.walk.Walk.{Walk}

-- A walk stands at line place p of the mapping with this step, 0 for the block mapping.
pub record At (s : Settings) (step p : ℕ) (w : Walk) : Type 0 where
  pub symbol_is : w.symbol ≡ s.symbol
  pub row_length_is : w.row_length ≡ row_length s
  pub block_is : w.block ≡ block_length s
  -- how far each row begins behind the row before
  pub shift_is : w.shift ≡ step % columns s.depth s.symbol * s.symbol
  -- the octet in the symbol
  pub octet_is : w.octet ≡ p % s.symbol
  -- where the row begins in the memory
  pub base_is : w.base ≡ p / s.symbol % s.rows * row_length s
  -- where row 0 is read in this turn of the rows
  pub first_is : w.first ≡ p / s.symbol / s.rows % columns s.depth s.symbol * s.symbol
  -- where this row is read
  pub offset_is : w.offset ≡ (p / s.symbol / s.rows + p / s.symbol % s.rows * step) % columns s.depth s.symbol * s.symbol
