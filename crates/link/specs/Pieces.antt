-- The line of a block written piece by piece to an output.
use Rattle.std.specs.Prelude.{◌≡◌, ℕ, ◌+◌, ◌-◌, ◌<◌, ◌≤◌, min, List, length, slice_index}
use Rattle.settings.specs.declared.Settings.{Settings}
use Rattle.mapping.specs.Meaning.{MappingMeaning}
use Rattle.marker.specs.Marker.{marker}
use Rattle.link.specs.Line.{line_length, block_line}

-- The first `taken` places of the output hold `octet 0`, `octet 1`, .., and the rest of it is kept.
pub record FrontWritten (octet : ℕ → ℕ) (taken : ℕ) (before after : List ℕ) : Type 0 where
  pub size : length after ≡ length before
  pub written : (i : ℕ) → i < taken → slice_index after i ≡ octet i
  pub kept : (i : ℕ) → taken ≤ i → slice_index after i ≡ slice_index before i

-- the octets of a list from a place on
abbrev pub from : List ℕ → ℕ → ℕ → ℕ
from xs place i = slice_index xs (place + i)

-- The octets of the marker of `count` from octet `start` on, until the output or the marker ends.
pub record MarkerWritten (count start taken : ℕ) (before after : List ℕ) : Type 0 where
  pub taken_is : taken ≡ min (length before) (7 - start)
  pub front : FrontWritten (from (marker count) start) taken before after

-- Some octets of the block's line from `place` on, at least one if there is room.
pub record PieceWritten (s : Settings) (m : MappingMeaning) (memory : List ℕ) (place taken : ℕ) (before after : List ℕ) : Type 0 where
  pub some : 0 < length before → 0 < taken
  pub fits : taken ≤ length before
  pub within : place + taken ≤ line_length s
  pub front : FrontWritten (from (block_line s m memory) place) taken before after

-- The octets of the block's line from `place` on, until the output or the block ends.
pub record BlockLineWritten (s : Settings) (m : MappingMeaning) (memory : List ℕ) (place taken : ℕ) (before after : List ℕ) : Type 0 where
  pub taken_is : taken ≡ min (length before) (line_length s - place)
  pub front : FrontWritten (from (block_line s m memory) place) taken before after
