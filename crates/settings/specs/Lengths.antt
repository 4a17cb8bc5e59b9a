-- The lengths that follow from the settings, in octets.
use Rattle.std.specs.Prelude.{ℕ, ◌+◌, ◌*◌, ◌/◌}
use Rattle.settings.specs.declared.Settings.{Settings}

-- a row: `depth` words of 255 octets
abbrev pub row_length : Settings → ℕ
row_length s = 255 * s.depth

-- B: the data of a block, and so the memory of either end
abbrev pub block_length : Settings → ℕ
block_length s = 255 * s.depth * s.rows

-- S: the subframes of a block, a number and no length
abbrev pub subframes : Settings → ℕ
subframes s = s.rows / s.subframe_rows

-- D: the data of a subframe
abbrev pub subframe_data : Settings → ℕ
subframe_data s = 255 * s.depth * s.subframe_rows

-- the octets of a marker
abbrev pub marker_length : ℕ
marker_length = 7

-- P: a subframe on the line, from marker to marker
abbrev pub period : Settings → ℕ
period s = subframe_data s + marker_length

-- the line that may pass until a receiver that slipped has found the markers again
abbrev pub resync_length : Settings → ℕ
resync_length s = s.miss_limit * period s
