-- Which numbers a settings record may hold.
use Rattle.std.specs.Prelude.{ℕ, ◌*◌, ◌%◌, Bool, ◌&&◌, ◌||◌, ◌==◌, nat_le}

-- 1, 2, 3, 4, 5 or 8 words to a row
abbrev pub depth_is_allowed : ℕ → Bool
depth_is_allowed depth = (nat_le 1 depth && nat_le depth 5) || depth == 8

-- 1 to 4,096 rows to a block
abbrev pub rows_are_allowed : ℕ → Bool
rows_are_allowed rows = nat_le 1 rows && nat_le rows 4096

-- a divisor of the row's length
abbrev pub symbol_is_allowed : ℕ → ℕ → Bool
symbol_is_allowed depth symbol = nat_le 1 symbol && 255 * depth % symbol == 0

-- a divisor of the rows
abbrev pub subframe_rows_are_allowed : ℕ → ℕ → Bool
subframe_rows_are_allowed rows subframe_rows = nat_le 1 subframe_rows && rows % subframe_rows == 0

-- 1 to 255 misses in a row
abbrev pub miss_limit_is_allowed : ℕ → Bool
miss_limit_is_allowed miss_limit = nat_le 1 miss_limit && nat_le miss_limit 255
