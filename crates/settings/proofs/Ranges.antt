-- What the ranges of the settings give: bounds on each number, exact division, and bounds on the lengths.
use Rattle.std.proofs.Common.{◌≡◌, ℕ, zero, suc, ◌*◌, ◌/◌, ◌%◌, ◌<◌, ◌≤◌, true, div-add-mod', arith, w64, Fits}
use Rattle.std.proofs.lemmas.Nat.{mul-le}
use Rattle.std.proofs.lemmas.Bool.Decides.{nat_tests}
use Rattle.settings.specs.Allowed.{depth_is_allowed, rows_are_allowed, symbol_is_allowed, subframe_rows_are_allowed, miss_limit_is_allowed}
use Rattle.settings.specs.Lengths.{row_length, block_length, subframes, subframe_data, period, resync_length}
use Rattle.settings.specs.declared.Settings.{Settings}

pub depth_low : (d : ℕ) → depth_is_allowed d ≡ true → 0 < d
depth_low d h = grind (arith, nat_tests)

pub depth_high : (d : ℕ) → depth_is_allowed d ≡ true → d ≤ 8
depth_high d h = grind (arith, nat_tests)

-- a divisor of a number above 0 is at most that number
pub divisor_le : (n d : ℕ) → 0 < n → n % d ≡ 0 → d ≤ n
divisor_le n d some whole = at (n / d) (omega (arith, div-add-mod' n d))
  where
    at : (q : ℕ) → q * d ≡ n → d ≤ n
    at zero e = absurd (omega arith)
    at (suc q) e = omega arith

-- what a settings record's numbers keep
pub record Ranges (s : Settings) : Type 0 where
  pub depth_low : 0 < s.depth
  pub depth_high : s.depth ≤ 8
  pub rows_low : 0 < s.rows
  pub rows_high : s.rows ≤ 4096
  pub symbol_low : 0 < s.symbol
  -- the symbols of a row fill it
  pub symbol_whole : row_length s % s.symbol ≡ 0
  pub subframe_rows_low : 0 < s.subframe_rows
  pub subframe_rows_high : s.subframe_rows ≤ s.rows
  -- the subframes of a block fill it
  pub subframes_whole : s.rows % s.subframe_rows ≡ 0
  pub miss_limit_low : 0 < s.miss_limit
  pub miss_limit_high : s.miss_limit ≤ 255

pub ranges : (s : Settings) → Ranges s
ranges s = record {
  depth_low = depth_low s.depth s.depth_allowed;
  depth_high = depth_high s.depth s.depth_allowed;
  rows_low = rows_some s.rows s.rows_allowed;
  rows_high = rows_few s.rows s.rows_allowed;
  symbol_low = symbol_some s.depth s.symbol s.symbol_allowed;
  symbol_whole = symbol_divides s.depth s.symbol s.symbol_allowed;
  subframe_rows_low = subframe_some s.rows s.subframe_rows s.subframe_rows_allowed;
  subframe_rows_high = divisor_le s.rows s.subframe_rows (rows_some s.rows s.rows_allowed) (subframe_divides s.rows s.subframe_rows s.subframe_rows_allowed);
  subframes_whole = subframe_divides s.rows s.subframe_rows s.subframe_rows_allowed;
  miss_limit_low = misses_some s.miss_limit s.miss_limit_allowed;
  miss_limit_high = misses_few s.miss_limit s.miss_limit_allowed;
}
  where
    rows_some : (n : ℕ) → rows_are_allowed n ≡ true → 0 < n
    rows_some n h = grind (arith, nat_tests)

    rows_few : (n : ℕ) → rows_are_allowed n ≡ true → n ≤ 4096
    rows_few n h = grind (arith, nat_tests)

    symbol_some : (d k : ℕ) → symbol_is_allowed d k ≡ true → 0 < k
    symbol_some d k h = grind (arith, nat_tests)

    symbol_divides : (d k : ℕ) → symbol_is_allowed d k ≡ true → 255 * d % k ≡ 0
    symbol_divides d k h = grind (arith, nat_tests)

    subframe_some : (n l : ℕ) → subframe_rows_are_allowed n l ≡ true → 0 < l
    subframe_some n l h = grind (arith, nat_tests)

    subframe_divides : (n l : ℕ) → subframe_rows_are_allowed n l ≡ true → n % l ≡ 0
    subframe_divides n l h = grind (arith, nat_tests)

    misses_some : (m : ℕ) → miss_limit_is_allowed m ≡ true → 0 < m
    misses_some m h = grind (arith, nat_tests)

    misses_few : (m : ℕ) → miss_limit_is_allowed m ≡ true → m ≤ 255
    misses_few m h = grind (arith, nat_tests)

-- the subframes of a block hold its data
pub subframes_fill : (s : Settings) → subframes s * s.subframe_rows ≡ s.rows
subframes_fill s = omega (arith, div-add-mod' s.rows s.subframe_rows, (ranges s).subframes_whole)

pub row_length_high : (s : Settings) → row_length s ≤ 2040
row_length_high s = omega (arith, (ranges s).depth_high)

pub block_length_high : (s : Settings) → block_length s ≤ 8355840
block_length_high s = mul-le (row_length s) s.rows 2040 4096 (row_length_high s) (ranges s).rows_high

pub subframe_data_high : (s : Settings) → subframe_data s ≤ 8355840
subframe_data_high s =
    let r = ranges s in
    mul-le (row_length s) s.subframe_rows 2040 4096 (row_length_high s) (omega arith)

pub period_high : (s : Settings) → period s ≤ 8355847
period_high s = omega (arith, subframe_data_high s)

pub resync_length_high : (s : Settings) → resync_length s ≤ 2130740985
resync_length_high s = mul-le s.miss_limit (period s) 255 8355847 (ranges s).miss_limit_high (period_high s)

-- a number of rows or misses times a length fits a machine word
pub product_fits : (a b : ℕ) → a ≤ 4096 → b ≤ 8355847 → Fits w64 (a * b)
product_fits a b ha hb = omega (arith, mul-le a b 4096 8355847 ha hb)
