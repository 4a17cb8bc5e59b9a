-- What the settings' ranges give: places and fades are small numbers.
use Rattle.std.specs.Prelude.{◌≡◌, ℕ, ◌+◌, ◌*◌, ◌/◌, ◌%◌, ◌<◌, ◌≤◌, true}
use Rattle.std.proofs.Common.{ap, le_refl, div-add-mod', div-le_self, arith}
use Rattle.std.proofs.lemmas.Nat.{mul-le, mul-add-lt, mod_below}
use Rattle.std.proofs.lemmas.Bool.Decides.{nat_tests}
use Rattle.settings.proofs.Ranges.{ranges, block_length_high}
use Rattle.settings.specs.declared.Settings.{Settings}
use Rattle.settings.specs.Lengths.{block_length}
use Rattle.mapping.specs.Interleaver.{columns, symbol_place, step_of}
use Rattle.mapping.specs.declared.interleaver.Interleaver.{Interleaver}
use Rattle.mapping.specs.declared.interleaver.Interleaver.TheVariants.{Block, Stepped}
use Rattle.octets.specs.Words.{max_reach}
use Rattle.mapping.specs.Refusal.{interleaver_is_allowed, step_is_allowed}
use Rattle.mapping.specs.InterleaverLemmas.{Cut}

-- the symbols of a settings record fill its rows
pub cut_of : (s : Settings) → Cut s.depth s.rows s.symbol
cut_of s = let r = ranges s in record { deep = r.depth_low; some = r.rows_low; symbol = r.symbol_low; whole = r.symbol_whole }

-- a fade of x octets of a row is no more than x octets of each row
fade_le : (x N k : ℕ) → 0 < N → x / k * N * k + x % k ≤ N * x
fade_le x N k h = omega (arith, ap (λ n. N * n) (div-add-mod' x k), mul-le 1 (x % k) N (x % k) h (le_refl (x % k)))

-- the octets of a symbol lie within the block
pub symbol_place_lt : (s : Settings) (row column e : ℕ) → row < s.rows → column < columns s.depth s.symbol → e < s.symbol
    → symbol_place s.depth s.symbol row column e < block_length s
symbol_place_lt s row column e hr hc he =
    let d = s.depth in let k = s.symbol in
    let whole : 255 * d / k * k ≡ 255 * d = omega (arith, div-add-mod' (255 * d) k, (ranges s).symbol_whole) in
    let low : column * k + e < 255 * d = omega (arith, mul-add-lt column k e (255 * d / k) hc he, whole) in
    omega (arith, mul-add-lt row (255 * d) (column * k + e) s.rows hr low)

-- and so are small numbers
pub symbol_place_fits : (s : Settings) (row column e : ℕ) → row < s.rows → column < columns s.depth s.symbol → e < s.symbol
    → symbol_place s.depth s.symbol row column e < 8355840
symbol_place_fits s row column e hr hc he = omega (arith, symbol_place_lt s row column e hr hc he, block_length_high s)

pub fade_fits : (s : Settings) (t : ℕ) → t ≤ max_reach
    → t * s.depth / s.symbol * s.rows * s.symbol + t * s.depth % s.symbol ≤ 4096 * (max_reach * 8)
fade_fits s t h =
    let r = ranges s in
    let few = mul-le t s.depth max_reach 8 h r.depth_high in
    omega (arith, fade_le (t * s.depth) s.rows s.symbol r.rows_low, mul-le s.rows (t * s.depth) 4096 (max_reach * 8) r.rows_high few)

pub step_high : (step : ℕ) → step_is_allowed step ≡ true → step ≤ 255
step_high step h = grind (arith, nat_tests)

pub step_of_high : (i : Interleaver) → interleaver_is_allowed i ≡ true → step_of i ≤ 255
step_of_high Block h = omega arith
step_of_high (Stepped step) h = step_high step h

-- a stepped column, before it is taken round the row's end
pub stepped_column_fits : (s : Settings) (step p : ℕ) → step ≤ 255 → p < block_length s
    → p / s.symbol / s.rows + p / s.symbol % s.rows * step ≤ 9400320
stepped_column_fits s step p hs hp =
    let r = ranges s in
    let row = mod_below (p / s.symbol) s.rows r.rows_low in
    let turns = mul-le (p / s.symbol % s.rows) step 4096 255 (omega (arith, r.rows_high)) hs in
    omega (arith, block_length_high s, div-le_self p s.symbol, div-le_self (p / s.symbol) s.rows, turns)
