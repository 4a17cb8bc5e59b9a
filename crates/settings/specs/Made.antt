-- What making a settings record answers.
use Rattle.std.specs.Prelude.{◌≡◌, ℕ, Some, None, Ok, Err, Result}
use Rattle.settings.specs.Refusal.{refusal}
use Rattle.settings.specs.declared.Settings.{Settings}
use Rattle.settings.specs.declared.fault.SettingsFault.{SettingsFault}

-- a record with just these numbers
pub record Holds (depth rows symbol subframe_rows miss_limit : ℕ) (s : Settings) : Type 0 where
  pub depth_is : s.depth ≡ depth
  pub rows_is : s.rows ≡ rows
  pub symbol_is : s.symbol ≡ symbol
  pub subframe_rows_is : s.subframe_rows ≡ subframe_rows
  pub miss_limit_is : s.miss_limit ≡ miss_limit

-- the record if no check fails, else the first that does
abbrev pub Made : ℕ → ℕ → ℕ → ℕ → ℕ → Result Settings SettingsFault → Type 0
Made depth rows symbol subframe_rows miss_limit (Ok s) = (refusal depth rows symbol subframe_rows miss_limit ≡ None) × Holds depth rows symbol subframe_rows miss_limit s
Made depth rows symbol subframe_rows miss_limit (Err e) = refusal depth rows symbol subframe_rows miss_limit ≡ Some e
